-- The digits of an answer are ASCII digits, by the patterns of any file.
use Rattle.std.proofs.Common.{◌≡◌, ◌⊎◌, ◌∙◌, ℕ, zero, suc, inl, inr, ◌+◌, ◌-◌, ◌<◌, max, Bool, true, false, cond, List, [], ◌∷◌, length, map, take, drop, get_or, Option, None, Some, refl, sym, ap, subst, arith, nat_lt}
use Rattle.std.specs.Prelude.{◌&&◌, ◌==◌, codes, filter, fold, slice_range, slice_set, unwrap_or}
use Rattle.std.specs.Char.{is_ascii_digit}
use Rattle.std.specs.Cmp.Lexicographic.{slice_cmp, nat_list_cmp_total}
use Rattle.std.specs.FinMap as finite
use Rattle.std.specs.FinMap.{get-empty, get-insert}
use Rattle.std.specs.List.{after_first, before_first, list_all, list_any, range_with_len, slice_get}
use Rattle.std.specs.Option.{option_and_then}
use Rattle.std.specs.Ordering.{eq_by_cmp, nat_cmp}
use Rattle.std.proofs.lemmas.Bool.{and_parts, cases_Bool, cases_lt}
use Rattle.std.proofs.lemmas.Option.{none-some}
use Rattle.std.proofs.lemmas.List.{get_or_default, get_or_past}
use Rattle.hyphenation_breaks.specs.Ascii.{digit_zero, percent}
use Rattle.hyphenation_breaks.specs.Dictionary.{TextMap}
use Rattle.libhyphen_files.specs.Bytes.{before_nul, begins_with}
use Rattle.libhyphen_files.specs.Files.{Rules, charset_of, dash_lines, default_first_level, is_next_level, is_utf8_name, level_of, rules_of, rules_of_lines}
use Rattle.libhyphen_files.specs.Lines.{lines_of}
use Rattle.libhyphen_files.specs.Levels.{Level, empty_level, pattern_at, setting, texts_without_breaks, with_line, with_text}
use Rattle.libhyphen_files.specs.Patterns.{Pattern, begins_with_dot, changing_digits, digits_from, digits_of, is_changing, key_of, pattern_of, spelt}
use Rattle.libhyphen_rule.specs.declared.calls.CallMinima.{CallMinima}
use Rattle.libhyphen_rule.specs.Calls.{Answer, answer_in_bytes, answer_in_characters, answer_of, answer_of_found, begins_within, digits_by_no_hyphen, found_by_call, least_of, no_hyphen_digit, part_minima, at_least_two}
use Rattle.libhyphen_rule.specs.Counting.{counted_in, framed, shown}
use Rattle.libhyphen_rule.specs.Laws.{AnswersHaveAsciiDigits, digit_of_pattern, is_beside_some}
use Rattle.libhyphen_rule.specs.Minima.{digits_but, left_goes, right_goes}
use Rattle.libhyphen_rule.specs.OneLevel.{ChangeAt, digit_at, digit_behind, is_odd, level_digits, offers}
use Rattle.libhyphen_rule.specs.Parts.{Asked, Asking, Found, PartMinima, Parting, ask_by, ask_none, asked_of, digit_with, digits_with, ends_part, first_level_found, found_by_first_level, found_by_next_level, found_in, is_within, most_depth, next_level_found, part_asked, part_text, parted_up_to, with_behind, with_part, with_part_to, without_left, without_left_of_part, without_right, without_right_of_part}
use Rattle.libhyphen_rule.specs.Words.{digits_of_characters, is_beside, is_last, last_bytes}
use Rattle.libhyphen_rule.proofs.ClosedPatterns.{some_gives}
use Rattle.libhyphen_rule.proofs.FoundSizes.{call-size, kept-length, some_answer}
use Rattle.libhyphen_rule.proofs.RaisedDigits.{behind_inner, behind_last}
use Rattle.libhyphen_rule.proofs.Whence.{mapped_at, mapped_past}

abbrev IsDigit : ℕ → Type 0
IsDigit d = is_ascii_digit d ≡ true

abbrev AllDigits : List ℕ → Type 0
AllDigits digits = list_all is_ascii_digit digits ≡ true

-- ---- Lines of a file.

more_digits : (d : ℕ) (ds : List ℕ) → IsDigit d → AllDigits ds → AllDigits (d ∷ ds)
more_digits d ds here rest = ap (λ (t : Bool). t && list_all is_ascii_digit ds) here ∙ rest

spelt_digits : (d : ℕ) (text : List ℕ) → IsDigit d → AllDigits (digits_from d text)
spelt_digits d [] here = more_digits d [] here refl
spelt_digits d (b ∷ bs) here = elim (cases_Bool (is_ascii_digit b)) [
  | inl digit ↦ ap (λ (t : Bool). list_all is_ascii_digit (cond {A = List ℕ} t (digits_from b bs) (d ∷ digits_from digit_zero bs))) digit ∙ spelt_digits b bs digit
  | inr other ↦ ap (λ (t : Bool). list_all is_ascii_digit (cond {A = List ℕ} t (digits_from b bs) (d ∷ digits_from digit_zero bs))) other
      ∙ more_digits d (digits_from digit_zero bs) here (spelt_digits digit_zero bs refl)
]

either_digits : (b : Bool) (xs ys : List ℕ) → AllDigits xs → AllDigits ys → AllDigits (cond {A = List ℕ} b xs ys)
either_digits true xs ys x y = x
either_digits false xs ys x y = y

first_zero : (ds : List ℕ) → AllDigits ds → AllDigits (slice_set ds 0 digit_zero)
first_zero [] all = refl
first_zero (d ∷ ds) all = more_digits digit_zero ds refl (and_parts (is_ascii_digit d) (list_all is_ascii_digit ds) all).1

line_digits : (line : List ℕ) → AllDigits (digits_of line)
line_digits line =
    let all : AllDigits (digits_from digit_zero (spelt line)) = spelt_digits digit_zero (spelt line) refl in
    either_digits (is_changing line) (changing_digits (key_of line) (digits_from digit_zero (spelt line))) (digits_from digit_zero (spelt line))
    (either_digits (begins_with_dot (key_of line)) (slice_set (digits_from digit_zero (spelt line)) 0 digit_zero) (digits_from digit_zero (spelt line)) (first_zero (digits_from digit_zero (spelt line)) all) all) all

-- Each pattern has ASCII digits.
abbrev HasDigits : TextMap (List Pattern) → Type 0
HasDigits patterns = (key : List ℕ) (pattern : Pattern) → pattern_at patterns key ≡ Some pattern → AllDigits pattern.digits

no_patterns : HasDigits finite.empty
no_patterns key pattern found =
    absurd (none-some pattern (sym (ap (option_and_then (λ (f : List Pattern). slice_get f 0)) (get-empty (slice_cmp nat_cmp) key)) ∙ found))

one_more : (patterns : TextMap (List Pattern)) (key : List ℕ) (pattern : Pattern) → HasDigits patterns → AllDigits pattern.digits → HasDigits (finite.insert patterns key (pattern ∷ []))
one_more patterns key pattern before all q p found =
    by (eq_by_cmp (slice_cmp nat_cmp) q key) (sym (ap (option_and_then (λ f. slice_get f 0)) (get-insert nat_list_cmp_total patterns key (pattern ∷ []) q)) ∙ found)
  where
    by : (t : Bool) → option_and_then (λ f. slice_get f 0) (cond t (Some (pattern ∷ [])) (finite.get patterns q)) ≡ Some p → AllDigits p.digits
    by true h =
        let same : pattern ≡ p = cc in
        subst (λ (x : Pattern). AllDigits x.digits) same all
    by false h = before q p h

either_level : (b : Bool) (x y : Level) → HasDigits x.patterns → HasDigits y.patterns → HasDigits (cond {A = Level} b x y).patterns
either_level true x y in_x in_y = in_x
either_level false x y in_x in_y = in_y

with_text_digits : (utf8 : Bool) (level : Level) (line : List ℕ) → HasDigits level.patterns → HasDigits (with_text utf8 level line).patterns
with_text_digits utf8 level line has =
    let more : Level = record level { patterns = finite.insert level.patterns (key_of line) (pattern_of utf8 line ∷ []) } in
    let six : Level = cond {A = Level} (length (key_of line) == 0) level more in
    let in_five : Level = record level { no_hyphen = texts_without_breaks (drop 8 line) } in
    let five : Level = cond {A = Level} (begins_with line (codes "NOHYPHEN")) in_five six in
    let in_four : Level = record level { minima = record level.minima { compound_right = setting 22 line } } in
    let four : Level = cond {A = Level} (begins_with line (codes "COMPOUNDRIGHTHYPHENMIN")) in_four five in
    let in_three : Level = record level { minima = record level.minima { compound_left = setting 21 line } } in
    let three : Level = cond {A = Level} (begins_with line (codes "COMPOUNDLEFTHYPHENMIN")) in_three four in
    let in_two : Level = record level { minima = record level.minima { right = setting 14 line } } in
    let two : Level = cond {A = Level} (begins_with line (codes "RIGHTHYPHENMIN")) in_two three in
    let in_one : Level = record level { minima = record level.minima { left = setting 13 line } } in
    either_level (begins_with line (codes "LEFTHYPHENMIN")) in_one two has
    (either_level (begins_with line (codes "RIGHTHYPHENMIN")) in_two three has
    (either_level (begins_with line (codes "COMPOUNDLEFTHYPHENMIN")) in_three four has
    (either_level (begins_with line (codes "COMPOUNDRIGHTHYPHENMIN")) in_four five has
    (either_level (begins_with line (codes "NOHYPHEN")) in_five six has
    (either_level (length (key_of line) == 0) level more has (one_more level.patterns (key_of line) (pattern_of utf8 line) has (line_digits line)))))))

lines_digits : (utf8 : Bool) (lines : List (List ℕ)) (level : Level) → HasDigits level.patterns → HasDigits (fold (with_line utf8) level lines).patterns
lines_digits utf8 [] level has = has
lines_digits utf8 (line ∷ lines) level has =
    lines_digits utf8 lines (with_line utf8 level line) (either_level (begins_with line (percent ∷ [])) level (with_text utf8 level (before_nul line)) has (with_text_digits utf8 level (before_nul line) has))

level_of_digits : (utf8 : Bool) (lines : List (List ℕ)) → HasDigits (level_of utf8 lines).patterns
level_of_digits utf8 lines = lines_digits utf8 lines empty_level no_patterns

record BothHaveDigits (rules : Rules) : Type 0 where
  pub first : HasDigits rules.first_level.patterns
  pub next : HasDigits rules.next_level.patterns

either_rules : (b : Bool) (x y : Rules) → BothHaveDigits x → BothHaveDigits y → BothHaveDigits (cond {A = Rules} b x y)
either_rules true x y in_x in_y = in_x
either_rules false x y in_x in_y = in_y

lines_have_digits : (charset : List ℕ) (utf8 : Bool) (lines : List (List ℕ)) → BothHaveDigits (rules_of_lines charset utf8 lines)
lines_have_digits charset utf8 lines =
    let first : List (List ℕ) = before_first is_next_level lines in
    let next : List (List ℕ) = before_first is_next_level (after_first is_next_level lines) in
    let two : Rules = record { charset = charset; utf8 = utf8; first_level = level_of utf8 first; next_level = level_of utf8 next } in
    let one : Rules = record { charset = charset; utf8 = utf8; first_level = default_first_level utf8 (level_of utf8 lines); next_level = level_of utf8 lines } in
    either_rules (list_any is_next_level lines) two one
    (record { first = level_of_digits utf8 first; next = level_of_digits utf8 next })
    (record { first = level_of_digits utf8 (dash_lines utf8); next = level_of_digits utf8 lines })

file_digits : (file : List ℕ) → BothHaveDigits (rules_of file)
unfolding rules_of
file_digits file =
    let charset : List ℕ = charset_of (unwrap_or (slice_get (lines_of file) 0) []) in
    lines_have_digits charset (is_utf8_name charset) (drop 1 (lines_of file))

-- ---- One level.

digit_of_all : (ds : List ℕ) (k : ℕ) → AllDigits ds → k < length ds → IsDigit (get_or ds k 0)
digit_of_all [] k all lt = absurd (omega (arith, lt))
digit_of_all (d ∷ ds) zero all lt = (and_parts (is_ascii_digit d) (list_all is_ascii_digit ds) all).0
digit_of_all (d ∷ ds) (suc k) all lt = digit_of_all ds k (and_parts (is_ascii_digit d) (list_all is_ascii_digit ds) all).1 (omega (arith, lt))

all_taken : (n : ℕ) (ds : List ℕ) → AllDigits ds → AllDigits (take n ds)
all_taken zero ds all = refl
all_taken (suc n) [] all = refl
all_taken (suc n) (d ∷ ds) all =
    let parts = and_parts (is_ascii_digit d) (list_all is_ascii_digit ds) all in more_digits d (take n ds) parts.0 (all_taken n ds parts.1)

greatest : (d : ℕ) → (48 < d → IsDigit d) → IsDigit (max 48 d)
greatest d is = elim (cases_lt 48 d) [
  | inl lt ↦ let same : max 48 d ≡ d = omega (arith, lt) in ap is_ascii_digit same ∙ is lt
  | inr le ↦ let same : max 48 d ≡ 48 = omega (arith, le) in ap is_ascii_digit same
]

of_pattern : (bytes number : ℕ) (o : Option Pattern) → ((pattern : Pattern) → o ≡ Some pattern → AllDigits pattern.digits) → IsDigit (digit_of_pattern bytes number o)
of_pattern bytes number None all = refl
of_pattern bytes number (Some pattern) all =
    let ds : List ℕ = take (bytes + 1) pattern.digits in
    greatest (get_or ds number 0) (λ lt. elim (cases_lt number (length ds)) [
      | inl within ↦ digit_of_all ds number (all_taken (bytes + 1) pattern.digits (all pattern refl)) within
      | inr past ↦ let none = get_or_past ds number 0 past in absurd (omega (arith, lt, none))
    ])

-- Each item is an ASCII digit; past the end there is 0.
abbrev EachDigit : List ℕ → Type 0
EachDigit digits = (k : ℕ) → IsDigit (get_or digits k digit_zero)

at_digit : (patterns : TextMap (List Pattern)) → HasDigits patterns → (frame : List ℕ) (place : ℕ) → IsDigit (digit_at (offers (counted_in patterns frame)) place)
at_digit patterns has frame place = elim (some_gives patterns frame place) [
  | inl none ↦ ap is_ascii_digit none
  | inr some ↦
      let key : List ℕ = slice_range frame some.0 some.1 in
      ap is_ascii_digit (sym some.2.gives) ∙ of_pattern (length key) (place - some.0) (pattern_at patterns key) (has key)
]

of_level : (level : Level) → HasDigits level.patterns → (word : List ℕ) → EachDigit (level_digits level word)
unfolding level_digits
of_level level has word k =
    let given = offers (counted_in level.patterns (framed word)) in
    let f : ℕ → ℕ = digit_behind given (length word) in
    elim (cases_lt k (length word)) [
      | inr past ↦ ap is_ascii_digit (mapped_past f (length word) k digit_zero past)
      | inl lt ↦ ap is_ascii_digit (mapped_at f (length word) k digit_zero lt) ∙ (elim (cases_lt (k + 1) (length word)) [
        | inl inside ↦ ap is_ascii_digit (behind_inner given (length word) k inside) ∙ at_digit level.patterns has (framed word) (k + 2)
        | inr end ↦ ap is_ascii_digit (behind_last given (length word) k end)
      ])
    ]

-- ---- Both levels.

each_mapped : (f : ℕ → ℕ) (n : ℕ) → ((k : ℕ) → k < n → IsDigit (f k)) → EachDigit (map f (range_with_len 0 n))
each_mapped f n all k = elim (cases_lt k n) [
  | inr past ↦ ap is_ascii_digit (mapped_past f n k digit_zero past)
  | inl lt ↦ ap is_ascii_digit (mapped_at f n k digit_zero lt) ∙ all k lt
]

here : (digits : List ℕ) (k : ℕ) → EachDigit digits → k < length digits → IsDigit (get_or digits k 0)
here digits k each lt = ap is_ascii_digit (get_or_default digits k 0 digit_zero lt) ∙ each k

one_of : (b : Bool) (x y : ℕ) → IsDigit x → IsDigit y → IsDigit (cond {A = ℕ} b x y)
one_of true x y in_x in_y = in_x
one_of false x y in_x in_y = in_y

each_but : (goes : ℕ → Bool) (digits : List ℕ) → EachDigit digits → EachDigit (digits_but goes digits)
each_but goes digits each =
    each_mapped (λ byte. cond (goes byte) digit_zero (get_or digits byte 0)) (length digits) (λ k lt. one_of (goes k) digit_zero (get_or digits k 0) refl (here digits k each lt))

each_with : (digits : List ℕ) (begin count : ℕ) (part : List ℕ) → EachDigit digits → EachDigit part → EachDigit (digits_with digits begin count part)
unfolding digits_with
each_with digits begin count part each inner =
    each_mapped (digit_with digits begin count part) (length digits)
    (λ k lt. one_of (is_within begin count k) (get_or part (k - begin) digit_zero) (get_or digits k 0) (inner (k - begin)) (here digits k each lt))

either_found : (b : Bool) (x y : Found) → EachDigit x.digits → EachDigit y.digits → EachDigit (cond {A = Found} b x y).digits
either_found true x y in_x in_y = in_x
either_found false x y in_x in_y = in_y

left_of_part : (utf8 : Bool) (minima : PartMinima) (asked : Asked) (found : Found) → EachDigit found.digits → EachDigit (without_left_of_part utf8 minima asked found).digits
unfolding without_left_of_part
left_of_part utf8 minima asked found each =
    either_found asked.at_left found (without_left utf8 minima.left (with_behind asked) found) each (each_but (left_goes utf8 minima.left (with_behind asked) found.changes) found.digits each)

right_of_part : (utf8 : Bool) (minima : PartMinima) (asked : Asked) (found : Found) → EachDigit found.digits → EachDigit (without_right_of_part utf8 minima asked found).digits
unfolding without_right_of_part
right_of_part utf8 minima asked found each =
    either_found asked.at_right found (without_right utf8 minima.right asked.text (with_behind asked) found) each
    (each_but (right_goes utf8 minima.right asked.text (with_behind asked) found.changes) found.digits each)

abbrev EachIfFound : Option Found → Type 0
EachIfFound None = Unit {0}
EachIfFound (Some found) = EachDigit found.digits

with_part_digits : (whole : Found) (begin count : ℕ) (part : Option Found) → EachDigit whole.digits → EachIfFound part → EachDigit (with_part whole begin count part).digits
unfolding with_part
with_part_digits whole begin count None each inner = each
with_part_digits whole begin count (Some part) each inner = each_with whole.digits begin count part.digits each inner

abbrev AsksDigits : Asking → Type 0
AsksDigits ask = (parts : ℕ) (asked : Asked) → EachIfFound (ask parts asked)

with_part_to_digits : (ask : Asking) → AsksDigits ask → (whole : Asked) (parting : Parting) (byte : ℕ) → EachDigit parting.found.digits
    → EachDigit (with_part_to ask whole parting byte).found.digits
unfolding with_part_to
with_part_to_digits ask asks whole parting byte each =
    let change : Option ChangeAt = get_or parting.found.changes byte None in
    let part : Asked = asked_of whole parting.begin (byte + 1) (part_text parting.seen parting.begin (byte + 1) change) in
    elim (nat_lt (parting.begin + 1) byte)
    as (λ b. EachDigit (cond {A = Parting} b (part_asked ask whole parting byte change) (record parting { begin = byte + 1 })).found.digits) [
      | true ↦ with_part_digits parting.found parting.begin (byte - parting.begin - 1) (ask parting.found.parts part) each (asks parting.found.parts part)
      | false ↦ each
    ]

fold_parts_digits : (ask : Asking) → AsksDigits ask → (whole : Asked) (parting : Parting) (ends : List ℕ) → EachDigit parting.found.digits
    → EachDigit (fold (with_part_to ask whole) parting ends).found.digits
fold_parts_digits ask asks whole parting [] each = each
fold_parts_digits ask asks whole parting (end ∷ ends) each =
    fold_parts_digits ask asks whole (with_part_to ask whole parting end) ends (with_part_to_digits ask asks whole parting end each)

parted_digits : (ask : Asking) → AsksDigits ask → (whole : Asked) (found : Found) (bytes : ℕ) → EachDigit found.digits → EachDigit (parted_up_to ask whole found bytes).found.digits
unfolding parted_up_to
parted_digits ask asks whole found bytes each =
    fold_parts_digits ask asks whole (record { found = found; begin = 0; seen = map shown whole.text }) (filter (ends_part found.digits) (range_with_len 0 bytes)) each

first_digits : (rules : Rules) → BothHaveDigits rules → (parts : ℕ) (text : List ℕ) → EachDigit (first_level_found rules parts text).digits
unfolding first_level_found
first_digits rules has parts text = of_level rules.first_level has.first text

next_digits : (rules : Rules) → BothHaveDigits rules → (parts : ℕ) (text : List ℕ) (tops : List (Option ChangeAt)) → EachDigit (next_level_found rules parts text tops).digits
unfolding next_level_found
next_digits rules has parts text tops = of_level rules.next_level has.next text

by_next_digits : (rules : Rules) → BothHaveDigits rules → (minima : PartMinima) (parts : ℕ) (asked : Asked) (tops : List (Option ChangeAt))
    → EachDigit (found_by_next_level rules minima parts asked tops).digits
unfolding found_by_next_level
by_next_digits rules has minima parts asked tops =
    let found : Found = next_level_found rules parts asked.text tops in
    let kept : Found = without_left_of_part rules.utf8 minima asked found in
    right_of_part rules.utf8 minima asked kept (left_of_part rules.utf8 minima asked found (next_digits rules has parts asked.text tops))

by_first_digits : (rules : Rules) → BothHaveDigits rules → (minima : PartMinima) (ask : Asking) → AsksDigits ask → (parts : ℕ) (asked : Asked)
    → EachDigit (found_by_first_level rules minima ask parts asked (first_level_found rules parts asked.text)).digits
by_first_digits rules has minima ask asks parts asked =
    let found : Found = first_level_found rules parts asked.text in
    let each = first_digits rules has parts asked.text in
    either_found (list_any is_odd found.digits) (parted_up_to ask asked found (length asked.text)).found (found_by_next_level rules minima parts asked found.changes)
    (parted_digits ask asks asked found (length asked.text) each) (by_next_digits rules has minima parts asked found.changes)

ask_by_digits : (find : ℕ → Asked → Found) → ((parts : ℕ) (asked : Asked) → EachDigit (find parts asked).digits) → AsksDigits (ask_by find)
ask_by_digits find each zero asked = tt
ask_by_digits find each (suc parts) asked = each parts asked

found_digits : (rules : Rules) → BothHaveDigits rules → (minima : PartMinima) (depth parts : ℕ) (asked : Asked) → EachDigit (found_in rules minima depth parts asked).digits
unfolding found_in
found_digits rules has minima zero parts asked = by_first_digits rules has minima ask_none (λ _ _. tt) parts asked
found_digits rules has minima (suc depth) parts asked =
    by_first_digits rules has minima (ask_by (found_in rules minima depth)) (ask_by_digits (found_in rules minima depth) (found_digits rules has minima depth)) parts asked

call_digits : (rules : Rules) → BothHaveDigits rules → (given : Option CallMinima) (text : List ℕ) (size : ℕ) → EachDigit (found_by_call rules given text size).digits
unfolding found_by_call
call_digits rules has given text size =
    let least = least_of rules.first_level.minima given in
    let whole : Asked = record { text = take size text; behind = drop size text; at_left = true; at_right = true } in
    let base : Found = found_in rules (part_minima least) most_depth (length (take size text)) whole in
    let kept : Found = without_left rules.utf8 (at_least_two least.left) (before_nul text) base in
    each_but (right_goes rules.utf8 (at_least_two least.right) (take size text) (before_nul text) kept.changes) kept.digits
    (each_but (left_goes rules.utf8 (at_least_two least.left) (before_nul text) base.changes) base.digits
    (found_digits rules has (part_minima least) most_depth (length (take size text)) whole))

-- ---- An answer.

abbrev IsAnswered : Option CallMinima → ℕ → Type 0
IsAnswered given d = IsDigit d ⊎ (d ≡ no_hyphen_digit given)

answered : (rules : Rules) (given : Option CallMinima) (text digits : List ℕ) (k : ℕ) → EachDigit digits → k < length digits
    → IsAnswered given (get_or (digits_by_no_hyphen rules given text digits) k 0)
answered rules given text digits k each lt =
    subst (λ (d : ℕ). IsAnswered given d)
    (sym (mapped_at (λ byte. cond (list_any (is_beside (before_nul text) byte) rules.first_level.no_hyphen) (no_hyphen_digit given) (get_or digits byte 0)) (length digits) k 0 lt))
    (elim (cases_Bool (is_beside_some rules text k)) [
      | inl beside ↦ inr (ap (λ (b : Bool). cond {A = ℕ} b (no_hyphen_digit given) (get_or digits k 0)) beside)
      | inr apart ↦ inl (ap (λ (b : Bool). is_ascii_digit (cond {A = ℕ} b (no_hyphen_digit given) (get_or digits k 0))) apart ∙ here digits k each lt)
    ])

-- A fact of each number is one of those that pass a test.
filtered : (Q : ℕ → Type 0) (f : ℕ → ℕ) (test : ℕ → Bool) (a n : ℕ) → ((k : ℕ) → k < a + n → Q (f k))
    → (place : ℕ) → place < length (map f (filter test (range_with_len a n))) → Q (get_or (map f (filter test (range_with_len a n))) place 0)
filtered Q f test a zero all place lt = absurd (omega (arith, lt))
filtered Q f test a (suc n) all place lt = by (test a) (filtered Q f test (a + 1) n (λ k less. all k (omega (arith, less)))) place lt
  where
    rest : List ℕ
    rest = filter test (range_with_len (a + 1) n)

    by : (b : Bool) → ((place : ℕ) → place < length (map f rest) → Q (get_or (map f rest) place 0))
        → (place : ℕ) → place < length (map f (cond {A = List ℕ} b (a ∷ rest) rest)) → Q (get_or (map f (cond {A = List ℕ} b (a ∷ rest) rest)) place 0)
    by true inner zero lt = all a (omega arith)
    by true inner (suc place) lt = inner place (omega (arith, lt))
    by false inner place lt = inner place lt

in_characters : (given : Option CallMinima) (word digits : List ℕ) → ((k : ℕ) → k < length word → IsAnswered given (get_or digits k 0))
    → (place : ℕ) → place < length (digits_of_characters word digits) → IsAnswered given (get_or (digits_of_characters word digits) place 0)
unfolding last_bytes
in_characters given word digits all =
    filtered (IsAnswered given) (λ byte. get_or digits byte 0) (is_last word) 0 (length word) (λ k lt. all k (omega (arith, lt)))

pub have_digits : AnswersHaveAsciiDigits
unfolding answer_of
have_digits file given text size answer is place lt =
    let rules : Rules = rules_of file in
    let found : Found = found_by_call rules given text size in
    let digits : List ℕ = digits_by_no_hyphen rules given text found.digits in
    let long = call-size rules given text size in
    let each : (k : ℕ) → k < length (take size text) → IsAnswered given (get_or digits k 0) =
    λ k less. answered rules given text found.digits k (call_digits rules (file_digits file) given text size) (omega (arith, less, long.digits)) in
    let parts = some_answer (begins_within rules text) (answer_of_found rules given text size found) answer is in
    by rules.utf8 digits found each (kept-length rules given text found.digits ∙ long.digits) (ap (λ (a : Answer). a.digits) parts.1) place lt
  where
    by : (utf8 : Bool) (digits : List ℕ) (found : Found) → ((k : ℕ) → k < length (take size text) → IsAnswered given (get_or digits k 0)) → length digits ≡ length (take size text)
        → (cond {A = Answer} utf8 (answer_in_characters text size found digits) (answer_in_bytes found digits)).digits ≡ answer.digits
        → (place : ℕ) → place < length answer.digits → IsAnswered given (get_or answer.digits place 0)
    by true digits found each long same place lt =
        subst (λ (ds : List ℕ). IsAnswered given (get_or ds place 0)) same
        (in_characters given (take size text) digits each place (omega (arith, lt, ap (λ (ds : List ℕ). length ds) same)))
    by false digits found each long same place lt =
        subst (λ (ds : List ℕ). IsAnswered given (get_or ds place 0)) same
        (each place (omega (arith, lt, long, ap (λ (ds : List ℕ). length ds) same)))

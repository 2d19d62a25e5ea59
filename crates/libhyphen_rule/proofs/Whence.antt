-- Whence the digits of a call come: from a level, in a part of the word.
use Rattle.std.proofs.Common.{◌≡◌, ◌≢◌, ◌⊎◌, ◌==◌, ◌∙◌, ℕ, zero, suc, inl, inr, ◌+◌, ◌-◌, ◌<◌, ◌≤◌, Bool, true, false, cond, List, [], ◌∷◌, ◌++◌, length, map, take, drop, get_or, set, Option, None, Some, refl, sym, ap, subst, arith, zero-add, nat_lt, nat_le, true≢false}
use Rattle.std.specs.Prelude.{◌&&◌, slice_range}
use Rattle.std.specs.Char.{is_ascii_digit}
use Rattle.std.specs.List.{list_any, range_with_len}
use Rattle.std.specs.Option.{option_or}
use Rattle.std.proofs.lemmas.Bool.{and_parts, cases_Bool, cases_eq, cases_lt, eq-eqb, ne_eqb}
use Rattle.std.proofs.lemmas.Bool.Decides.{nat_tests}
use Rattle.std.proofs.lemmas.List.{drop-drop, drop-map, drop-take, get_or_default, get_or_past, length-drop, length-map, length-take-le, set-get_or, take-map, take_all}
use Rattle.std.proofs.lemmas.List.FromFn.{get_or-map-range_with_len, length-map-range_with_len}
use Rattle.hyphenation_breaks.specs.Ascii.{digit_zero, dot}
use Rattle.libhyphen_files.specs.Bytes.{before_nul}
use Rattle.libhyphen_files.specs.Files.{Rules}
use Rattle.libhyphen_files.specs.Levels.{HasNoChanges, Level}
use Rattle.libhyphen_rule.specs.declared.calls.CallMinima.{CallMinima}
use Rattle.libhyphen_rule.specs.Calls.{at_least_two, digits_by_no_hyphen, found_by_call, least_of, no_hyphen_digit, part_minima}
use Rattle.libhyphen_rule.specs.Counting.{counted_in, framed, shown}
use Rattle.libhyphen_rule.specs.Laws.{BreaksComeFromPatterns, GivesDigit, GivesInPart, is_beside_some}
use Rattle.libhyphen_rule.specs.Minima.{changes_but, digits_but, goes_after, goes_before, left_goes, right_goes}
use Rattle.libhyphen_rule.specs.OneLevel.{ChangeAt, digit_at, digit_behind, is_odd, level_changes, level_digits, offers}
use Rattle.libhyphen_rule.specs.Parts.{Asked, Asking, Found, PartMinima, Parting, ask_by, ask_none, asked_of, change_with, changes_with, digit_with, digits_with, ends_part, first_level_found, found_by_first_level, found_by_next_level, found_in, is_within, most_depth, next_level_found, part_asked, part_text, parted_up_to, seen_after, with_behind, with_part, with_part_to, without_left, without_left_of_part, without_right_of_part}
use Rattle.libhyphen_rule.specs.Words.{is_beside}
use Rattle.libhyphen_rule.proofs.ClosedPatterns.{some_gives}
use Rattle.libhyphen_rule.proofs.FoundSizes.{level_changes-length, level_digits-length}
use Rattle.libhyphen_rule.proofs.Partings.{parted_at, parted_none, parted_past, with_part_asked}
use Rattle.libhyphen_rule.proofs.PlacesOfParts.{with_all, within_before}
use Rattle.libhyphen_rule.proofs.PlainCompounds.{with_nothing_behind}
use Rattle.libhyphen_rule.proofs.RaisedDigits.{behind_inner, behind_last}
use Rattle.libhyphen_rule.proofs.UnchangingCalls.{NoneThere, any_none, first_level_none}

-- ---- Texts as patterns see them.

shown_slice : (xs : List ℕ) (begin end : ℕ) → map shown (slice_range xs begin end) ≡ slice_range (map shown xs) begin end
shown_slice xs begin end = sym (take-map shown (end - begin) (drop begin xs)) ∙ ap (take (end - begin)) (sym (drop-map shown begin xs))

take_less : (a b : ℕ) (xs : List ℕ) → a ≤ b → take a (take b xs) ≡ take a xs
take_less zero b xs le = refl
take_less (suc a) zero xs le = absurd (omega (arith, le))
take_less (suc a) (suc b) [] le = refl
take_less (suc a) (suc b) (x ∷ xs) le = ap (λ (ys : List ℕ). x ∷ ys) (take_less a b xs (omega (arith, le)))

slice_slice : (xs : List ℕ) (begin end from to : ℕ) → from ≤ to → to ≤ end - begin
    → slice_range (slice_range xs begin end) from to ≡ slice_range xs (begin + from) (begin + to)
slice_slice xs begin end from to low high =
    let count : end - begin ≡ from + (end - begin - from) = omega (arith, low, high) in
    let rest : to - from ≤ end - begin - from = omega (arith, low, high) in
    let width : to - from ≡ (begin + to) - (begin + from) = omega arith in
    ap (λ (n : ℕ). take (to - from) (drop from (take n (drop begin xs)))) count
    ∙ ap (λ (ys : List ℕ). take (to - from) ys) (drop-take from (end - begin - from) (drop begin xs) ∙ ap (λ (ys : List ℕ). take (end - begin - from) ys) (drop-drop from begin xs))
    ∙ take_less (to - from) (end - begin - from) (drop (begin + from) xs) rest
    ∙ ap (λ (n : ℕ). take n (drop (begin + from) xs)) width

slice_whole : (xs : List ℕ) → slice_range xs 0 (length xs) ≡ xs
slice_whole xs = let count : length xs - 0 ≡ length xs = omega arith in ap (λ (n : ℕ). take n (drop 0 xs)) count ∙ take_all (length xs) xs (omega arith)

shown_twice : (xs : List ℕ) → map shown (map shown xs) ≡ map shown xs
shown_twice [] = refl
shown_twice (x ∷ xs) =
    ap (λ (y : ℕ). y ∷ map shown (map shown xs)) (again (cases_Bool (is_ascii_digit x))) ∙ ap (λ (ys : List ℕ). shown x ∷ ys) (shown_twice xs)
  where
    again : (is_ascii_digit x ≡ true) ⊎ (is_ascii_digit x ≡ false) → shown (shown x) ≡ shown x
    again (inl digit) = let is : shown x ≡ dot = ap (λ (b : Bool). cond {A = ℕ} b dot x) digit in ap shown is ∙ sym is
    again (inr other) = ap shown (ap (λ (b : Bool). cond {A = ℕ} b dot x) other)

shown_set : (xs : List ℕ) (i v : ℕ) → map shown (set xs i v) ≡ set (map shown xs) i (shown v)
shown_set [] zero v = refl
shown_set [] (suc i) v = refl
shown_set (x ∷ xs) zero v = refl
shown_set (x ∷ xs) (suc i) v = ap (λ (ys : List ℕ). shown x ∷ ys) (shown_set xs i v)

shown_after : (whole : Asked) (seen : List ℕ) (end : ℕ) → map shown seen ≡ map shown whole.text → map shown (seen_after whole seen end None) ≡ map shown whole.text
unfolding seen_after
shown_after whole seen end same =
    let next : ℕ = get_or whole.text end 0 in
    shown_set seen end next ∙ ap (λ (ys : List ℕ). set ys end (shown next)) same ∙ sym (shown_set whole.text end next) ∙ ap (map shown) (set-get_or whole.text end 0)

-- ---- Lists with defaults.

pub mapped_at : {X : Type 0} (f : ℕ → X) (n k : ℕ) (d : X) → k < n → get_or (map f (range_with_len 0 n)) k d ≡ f k
mapped_at f n k d lt = get_or-map-range_with_len f 0 n k k d lt (zero-add k)

pub mapped_past : {X : Type 0} (f : ℕ → X) (n k : ℕ) (d : X) → n ≤ k → get_or (map f (range_with_len 0 n)) k d ≡ d
mapped_past f n k d le =
    let long = length-map-range_with_len f 0 n in get_or_past (map f (range_with_len 0 n)) k d (omega (arith, le, long))

-- ---- A digit of a level in a part of a word.

record InPart (level : Level) (word : List ℕ) (k d b e : ℕ) (text : List ℕ) : Type 0 where
  pub from : b ≤ k
  pub to : k < e
  pub within : e ≤ length word
  pub seen : map shown text ≡ map shown (slice_range word b e)
  pub is : d ≡ get_or (level_digits level text) (k - b) digit_zero

-- The minima of parts leave a place of a text, at an end that is not the word's.
record Stays (rules : Rules) (minima : PartMinima) (left_outer right_outer : Bool) (j : ℕ) (text : List ℕ) : Type 0 where
  pub left : left_outer ≡ false → goes_before rules.utf8 minima.left (before_nul text) j (get_or (level_changes rules.next_level text) j None) ≡ false
  pub right : right_outer ≡ false → goes_after rules.utf8 minima.right text (before_nul text) j (get_or (level_changes rules.next_level text) j None) ≡ false

abbrev OfFirst : Rules → Asked → ℕ → ℕ → Type 0
OfFirst rules asked k d = (b : ℕ) × (e : ℕ) × (text : List ℕ) × InPart rules.first_level asked.text k d b e text

abbrev OfNext : Rules → PartMinima → Asked → ℕ → ℕ → Type 0
OfNext rules minima asked k d =
    (b : ℕ) × (e : ℕ) × (text : List ℕ) × InPart rules.next_level asked.text k d b e text
    × Stays rules minima (asked.at_left && b == 0) (asked.at_right && e == length asked.text) (k - b) text

abbrev Whence : Rules → PartMinima → Asked → ℕ → ℕ → Type 0
Whence rules minima asked k d = (d ≡ digit_zero) ⊎ (OfFirst rules asked k d ⊎ OfNext rules minima asked k d)

same_whence : (rules : Rules) (minima : PartMinima) (asked : Asked) (k d e : ℕ) → e ≡ d → Whence rules minima asked k d → Whence rules minima asked k e
same_whence rules minima asked k d e is = subst (λ (n : ℕ). Whence rules minima asked k n) (sym is)

-- ---- A part of a part.

-- The text of a part, from a byte of the whole to another one.
record PartOf (whole part : Asked) (begin end : ℕ) : Type 0 where
  pub ordered : begin ≤ end
  pub within : end ≤ length whole.text
  pub long : length part.text ≡ end - begin
  pub seen : map shown part.text ≡ map shown (slice_range whole.text begin end)
  pub left : part.at_left ≡ (whole.at_left && begin == 0)
  pub right : part.at_right ≡ (whole.at_right && end == length whole.text)

move_part : (level : Level) (whole part : Asked) (begin end k d b e : ℕ) (text : List ℕ) → PartOf whole part begin end → InPart level part.text k d b e text
    → InPart level whole.text (begin + k) d (begin + b) (begin + e) text
move_part level whole part begin end k d b e text lies there =
    let number : k - b ≡ (begin + k) - (begin + b) = omega arith in
    record {
      from = omega (arith, there.from);
      to = omega (arith, there.to);
      within = omega (arith, there.within, lies.long, lies.ordered, lies.within);
      seen = there.seen ∙ shown_slice part.text b e
          ∙ ap (λ (ys : List ℕ). slice_range ys b e) (lies.seen ∙ shown_slice whole.text begin end)
          ∙ slice_slice (map shown whole.text) begin end b e (omega (arith, there.from, there.to)) (omega (arith, there.within, lies.long))
          ∙ sym (shown_slice whole.text (begin + b) (begin + e));
      is = there.is ∙ ap (λ (n : ℕ). get_or (level_digits level text) n digit_zero) number;
    }

inner_left : (outer : Bool) (begin b : ℕ) → (outer && begin + b == 0) ≡ false → ((outer && begin == 0) && b == 0) ≡ false
inner_left false begin b is = refl
inner_left true begin b is = elim (cases_eq begin 0) [
  | inr apart ↦ ap (λ (t : Bool). t && b == 0) (ne_eqb begin 0 apart)
  | inl first ↦ ap (λ (n : ℕ). n == 0 && b == 0) first ∙ sym (ap (λ (n : ℕ). n == 0) (zero-add b)) ∙ sym (ap (λ (n : ℕ). n + b == 0) first) ∙ is
]

inner_right : (outer : Bool) (begin end e size part : ℕ) → part ≡ end - begin → begin ≤ end → (outer && begin + e == size) ≡ false → ((outer && end == size) && e == part) ≡ false
inner_right false begin end e size part long ordered is = refl
inner_right true begin end e size part long ordered is = elim (cases_eq end size) [
  | inr apart ↦ ap (λ (t : Bool). t && e == part) (ne_eqb end size apart)
  | inl last ↦ elim (cases_eq e part) [
    | inr apart ↦ ap (λ (t : Bool). end == size && t) (ne_eqb e part apart) ∙ and_none (end == size)
    | inl whole ↦
        let at : begin + e ≡ size = omega (arith, long, ordered, last, whole) in
        absurd (same_tests (begin + e) size at is)
  ]
]
  where
    and_none : (t : Bool) → (t && false) ≡ false
    and_none true = refl
    and_none false = refl

    same_tests : (n m : ℕ) → n ≡ m → (n == m) ≡ false → ⊥
    same_tests n m same differ = let no : true ≡ false = sym (eq-eqb n m same) ∙ differ in absurd cc

move_stays : (rules : Rules) (minima : PartMinima) (whole part : Asked) (begin end k b e : ℕ) (text : List ℕ) → PartOf whole part begin end
    → Stays rules minima (part.at_left && b == 0) (part.at_right && e == length part.text) (k - b) text
    → Stays rules minima (whole.at_left && begin + b == 0) (whole.at_right && begin + e == length whole.text) ((begin + k) - (begin + b)) text
move_stays rules minima whole part begin end k b e text lies stays =
    let number : k - b ≡ (begin + k) - (begin + b) = omega arith in
    let changes : List (Option ChangeAt) = level_changes rules.next_level text in
    record {
      left = λ inner. subst (λ (j : ℕ). goes_before rules.utf8 minima.left (before_nul text) j (get_or changes j None) ≡ false) number
          (stays.left (ap (λ (t : Bool). t && b == 0) lies.left ∙ inner_left whole.at_left begin b inner));
      right = λ inner. subst (λ (j : ℕ). goes_after rules.utf8 minima.right text (before_nul text) j (get_or changes j None) ≡ false) number
          (stays.right (ap (λ (t : Bool). t && e == length part.text) lies.right ∙ inner_right whole.at_right begin end e (length whole.text) (length part.text) lies.long lies.ordered inner));
    }

move : (rules : Rules) (minima : PartMinima) (whole part : Asked) (begin end k d : ℕ) → PartOf whole part begin end → Whence rules minima part k d → Whence rules minima whole (begin + k) d
move rules minima whole part begin end k d lies (inl none) = inl none
move rules minima whole part begin end k d lies (inr (inl first)) =
    inr (inl (begin + first.0, begin + first.1, first.2, move_part rules.first_level whole part begin end k d first.0 first.1 first.2 lies first.3))
move rules minima whole part begin end k d lies (inr (inr next)) =
    inr (inr (
      begin + next.0,
      begin + next.1,
      next.2,
      move_part rules.next_level whole part begin end k d next.0 next.1 next.2 lies next.3,
      move_stays rules minima whole part begin end k next.0 next.1 next.2 lies next.4,
    ))

-- ---- One level.

of_level : (level : Level) (text : List ℕ) (k : ℕ) → (get_or (level_digits level text) k digit_zero ≡ digit_zero)
    ⊎ InPart level text k (get_or (level_digits level text) k digit_zero) 0 (length text) text
of_level level text k = elim (cases_lt k (length text)) [
  | inr le ↦ inl (get_or_past (level_digits level text) k digit_zero (omega (arith, le, level_digits-length level text)))
  | inl lt ↦
      let number : k ≡ k - 0 = omega arith in
      inr (record {
        from = omega arith;
        to = lt;
        within = omega arith;
        seen = ap (map shown) (sym (slice_whole text));
        is = ap (λ (n : ℕ). get_or (level_digits level text) n digit_zero) number;
      })
]

first_whence : (rules : Rules) (minima : PartMinima) (parts : ℕ) (asked : Asked) (k : ℕ)
    → Whence rules minima asked k (get_or (first_level_found rules parts asked.text).digits k digit_zero)
unfolding first_level_found
first_whence rules minima parts asked k = elim (of_level rules.first_level asked.text k) [
  | inl none ↦ inl none
  | inr there ↦ inr (inl (0, length asked.text, asked.text, there))
]

-- Minima take a place away, or leave it as it is.
record Left (goes : ℕ → Bool) (digits : List ℕ) (changes : List (Option ChangeAt)) (k : ℕ) : Type 0 where
  pub stays : goes k ≡ false
  pub digit : get_or (digits_but goes digits) k digit_zero ≡ get_or digits k digit_zero
  pub change : get_or (changes_but goes changes) k None ≡ get_or changes k None

left_or_zero : (goes : ℕ → Bool) (digits : List ℕ) (changes : List (Option ChangeAt)) (k : ℕ)
    → (get_or (digits_but goes digits) k digit_zero ≡ digit_zero) ⊎ Left goes digits changes k
left_or_zero goes digits changes k = elim (cases_lt k (length digits)) [
  | inr le ↦ inl (mapped_past (λ byte. cond (goes byte) digit_zero (get_or digits byte 0)) (length digits) k digit_zero le)
  | inl lt ↦
      let at : get_or (digits_but goes digits) k digit_zero ≡ cond (goes k) digit_zero (get_or digits k 0) =
      mapped_at (λ byte. cond (goes byte) digit_zero (get_or digits byte 0)) (length digits) k digit_zero lt in
      elim (cases_Bool (goes k)) [
        | inl gone ↦ inl (at ∙ ap (λ (b : Bool). cond {A = ℕ} b digit_zero (get_or digits k 0)) gone)
        | inr stays ↦ inr (record {
          stays = stays;
          digit = at ∙ ap (λ (b : Bool). cond {A = ℕ} b digit_zero (get_or digits k 0)) stays ∙ get_or_default digits k 0 digit_zero lt;
          change = elim (cases_lt k (length changes)) [
            | inr past ↦ mapped_past (λ byte. cond (goes byte) None (get_or changes byte None)) (length changes) k None past ∙ sym (get_or_past changes k None past)
            | inl within ↦ mapped_at (λ byte. cond (goes byte) None (get_or changes byte None)) (length changes) k None within
                ∙ ap (λ (b : Bool). cond {A = Option ChangeAt} b None (get_or changes k None)) stays
          ];
        })
      ]
]

-- Nothing is behind a text, at an end that is not the word's.
record IsBare (asked : Asked) : Type 0 where
  pub left : asked.at_left ≡ false → asked.behind ≡ []
  pub right : asked.at_right ≡ false → asked.behind ≡ []

-- The places that the minima of a part leave.
record LeftOfPart (outer : Bool) (goes : ℕ → Bool) (found after : Found) (k : ℕ) : Type 0 where
  pub stays : outer ≡ false → goes k ≡ false
  pub digit : get_or after.digits k digit_zero ≡ get_or found.digits k digit_zero
  pub change : get_or after.changes k None ≡ get_or found.changes k None

left_of_part : (rules : Rules) (minima : PartMinima) (asked : Asked) (found : Found) (k : ℕ)
    → (get_or (without_left_of_part rules.utf8 minima asked found).digits k digit_zero ≡ digit_zero)
    ⊎ LeftOfPart asked.at_left (left_goes rules.utf8 minima.left (with_behind asked) found.changes) found (without_left_of_part rules.utf8 minima asked found) k
unfolding without_left_of_part
left_of_part rules minima asked found k =
    let goes : ℕ → Bool = left_goes rules.utf8 minima.left (with_behind asked) found.changes in
    by asked.at_left goes (left_or_zero goes found.digits found.changes k)
  where
    by : (outer : Bool) (goes : ℕ → Bool) → (get_or (digits_but goes found.digits) k digit_zero ≡ digit_zero) ⊎ Left goes found.digits found.changes k
        → (get_or (cond {A = Found} outer found (record found { digits = digits_but goes found.digits; changes = changes_but goes found.changes })).digits k digit_zero ≡ digit_zero)
        ⊎ LeftOfPart outer goes found (cond {A = Found} outer found (record found { digits = digits_but goes found.digits; changes = changes_but goes found.changes })) k
    by true goes left = inr (record { stays = λ inner. absurd (true≢false inner); digit = refl; change = refl })
    by false goes (inl none) = inl none
    by false goes (inr left) = inr (record { stays = λ _. left.stays; digit = left.digit; change = left.change })

right_of_part : (rules : Rules) (minima : PartMinima) (asked : Asked) (found : Found) (k : ℕ)
    → (get_or (without_right_of_part rules.utf8 minima asked found).digits k digit_zero ≡ digit_zero)
    ⊎ LeftOfPart asked.at_right (right_goes rules.utf8 minima.right asked.text (with_behind asked) found.changes) found (without_right_of_part rules.utf8 minima asked found) k
unfolding without_right_of_part
right_of_part rules minima asked found k =
    let goes : ℕ → Bool = right_goes rules.utf8 minima.right asked.text (with_behind asked) found.changes in
    by asked.at_right goes (left_or_zero goes found.digits found.changes k)
  where
    by : (outer : Bool) (goes : ℕ → Bool) → (get_or (digits_but goes found.digits) k digit_zero ≡ digit_zero) ⊎ Left goes found.digits found.changes k
        → (get_or (cond {A = Found} outer found (record found { digits = digits_but goes found.digits; changes = changes_but goes found.changes })).digits k digit_zero ≡ digit_zero)
        ⊎ LeftOfPart outer goes found (cond {A = Found} outer found (record found { digits = digits_but goes found.digits; changes = changes_but goes found.changes })) k
    by true goes left = inr (record { stays = λ inner. absurd (true≢false inner); digit = refl; change = refl })
    by false goes (inl none) = inl none
    by false goes (inr left) = inr (record { stays = λ _. left.stays; digit = left.digit; change = left.change })

-- The changes of the next level, where the first one has none.
next_changes : (rules : Rules) (parts : ℕ) (text : List ℕ) (tops : List (Option ChangeAt)) → length tops ≡ length text → NoneThere tops
    → level_changes rules.next_level text ≡ (next_level_found rules parts text tops).changes
unfolding next_level_found
next_changes rules parts text tops long none =
    with_all tops (level_changes rules.next_level text) (length text) long (level_changes-length rules.next_level text) (any_none tops none)

next_digits : (rules : Rules) (parts : ℕ) (text : List ℕ) (tops : List (Option ChangeAt)) → level_digits rules.next_level text ≡ (next_level_found rules parts text tops).digits
unfolding next_level_found
next_digits rules parts text tops = refl

module _ (rules : Rules) (minima : PartMinima) (asked : Asked) (bare : IsBare asked) (k : ℕ) where
  next_stays : (found kept : Found) → level_changes rules.next_level asked.text ≡ found.changes
      → LeftOfPart asked.at_left (left_goes rules.utf8 minima.left (with_behind asked) found.changes) found kept k
      → (asked.at_right ≡ false → right_goes rules.utf8 minima.right asked.text (with_behind asked) kept.changes k ≡ false)
      → Stays rules minima (asked.at_left && 0 == 0) (asked.at_right && length asked.text == length asked.text) (k - 0) asked.text
  next_stays found kept same left right =
      let number : k ≡ k - 0 = omega arith in
      let changes : List (Option ChangeAt) = level_changes rules.next_level asked.text in
      let change : get_or kept.changes k None ≡ get_or changes k None = left.change ∙ ap (λ (cs : List (Option ChangeAt)). get_or cs k None) (sym same) in
      record {
        left = λ inner.
            let at : asked.at_left ≡ false = alone asked.at_left (0 == 0) refl inner in
            subst (λ (j : ℕ). goes_before rules.utf8 minima.left (before_nul asked.text) j (get_or changes j None) ≡ false) number
            (ap (λ (cs : List (Option ChangeAt)). goes_before rules.utf8 minima.left (before_nul asked.text) k (get_or cs k None)) same
            ∙ ap (λ (t : List ℕ). goes_before rules.utf8 minima.left t k (get_or found.changes k None)) (with_nothing_behind asked (bare.left at))
            ∙ left.stays at);
        right = λ inner.
            let at : asked.at_right ≡ false = alone asked.at_right (length asked.text == length asked.text) (own (length asked.text)) inner in
            subst (λ (j : ℕ). goes_after rules.utf8 minima.right asked.text (before_nul asked.text) j (get_or changes j None) ≡ false) number
            (ap (λ (c : Option ChangeAt). goes_after rules.utf8 minima.right asked.text (before_nul asked.text) k c) (sym change)
            ∙ ap (λ (t : List ℕ). goes_after rules.utf8 minima.right asked.text t k (get_or kept.changes k None)) (with_nothing_behind asked (bare.right at))
            ∙ right at);
      }
    where
      alone : (a b : Bool) → b ≡ true → (a && b) ≡ false → a ≡ false
      alone true b is h = absurd cc
      alone false b is h = refl

      own : (n : ℕ) → (n == n) ≡ true
      own n = eq-eqb n n refl

  by_next_whence : (parts : ℕ) (tops : List (Option ChangeAt)) → length tops ≡ length asked.text → NoneThere tops
      → Whence rules minima asked k (get_or (found_by_next_level rules minima parts asked tops).digits k digit_zero)
  unfolding found_by_next_level
  by_next_whence parts tops long none =
      let found : Found = next_level_found rules parts asked.text tops in
      let kept : Found = without_left_of_part rules.utf8 minima asked found in
      elim (right_of_part rules minima asked kept k) [
        | inl zero_is ↦ inl zero_is
        | inr right ↦ elim (left_of_part rules minima asked found k) [
          | inl zero_is ↦ inl (right.digit ∙ zero_is)
          | inr left ↦
              let digit : get_or (without_right_of_part rules.utf8 minima asked kept).digits k digit_zero ≡ get_or (level_digits rules.next_level asked.text) k digit_zero =
              right.digit ∙ left.digit ∙ ap (λ (ds : List ℕ). get_or ds k digit_zero) (sym (next_digits rules parts asked.text tops)) in
              same_whence rules minima asked k (get_or (level_digits rules.next_level asked.text) k digit_zero) _ digit (elim (of_level rules.next_level asked.text k) [
                | inl zero_is ↦ inl zero_is
                | inr there ↦ inr (inr (
                  0,
                  length asked.text,
                  asked.text,
                  there,
                  next_stays found kept (next_changes rules parts asked.text tops long none) left right.stays,
                ))
              ])
        ]
      ]

-- ---- Parts.

-- Whatever an asking finds comes from a level.
abbrev IfFound : Rules → PartMinima → Asked → Option Found → Type 0
IfFound rules minima asked None = Unit {0}
IfFound rules minima asked (Some found) = (k : ℕ) → Whence rules minima asked k (get_or found.digits k digit_zero)

abbrev Asks : Rules → PartMinima → Asking → Type 0
Asks rules minima ask = (parts : ℕ) (asked : Asked) → IsBare asked → IfFound rules minima asked (ask parts asked)

-- While parts are asked.
record Kept (rules : Rules) (minima : PartMinima) (whole : Asked) (bytes : ℕ) (parting : Parting) : Type 0 where
  pub each : (k : ℕ) → Whence rules minima whole k (get_or parting.found.digits k digit_zero)
  pub none : (k : ℕ) → parting.begin ≤ k → get_or parting.found.changes k None ≡ None
  pub begun : parting.begin ≤ bytes
  pub seen : map shown parting.seen ≡ map shown whole.text

within_from : (begin count k : ℕ) → is_within begin count k ≡ true → begin ≤ k
within_from begin count k is =
    let low : nat_le begin k ≡ true = (and_parts (nat_le begin k) (nat_lt k (begin + count)) is).0 in grind (arith, nat_tests, low)

part_facts : (whole : Asked) (seen : List ℕ) (begin end : ℕ) → begin ≤ end → end ≤ length whole.text → map shown seen ≡ map shown whole.text
    → PartOf whole (asked_of whole begin end (part_text seen begin end None)) begin end × IsBare (asked_of whole begin end (part_text seen begin end None))
unfolding part_text
part_facts whole seen begin end ordered within same =
    let size : length seen ≡ length whole.text = sym (length-map seen shown) ∙ ap length same ∙ length-map whole.text shown in (
      record {
        ordered = ordered;
        within = within;
        long = length-take-le (end - begin) (drop begin seen) (omega (arith, length-drop begin seen, size, within));
        seen = shown_slice seen begin end ∙ ap (λ (ys : List ℕ). slice_range ys begin end) same ∙ sym (shown_slice whole.text begin end);
        left = refl;
        right = refl;
      },
      record { left = λ _. refl; right = λ _. refl },
    )

with_part_whence : (rules : Rules) (minima : PartMinima) (whole part : Asked) (found : Found) (begin end count : ℕ) (asked : Option Found) → PartOf whole part begin end
    → ((k : ℕ) → Whence rules minima whole k (get_or found.digits k digit_zero)) → IfFound rules minima part asked
    → (k : ℕ) → Whence rules minima whole k (get_or (with_part found begin count asked).digits k digit_zero)
unfolding with_part digits_with
with_part_whence rules minima whole part found begin end count None lies each asks k = each k
with_part_whence rules minima whole part found begin end count (Some inner) lies each asks k =
    let f : ℕ → ℕ = digit_with found.digits begin count inner.digits in
    elim (cases_lt k (length found.digits)) [
      | inr le ↦ inl (mapped_past f (length found.digits) k digit_zero le)
      | inl lt ↦ same_whence rules minima whole k (f k) _ (mapped_at f (length found.digits) k digit_zero lt) (elim (cases_Bool (is_within begin count k)) [
        | inr out ↦ same_whence rules minima whole k (get_or found.digits k digit_zero) (f k)
            (ap (λ (b : Bool). cond {A = ℕ} b (get_or inner.digits (k - begin) digit_zero) (get_or found.digits k 0)) out ∙ get_or_default found.digits k 0 digit_zero lt) (each k)
        | inl inside ↦
            let from : begin ≤ k = within_from begin count k inside in
            let at : begin + (k - begin) ≡ k = omega (arith, from) in
            same_whence rules minima whole k (get_or inner.digits (k - begin) digit_zero) (f k)
            (ap (λ (b : Bool). cond {A = ℕ} b (get_or inner.digits (k - begin) digit_zero) (get_or found.digits k 0)) inside)
            (subst (λ (n : ℕ). Whence rules minima whole n (get_or inner.digits (k - begin) digit_zero)) at
            (move rules minima whole part begin end (k - begin) (get_or inner.digits (k - begin) digit_zero) lies (asks (k - begin))))
      ])
    ]

with_part_none : (found : Found) (begin count : ℕ) (asked : Option Found) → ((k : ℕ) → begin ≤ k → get_or found.changes k None ≡ None)
    → (k : ℕ) → begin + count ≤ k → get_or (with_part found begin count asked).changes k None ≡ None
unfolding with_part changes_with
with_part_none found begin count None none k le = none k (omega (arith, le))
with_part_none found begin count (Some inner) none k le =
    let f : ℕ → Option ChangeAt = change_with found.changes begin count inner.changes in
    elim (cases_lt k (length found.changes)) [
      | inr past ↦ mapped_past f (length found.changes) k None past
      | inl lt ↦ mapped_at f (length found.changes) k None lt
          ∙ ap (λ (b : Bool). cond {A = Option ChangeAt} b (option_or (get_or inner.changes (k - begin) None) (get_or found.changes k None)) (get_or found.changes k None)) (within_before begin count k le)
          ∙ none k (omega (arith, le))
    ]

module _ (rules : Rules) (minima : PartMinima) (ask : Asking) (asks : Asks rules minima ask) (whole : Asked) where
  kept_asked : (byte : ℕ) (parting : Parting) → byte < length whole.text → nat_lt (parting.begin + 1) byte ≡ true → Kept rules minima whole byte parting
      → Kept rules minima whole (byte + 1) (part_asked ask whole parting byte None)
  kept_asked byte parting lt long kept =
      let begin : ℕ = parting.begin in
      let less : begin + 1 < byte = grind (arith, nat_tests, long) in
      let facts = part_facts whole parting.seen begin (byte + 1) (omega (arith, less)) (omega (arith, lt)) kept.seen in
      let part : Asked = asked_of whole begin (byte + 1) (part_text parting.seen begin (byte + 1) None) in
      let found : Option Found = ask parting.found.parts part in
      record {
        each = with_part_whence rules minima whole part parting.found begin (byte + 1) (byte - begin - 1) found facts.0 kept.each (asks parting.found.parts part facts.1);
        none = λ k le. with_part_none parting.found begin (byte - begin - 1) found kept.none k (omega (arith, le, less));
        begun = omega arith;
        seen = shown_after whole parting.seen (byte + 1) kept.seen;
      }

  kept_short : (byte : ℕ) (parting : Parting) → Kept rules minima whole byte parting → Kept rules minima whole (byte + 1) (record parting { begin = byte + 1 })
  kept_short byte parting kept = record {
    each = kept.each;
    none = λ k le. kept.none k (omega (arith, le, kept.begun));
    begun = omega arith;
    seen = kept.seen;
  }

  kept_more : (byte : ℕ) (parting : Parting) → byte < length whole.text → Kept rules minima whole byte parting → Kept rules minima whole (byte + 1) (with_part_to ask whole parting byte)
  unfolding with_part_to
  kept_more byte parting lt kept = elim (cases_Bool (nat_lt (parting.begin + 1) byte)) [
    | inl long ↦ subst (λ (p : Parting). Kept rules minima whole (byte + 1) p)
        (sym (with_part_asked ask whole byte parting long ∙ ap (part_asked ask whole parting byte) (kept.none byte kept.begun))) (kept_asked byte parting lt long kept)
    | inr short ↦ subst (λ (p : Parting). Kept rules minima whole (byte + 1) p)
        (sym (ap (λ (b : Bool). cond {A = Parting} b (part_asked ask whole parting byte (get_or parting.found.changes byte None)) (record parting { begin = byte + 1 })) short))
        (kept_short byte parting kept)
  ]

  kept_past : (byte : ℕ) (parting : Parting) → Kept rules minima whole byte parting → Kept rules minima whole (byte + 1) parting
  kept_past byte parting kept = record { each = kept.each; none = kept.none; begun = omega (arith, kept.begun); seen = kept.seen }

  parted_kept : (found : Found) → ((k : ℕ) → Whence rules minima whole k (get_or found.digits k digit_zero)) → NoneThere found.changes
      → (bytes : ℕ) → bytes ≤ length whole.text → Kept rules minima whole bytes (parted_up_to ask whole found bytes)
  parted_kept found each none zero within =
      subst (λ (p : Parting). Kept rules minima whole 0 p) (sym (parted_none ask whole found (map shown whole.text) refl))
      (record { each = each; none = λ k _. none k; begun = omega arith; seen = shown_twice whole.text })
  parted_kept found each none (suc byte) within =
      let before = parted_kept found each none byte (omega (arith, within)) in
      let parting : Parting = parted_up_to ask whole found byte in
      let more : byte + 1 ≡ suc byte = omega arith in
      subst (λ (n : ℕ). Kept rules minima whole n (parted_up_to ask whole found n)) more
      (elim (cases_Bool (ends_part found.digits byte)) [
        | inl ends ↦ subst (λ (p : Parting). Kept rules minima whole (byte + 1) p) (sym (parted_at ask whole found byte parting ends refl)) (kept_more byte parting (omega (arith, within)) before)
        | inr past ↦ subst (λ (p : Parting). Kept rules minima whole (byte + 1) p) (sym (parted_past ask whole found byte parting past refl)) (kept_past byte parting before)
      ])

-- ---- Both levels.

first_size : (rules : Rules) (parts : ℕ) (text : List ℕ) → length (first_level_found rules parts text).changes ≡ length text
unfolding first_level_found
first_size rules parts text = level_changes-length rules.first_level text

by_first_whence : (rules : Rules) → HasNoChanges rules.first_level.patterns → (minima : PartMinima) (ask : Asking) → Asks rules minima ask → (parts : ℕ) (asked : Asked) → IsBare asked
    → (k : ℕ) → Whence rules minima asked k (get_or (found_by_first_level rules minima ask parts asked (first_level_found rules parts asked.text)).digits k digit_zero)
by_first_whence rules plain minima ask asks parts asked bare k =
    let found : Found = first_level_found rules parts asked.text in
    let none = first_level_none rules plain parts asked.text in
    elim (list_any is_odd found.digits)
    as (λ b. Whence rules minima asked k (get_or (cond {A = Found} b (parted_up_to ask asked found (length asked.text)).found (found_by_next_level rules minima parts asked found.changes)).digits k digit_zero)) [
      | true ↦ (parted_kept rules minima ask asks asked found (first_whence rules minima parts asked) none (length asked.text) (omega arith)).each k
      | false ↦ by_next_whence rules minima asked bare k parts found.changes (first_size rules parts asked.text) none
    ]

ask_by_whence : (rules : Rules) (minima : PartMinima) (find : ℕ → Asked → Found)
    → ((parts : ℕ) (asked : Asked) → IsBare asked → (k : ℕ) → Whence rules minima asked k (get_or (find parts asked).digits k digit_zero)) → Asks rules minima (ask_by find)
ask_by_whence rules minima find whence zero asked bare = tt
ask_by_whence rules minima find whence (suc parts) asked bare = whence parts asked bare

found_whence : (rules : Rules) → HasNoChanges rules.first_level.patterns → (minima : PartMinima) (depth parts : ℕ) (asked : Asked) → IsBare asked
    → (k : ℕ) → Whence rules minima asked k (get_or (found_in rules minima depth parts asked).digits k digit_zero)
unfolding found_in
found_whence rules plain minima zero parts asked bare = by_first_whence rules plain minima ask_none (λ _ _ _. tt) parts asked bare
found_whence rules plain minima (suc depth) parts asked bare =
    by_first_whence rules plain minima (ask_by (found_in rules minima depth)) (ask_by_whence rules minima (found_in rules minima depth) (found_whence rules plain minima depth)) parts asked bare

-- ---- A call.

-- The word as it is asked.
abbrev asked_whole : List ℕ → ℕ → Asked
asked_whole text size = record { text = take size text; behind = drop size text; at_left = true; at_right = true }

call_whence : (rules : Rules) → HasNoChanges rules.first_level.patterns → (given : Option CallMinima) (text : List ℕ) (size k : ℕ)
    → Whence rules (part_minima (least_of rules.first_level.minima given)) (asked_whole text size) k (get_or (found_by_call rules given text size).digits k digit_zero)
unfolding found_by_call
call_whence rules plain given text size k =
    let least = least_of rules.first_level.minima given in
    let minima : PartMinima = part_minima least in
    let whole : Asked = asked_whole text size in
    let base : Found = found_in rules minima most_depth (length (take size text)) whole in
    let kept : Found = without_left rules.utf8 (at_least_two least.left) (before_nul text) base in
    let all = found_whence rules plain minima most_depth (length (take size text)) whole (record { left = λ inner. absurd (true≢false inner); right = λ inner. absurd (true≢false inner) }) k in
    elim (left_or_zero (right_goes rules.utf8 (at_least_two least.right) (take size text) (before_nul text) kept.changes) kept.digits kept.changes k) [
      | inl gone ↦ inl gone
      | inr right ↦ elim (left_or_zero (left_goes rules.utf8 (at_least_two least.left) (before_nul text) base.changes) base.digits base.changes k) [
        | inl gone ↦ inl (right.digit ∙ gone)
        | inr left ↦ same_whence rules minima whole k _ _ (right.digit ∙ left.digit) all
      ]
    ]

-- ---- An odd digit.

even_zero : (d : ℕ) → is_odd d ≡ true → d ≡ digit_zero → ⊥
even_zero d odd is = let no : true ≡ false = sym odd ∙ ap is_odd is in absurd cc

-- An odd digit of a level is given by a key, and is not at the text's end.
record Given (level : Level) (text : List ℕ) (j d : ℕ) : Type 0 where
  pub inside : j + 1 < length text
  pub start : ℕ
  pub stop : ℕ
  pub gives : GivesDigit level.patterns (framed text) (j + 2) start stop d

odd_given : (level : Level) (text : List ℕ) (j d : ℕ) → j < length text → d ≡ get_or (level_digits level text) j digit_zero → is_odd d ≡ true → Given level text j d
unfolding level_digits
odd_given level text j d lt is odd =
    let given = offers (counted_in level.patterns (framed text)) in
    let behind : d ≡ digit_behind given (length text) j = is ∙ mapped_at (digit_behind given (length text)) (length text) j digit_zero lt in
    elim (cases_lt (j + 1) (length text)) [
      | inr le ↦ absurd (even_zero d odd (behind ∙ behind_last given (length text) j le))
      | inl inside ↦
          let at : d ≡ digit_at given (j + 2) = behind ∙ behind_inner given (length text) j inside in
          elim (some_gives level.patterns (framed text) (j + 2)) [
            | inl none ↦ absurd (even_zero d odd (at ∙ none))
            | inr some ↦ record {
              inside = inside;
              start = some.0;
              stop = some.1;
              gives = subst (λ (n : ℕ). GivesDigit level.patterns (framed text) (j + 2) some.0 some.1 n) (sym at) some.2;
            }
          ]
    ]

in_part : (level : Level) (word : List ℕ) (k d b e : ℕ) (text : List ℕ) → is_odd d ≡ true → InPart level word k d b e text → GivesInPart level word k d b e
in_part level word k d b e text odd there =
    let size : length text ≡ e - b =
    sym (length-map text shown) ∙ ap length there.seen ∙ length-map (slice_range word b e) shown ∙ length-take-le (e - b) (drop b word) (omega (arith, length-drop b word, there.within)) in
    let some = odd_given level text (k - b) d (omega (arith, size, there.from, there.to)) there.is odd in
    record {
      from = there.from;
      to = omega (arith, some.inside, size, there.from);
      within = there.within;
      start = some.start;
      stop = some.stop;
      gives = subst (λ (seen : List ℕ). GivesDigit level.patterns (dot ∷ seen ++ dot ∷ []) (k - b + 2) some.start some.stop d) there.seen some.gives;
    }

not_first : (b : ℕ) → b ≢ 0 → (true && b == 0) ≡ false
not_first b apart = ne_eqb b 0 apart

-- A digit that is odd once texts without breaks took places away was there before.
odd_before : (rules : Rules) (given : Option CallMinima) (text digits : List ℕ) (k : ℕ) → k < length digits
    → is_odd (get_or (digits_by_no_hyphen rules given text digits) k 0) ≡ true
    → get_or (digits_by_no_hyphen rules given text digits) k 0 ≡ get_or digits k digit_zero
odd_before rules given text digits k lt odd =
    let at : get_or (digits_by_no_hyphen rules given text digits) k 0 ≡ cond (is_beside_some rules text k) (no_hyphen_digit given) (get_or digits k 0) =
    mapped_at (λ byte. cond (list_any (is_beside (before_nul text) byte) rules.first_level.no_hyphen) (no_hyphen_digit given) (get_or digits byte 0)) (length digits) k 0 lt in
    elim (cases_Bool (is_beside_some rules text k)) [
      | inl beside ↦
          let taken : is_odd (no_hyphen_digit given) ≡ true =
          sym (ap is_odd (at ∙ ap (λ (b : Bool). cond {A = ℕ} b (no_hyphen_digit given) (get_or digits k 0)) beside)) ∙ odd in
          absurd (even given taken)
      | inr apart ↦ at ∙ ap (λ (b : Bool). cond {A = ℕ} b (no_hyphen_digit given) (get_or digits k 0)) apart ∙ get_or_default digits k 0 digit_zero lt
    ]
  where
    even : (given : Option CallMinima) → is_odd (no_hyphen_digit given) ≡ true → ⊥
    even None odd = absurd (true≢false (sym odd))
    even (Some least) odd = absurd (true≢false (sym odd))

pub come_from : BreaksComeFromPatterns
come_from rules given text size byte plain lt odd =
    let digits : List ℕ = (found_by_call rules given text size).digits in
    let minima : PartMinima = part_minima (least_of rules.first_level.minima given) in
    let digit : ℕ = get_or (digits_by_no_hyphen rules given text digits) byte 0 in
    let same : digit ≡ get_or digits byte digit_zero = odd_before rules given text digits byte lt odd in
    elim (same_whence rules minima (asked_whole text size) byte _ digit same (call_whence rules plain given text size byte)) [
      | inl zero_is ↦ absurd (even_zero digit odd zero_is)
      | inr some ↦ elim some [
        | inl first ↦ (first.0, first.1, inl (in_part rules.first_level (take size text) byte digit first.0 first.1 first.2 odd first.3))
        | inr next ↦ (
          next.0,
          next.1,
          inr (record {
            given = in_part rules.next_level (take size text) byte digit next.0 next.1 next.2 odd next.3;
            text = next.2;
            seen = next.3.seen;
            left = λ inner. next.4.left (not_first next.0 inner);
            right = λ inner. next.4.right (ne_eqb next.1 (length (take size text)) inner);
          }),
        )
      ]
    ]

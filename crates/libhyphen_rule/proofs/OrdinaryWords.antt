-- Words of ordinary bytes: libhyphen sees them as they are.
use Rattle.std.proofs.Common.{◌≡◌, ◌∙◌, ℕ, suc, ◌+◌, ◌<◌, ◌≤◌, Bool, true, false, cond, List, [], ◌∷◌, length, take, get_or, Option, refl, sym, ap, subst, arith}
use Rattle.std.specs.Prelude.{◌==◌, ◌||◌, ◌&&◌, not}
use Rattle.std.specs.Char.{is_ascii_digit}
use Rattle.std.specs.List.{list_all, list_any, position_or_len}
use Rattle.std.proofs.lemmas.Bool.{ne_eqb, or_parts}
use Rattle.std.proofs.lemmas.Bool.Decides.{nat_tests}
use Rattle.std.proofs.lemmas.List.{get_or-take, length-take-le, take_all}
use Rattle.libhyphen_files.specs.Bytes.{before_nul}
use Rattle.libhyphen_files.specs.Files.{Rules}
use Rattle.libhyphen_files.specs.Ordinary.{IsOrdinary, may_begin_with}
use Rattle.libhyphen_rule.specs.Calls.{digits_by_no_hyphen, no_hyphen_digit}
use Rattle.libhyphen_rule.specs.Private.Ordinary.{AllOrdinary}
use Rattle.libhyphen_rule.specs.Private.PlainWords.{HasNoDigits}
use Rattle.libhyphen_rule.specs.Words.{digits_beside, is_beside}
use Rattle.libhyphen_rule.specs.declared.calls.CallMinima.{CallMinima}
use Rattle.libhyphen_rule.proofs.Absent.{digits_stay, not_beside}
use Rattle.libhyphen_rule.proofs.OddLanes.{none_of}
use Rattle.libhyphen_rule.proofs.PlainCompounds.{no_digits}

-- ---- What holds for each byte.

all_of : (p : ℕ → Bool) (xs : List ℕ) → ((k : ℕ) → k < length xs → p (get_or xs k 0) ≡ true) → list_all p xs ≡ true
all_of p [] all = refl
all_of p (x ∷ xs) all =
    let first : p x ≡ true = all 0 (omega arith) in
    ap (λ b. b && list_all p xs) first ∙ all_of p xs (λ k l. all (suc k) (omega (arith, l)))

ends_nowhere : (p : ℕ → Bool) (xs : List ℕ) → list_any p xs ≡ false → length xs ≤ position_or_len p xs
ends_nowhere p [] none = omega arith
ends_nowhere p (x ∷ xs) none = by (p x) none (ends_nowhere p xs)
  where
    by : (b : Bool) → (b || list_any p xs) ≡ false → (list_any p xs ≡ false → length xs ≤ position_or_len p xs)
        → suc (length xs) ≤ cond (not b) (1 + position_or_len p xs) 0
    by true h rest = absurd (cc)
    by false h rest = omega (arith, rest h)

-- The first bytes of such a text are such a text.
pub ordinary_word : (rules : Rules) (text : List ℕ) (size : ℕ) → size ≤ length text → AllOrdinary rules text → AllOrdinary rules (take size text)
ordinary_word rules text size within all = λ k l.
    let next_level : k < size = omega (arith, l, length-take-le size text within) in
    subst (λ (b : ℕ). IsOrdinary rules b) (sym (get_or-take size text k 0 next_level)) (all k (omega (arith, next_level, within)))

-- Such a text has no digits.
pub ordinary_digits : (rules : Rules) (text : List ℕ) → AllOrdinary rules text → HasNoDigits text
ordinary_digits rules text all = no_digits text (none_of is_ascii_digit text (λ k l. (all k l).no_digit))

-- C reads all of such a text.
pub ordinary_seen : (rules : Rules) (text : List ℕ) → AllOrdinary rules text → before_nul text ≡ text
ordinary_seen rules text all =
    take_all (position_or_len (λ b. b == 0) text) text
    (ends_nowhere (λ b. b == 0) text (none_of (λ b. b == 0) text (λ k l. ne_eqb (get_or text k 0) 0 (all k l).no_nul)))

-- ---- Texts without breaks.

other : (first x : ℕ) → (first == x) ≡ false → (x == first) ≡ false
other first x h = grind (arith, nat_tests)

part_absent : (text part : List ℕ) (byte : ℕ) → 0 < length text
    → ((k : ℕ) → k < length text → may_begin_with (get_or text k 0) part ≡ false) → is_beside text byte part ≡ false
part_absent text [] byte some none = let no : true ≡ false = none 0 some in absurd (cc)
part_absent text (first ∷ rest) byte some none =
    not_beside text (first ∷ rest) byte false (omega arith)
    (sym (none_of (λ y. y == first) text (λ k l. other first (get_or text k 0) (none k l)))) refl

parts_absent : (parts : List (List ℕ)) (text : List ℕ) (byte : ℕ) → 0 < length text
    → ((k : ℕ) → k < length text → list_any (may_begin_with (get_or text k 0)) parts ≡ false)
    → list_any (is_beside text byte) parts ≡ false
parts_absent [] text byte some none = refl
parts_absent (part ∷ parts) text byte some none =
    let here : is_beside text byte part ≡ false = part_absent text part byte some
    (λ k l. (or_parts (may_begin_with (get_or text k 0) part) (list_any (may_begin_with (get_or text k 0)) parts) (none k l)).0) in
    let rest : list_any (is_beside text byte) parts ≡ false = parts_absent parts text byte some
    (λ k l. (or_parts (may_begin_with (get_or text k 0) part) (list_any (may_begin_with (get_or text k 0)) parts) (none k l)).1) in
    ap (λ b. b || list_any (is_beside text byte) parts) here ∙ rest

-- No text without breaks takes a digit away.
kept_in : (parts : List (List ℕ)) (instead : ℕ) (text digits : List ℕ) → length digits ≤ length text
    → ((k : ℕ) → k < length text → list_any (may_begin_with (get_or text k 0)) parts ≡ false)
    → digits ≡ digits_beside parts instead text digits
kept_in parts instead text [] within none = refl
kept_in parts instead text (digit ∷ digits) within none =
    digits_stay parts instead text (digit ∷ digits) (λ byte. parts_absent parts text byte (omega (arith, within)) none)

-- The digits of such a word stay.
pub ordinary_kept : (rules : Rules) (given : Option CallMinima) (text digits : List ℕ) → AllOrdinary rules text → length digits ≤ length text
    → digits ≡ digits_by_no_hyphen rules given text digits
ordinary_kept rules given text digits all within =
    kept_in rules.first_level.no_hyphen (no_hyphen_digit given) text digits within (λ k l. (all k l).begins_no_text)
    ∙ ap (λ (seen : List ℕ). digits_beside rules.first_level.no_hyphen (no_hyphen_digit given) seen digits) (sym (ordinary_seen rules text all))

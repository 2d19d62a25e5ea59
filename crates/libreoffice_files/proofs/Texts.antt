-- The results of std's calls on texts, in the words of the definitions.
use Rattle.std.proofs.Common.{◌≡◌, ℕ, ◌+◌, ◌-◌, ◌^◌, ◌<◌, ◌==◌, Bool, true, false, cond, ◌&&◌, if◌then◌else◌, List, [], length, take, drop, Option, Some, None, Result, Ok, Err, IsTrue, ◌↔◌, refl, sym, arith, ap, ◌∙◌}
use Rattle.std.specs.Prelude.{option_map, unwrap_or, position, nat_lt, MatchOption, IsUtf8}
use Rattle.std.specs.List.{position_or_len, before_first, after_first}
use Rattle.std.specs.Result.{result_ok}
use Rattle.std.specs.Str.{all_ascii_digits, is_utf8}
use Rattle.std.specs.Str.Parse.{ParsesUnsigned, without_leading_plus, digits_value}
use denote.Ref.{Bor}
use Rattle.std.proofs.lemmas.Bool.Decides.{Decides-ltb}
use Rattle.std.proofs.lemmas.List.{take_rest}
use Rattle.std.proofs.lemmas.Str.{IsUtf8-from_is_utf8, is_utf8-from_IsUtf8}
use Rattle.std.proofs.lemmas.Str.Parse.{IsNumeralModel, numerals_by_value, tells_all_ascii_digits}
use Rattle.std.proofs.lemmas.Bool.{false_from_ne_true, and_left}
use Rattle.libreoffice_files.specs.LibreOfficeLines.{split_at_byte, number_below}
use Rattle.libreoffice_files.specs.LibreOffice.{first_and_rest}

-- ---- Cut at a byte.

some_at : (t : Bool) (at : ℕ) → t ≡ true → cond t (Some at) None ≡ Some at
some_at true at h = refl
some_at false at h = absurd cc

none_at : (t : Bool) (at : ℕ) → (t ≡ true → ⊥) → cond t (Some at) None ≡ None
none_at true at h = absurd (h refl)
none_at false at h = refl

pub cut_once : (mark : ℕ) (text : List ℕ) (r : Option (Bor (List ℕ) × Bor (List ℕ)))
    → MatchOption r (position_or_len (λ b. b == mark) text ≡ length text)
    (λ x. (position_or_len (λ b. b == mark) text < length text) × (x.0.now ≡ before_first (λ b. b == mark) text) × (x.1.now ≡ after_first (λ b. b == mark) text))
    → option_map (λ x. (x.0.now, x.1.now)) r ≡ split_at_byte mark text
cut_once mark text None h =
    let at = position_or_len (λ b. b == mark) text in
    ap (option_map (λ (k : ℕ). (take k text, drop (k + 1) text))) (sym (none_at (nat_lt at (length text)) at (λ e. absurd (omega (arith, (Decides-ltb at (length text)).0 e, h)))))
cut_once mark text (Some x) h =
    let at = position_or_len (λ b. b == mark) text in
    (λ i. Some (h.1 i, h.2 i))
    ∙ ap (option_map (λ (k : ℕ). (take k text, drop (k + 1) text))) (sym (some_at (nat_lt at (length text)) at ((Decides-ltb at (length text)).1 h.0)))

-- ---- Numbers.

all_hold : (a b c : Bool) (v : ℕ) → a ≡ true → b ≡ true → c ≡ true → Some v ≡ (if a && b && c then Some v else None)
all_hold true true true v p q r = refl
all_hold false b c v p q r = absurd cc
all_hold true false c v p q r = absurd cc
all_hold true true false v p q r = absurd cc

one_fails : (a b c : Bool) (v : ℕ) → (a ≡ true → b ≡ true → c ≡ true → ⊥) → None ≡ (if a && b && c then Some v else None)
one_fails true true true v h = absurd (h refl refl refl)
one_fails true true false v h = refl
one_fails true false c v h = refl
one_fails false b c v h = refl

own : IsNumeralModel (λ ds. all_ascii_digits ds ≡ true) (digits_value 10)
own = numerals_by_value _ tells_all_ascii_digits

pub parsed : {E : Type 0} (bits : ℕ) (text : List ℕ) (r : Result ℕ E) → ParsesUnsigned bits 10 text r → result_ok r ≡ number_below (2 ^ bits) text
parsed bits text (Ok x) h =
    let ds = without_leading_plus text in
    ap (λ (n : ℕ). Some n) h.1
    ∙ all_hold (all_ascii_digits ds) (nat_lt 0 (length ds)) (nat_lt (digits_value 10 ds) (2 ^ bits)) (digits_value 10 ds) (own.from ds h.0.0.1) ((Decides-ltb 0 (length ds)).1 h.0.0.0)
    ((Decides-ltb (digits_value 10 ds) (2 ^ bits)).1 h.0.1)
parsed bits text (Err e) h =
    let ds = without_leading_plus text in
    one_fails (all_ascii_digits ds) (nat_lt 0 (length ds)) (nat_lt (digits_value 10 ds) (2 ^ bits)) (digits_value 10 ds)
    (λ p q r. h (((Decides-ltb 0 (length ds)).0 q, own.to ds p), (Decides-ltb (digits_value 10 ds) (2 ^ bits)).0 r))

-- ---- UTF-8.

pub good_utf8 : (bytes : List ℕ) → IsUtf8 bytes → is_utf8 bytes ≡ true
good_utf8 bytes h = is_utf8-from_IsUtf8 bytes h

pub bad_utf8 : (bytes : List ℕ) → ¬ (IsUtf8 bytes) → is_utf8 bytes ≡ false
bad_utf8 bytes h = false_from_ne_true (is_utf8 bytes) (λ e. h (IsUtf8-from_is_utf8 bytes e))

-- ---- Tests.

pub same_by : (a b : Bool) → (IsTrue a ↔ IsTrue b) → a ≡ b
same_by true true h = refl
same_by true false h = absurd (let e = h.0 refl in cc)
same_by false true h = absurd (let e = h.1 refl in cc)
same_by false false h = refl

holds_on : (a b r : Bool) → a ≡ true → r ≡ b → r ≡ (a && b)
holds_on true b r p q = q
holds_on false b r p q = absurd cc

-- a test of bytes that are a text, and of others
pub of_text : (f : List ℕ → Bool) (bytes text : List ℕ) (r : Bool) → IsUtf8 bytes → text ≡ bytes → r ≡ f text → r ≡ (is_utf8 bytes && f bytes)
of_text f bytes text r u e h = holds_on (is_utf8 bytes) (f bytes) r (good_utf8 bytes u) (h ∙ ap f e)

pub of_no_text : (f : List ℕ → Bool) (bytes : List ℕ) → ¬ (IsUtf8 bytes) → false ≡ (is_utf8 bytes && f bytes)
of_no_text f bytes h = sym (and_left (is_utf8 bytes) (f bytes) (bad_utf8 bytes h))

-- ---- Line 1.

pub cut_found : (bytes : List ℕ) (at : ℕ) → Some at ≡ position (λ b. b == 10) bytes → (take at bytes, take (length bytes - (at + 1)) (drop (at + 1) bytes)) ≡ first_and_rest bytes
cut_found bytes at e =
    (λ i. (take at bytes, take_rest bytes (at + 1) i)) ∙ ap (λ (o : Option ℕ). unwrap_or (option_map (λ (k : ℕ). (take k bytes, drop (k + 1) bytes)) o) (bytes, [])) e

pub cut_missing : (bytes : List ℕ) → None ≡ position (λ b. b == 10) bytes → (bytes, []) ≡ first_and_rest bytes
cut_missing bytes e = ap (λ (o : Option ℕ). unwrap_or (option_map (λ (k : ℕ). (take k bytes, drop (k + 1) bytes)) o) (bytes, [])) e

-- Codes have at most 32 bytes, and are UTF-8.
use Rattle.std.proofs.Common.{◌≡◌, ℕ, ◌-◌, ◌≤◌, ◌<◌, [], ◌∷◌, ◌&&◌, true, IsUtf8, nat_le, List, ◌++◌, length, drop, replicate, arith, leb-true, ◌∙◌, refl}
use Rattle.std.specs.Prelude.{Result, Ok, Err, IsOk, MatchResult}
use Rattle.std.specs.List.{list_all, AllByRecursion}
use Rattle.std.proofs.lemmas.Bool.Decides.{nat_tests}
use Rattle.std.proofs.lemmas.Str.{IsUtf8-from_ascii}
use Rattle.std.proofs.lemmas.Str.Ascii.{IsAscii-from_all}
use Rattle.std.proofs.lemmas.List.Elements.{All-from_recursion}
use Rattle.std.proofs.lemmas.List.{drop-replicate, drop_at, take_at, length-append, length-drop, length-replicate}
use Rattle.std.proofs.lemmas.Bool.{and_parts}
use Rattle.hyphenation_breaks.specs.Language.{is_code_byte, IsCode}
use Rattle.hyphenation_breaks.specs.Private.Language.{IsPadded}

pub is_code-short : (text : List ℕ) → IsCode text → length text ≤ 32
is_code-short text h = leb-true (length text) 32 (and_parts (nat_le 1 (length text)) (nat_le (length text) 32) (and_parts (nat_le 1 (length text) && nat_le (length text) 32) (list_all is_code_byte text) h).0).1

small : (b : ℕ) → is_code_byte b ≡ true → b < 128
small b h = grind (arith, nat_tests)

all_small : (text : List ℕ) → list_all is_code_byte text ≡ true → AllByRecursion (λ b. b < 128) text
all_small [] h = tt
all_small (b ∷ bs) h = (small b (and_parts (is_code_byte b) (list_all is_code_byte bs) h).0, all_small bs (and_parts (is_code_byte b) (list_all is_code_byte bs) h).1)

pub is_code-utf8 : (text : List ℕ) → IsCode text → IsUtf8 text
is_code-utf8 text h = IsUtf8-from_ascii text (IsAscii-from_all text (All-from_recursion (λ b. b < 128) text (all_small text (and_parts (nat_le 1 (length text) && nat_le (length text) 32) (list_all is_code_byte text) h).1)))

pub zeros-after : (text : List ℕ) → length text ≤ 32 → drop (length text) (text ++ drop (length text) (replicate 32 0)) ≡ replicate (32 - length text) 0
zeros-after text le = drop_at text (drop (length text) (replicate 32 0)) (length text) refl ∙ drop-replicate (length text) 32 0

pub IsHeld-made : (text : List ℕ) → IsCode text → IsPadded (length text) (text ++ drop (length text) (replicate 32 0))
IsHeld-made text code =
    let short = is_code-short text code in
    let rest : List ℕ = drop (length text) (replicate 32 0) in
    let long : length (text ++ rest) ≡ 32 = omega (arith, length-append text rest, length-drop {A = ℕ} (length text) (replicate 32 0), length-replicate {A = ℕ} 32 0) in
    record {
      within = omega arith;
      whole = long;
      code = rw (take_at text rest (length text) refl) code;
      zeros = zeros-after text short;
    }

pub is_ok_unless : {T E : Type 0} (r : Result T E) (P : T → Type 0) (Q : E → Type 0) → MatchResult r P Q → ((e : E) → Q e → ⊥) → IsOk r
is_ok_unless (Ok x) P Q h not_err = refl
is_ok_unless (Err e) P Q h not_err = absurd (not_err e h)

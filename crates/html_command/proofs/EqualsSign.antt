-- The place of an equals sign.
use Rattle.std.proofs.Common.{◌≡◌, ℕ, ◌+◌, ◌<◌, ◌==◌, true, List, length, get_or, arith}
use Rattle.std.specs.Prelude.{Some, position}
use Rattle.std.specs.Str.{IsUtf8, IsCharBoundary}
use Rattle.std.proofs.lemmas.Bool.Decides.{nat_tests}
use Rattle.std.proofs.lemmas.List.Quantifiers.{position-Some}
use Rattle.std.proofs.lemmas.Str.{IsCharBoundary-after_ascii, IsCharBoundary-before_ascii}

sign_at : (text : List ℕ) (at : ℕ) → position (λ b. b == 61) text ≡ Some at
    → (at < length text) × (get_or text at 0 ≡ 61)
sign_at text at e =
    let found = position-Some (λ b. b == 61) text at 0 e in
    let is_sign : (get_or text at 0 == 61) ≡ true = found.1 in
    (found.0, grind (arith, nat_tests))

pub begins_at_sign : (text : List ℕ) (at : ℕ) → position (λ b. b == 61) text ≡ Some at → IsCharBoundary text at
begins_at_sign text at e =
    let sign = sign_at text at e in
    let small : get_or text at 0 < 128 = omega (arith, sign.1) in
    IsCharBoundary-before_ascii text at sign.0 small

pub begins_after_sign : (text : List ℕ) (at : ℕ) → IsUtf8 text → position (λ b. b == 61) text ≡ Some at
    → IsCharBoundary text (at + 1)
begins_after_sign text at utf8 e =
    let sign = sign_at text at e in
    let small : get_or text at 0 < 128 = omega (arith, sign.1) in
    IsCharBoundary-after_ascii text at utf8 sign.0 small

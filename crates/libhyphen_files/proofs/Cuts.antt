-- A part of a text that grows byte by byte.
use Rattle.std.proofs.Common.{◌≡◌, ◌∙◌, ap, refl, ℕ, ◌+◌, ◌-◌, ◌<◌, ◌≤◌, length, List, [], ◌∷◌, ◌++◌, take, drop, get_or, length-drop, arith}
use Rattle.std.proofs.lemmas.List.{take_more, take_all, get_or-drop}

-- The bytes from one place to another one.
abbrev pub cut : List ℕ → ℕ → ℕ → List ℕ
cut bytes start i = take (i - start) (drop start bytes)

pub cut_more : (bytes : List ℕ) (start i : ℕ) → start ≤ i → i < length bytes → cut bytes start (i + 1) ≡ cut bytes start i ++ get_or bytes i 0 ∷ []
cut_more bytes start i begun inside =
    let next : i + 1 - start ≡ i - start + 1 = omega arith in
    let here : start + (i - start) ≡ i = omega arith in
    let within : i - start < length (drop start bytes) = rw length-drop (omega arith) in
    rw next (take_more (drop start bytes) (i - start) 0 within ∙ ap (λ b. cut bytes start i ++ b ∷ []) (get_or-drop start bytes (i - start) 0 ∙ ap (λ k. get_or bytes k 0) here))

pub cut_none : (bytes : List ℕ) (i : ℕ) → cut bytes i i ≡ []
cut_none bytes i =
    let none : i - i ≡ 0 = omega arith in
    rw none refl

-- Up to the end, or beyond it.
pub cut_all : (bytes : List ℕ) (start i : ℕ) → length bytes ≤ i → cut bytes start i ≡ drop start bytes
cut_all bytes start i over =
    let all : length (drop start bytes) ≤ i - start = rw length-drop (omega arith) in
    take_all (i - start) (drop start bytes) all

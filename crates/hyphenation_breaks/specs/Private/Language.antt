-- How a code is padded to 32 bytes.
use Rattle.std.specs.Prelude.{◌≡◌, ℕ, ◌-◌, ◌≤◌, List, ◌++◌, length, take, drop, replicate}
use Rattle.std.proofs.Common.{sym, ap, ◌∙◌, length-take-le, take-append-drop}
use Rattle.hyphenation_breaks.specs.Language.{IsCode}

-- The padded bytes are the code and the zeros after it.
pub padded-take : (n : ℕ) (bytes : List ℕ) → n ≤ length bytes → drop n bytes ≡ replicate (32 - n) 0
    → (take n bytes ++ replicate (32 - length (take n bytes)) 0 ≡ bytes) × (length (take n bytes) ≡ n)
padded-take n bytes le zeros =
    let len = length-take-le n bytes le in (
      ap (λ (k : ℕ). take n bytes ++ replicate (32 - k) 0) len ∙ ap (λ (t : List ℕ). take n bytes ++ t) (sym zeros) ∙
          take-append-drop n bytes,
      len,
    )

-- The bytes hold a code of this length, and zeros up to 32 bytes.
pub record IsPadded (len : ℕ) (bytes : List ℕ) : Type 0 where
  pub within : len ≤ length bytes
  pub whole : length bytes ≡ 32
  pub code : IsCode (take len bytes)
  pub zeros : drop len bytes ≡ replicate (32 - len) 0

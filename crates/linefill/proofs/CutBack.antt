-- A text that begins with another one can be cut back to it.
use Rattle.std.proofs.Common.{◌≡◌, ℕ, ◌<◌, ◌≤◌, List, length, take, sym, ap, subst, ◌∙◌, IsCharBoundary, IsUtf8}
use Rattle.std.specs.List.{slice_index}
use Rattle.std.proofs.lemmas.Str.{IsCharBoundary-from_take}
use Rattle.std.specs.Io.{StartsWith}

pub cut_back : (now before : List ℕ) (n : ℕ) → IsUtf8 now → IsUtf8 before → StartsWith now before → n ≡ length before → n ≤ length now → (n ≤ length now) × (0 < n → n < length now → 128 ≤ slice_index now n → 192 ≤ slice_index now n)
cut_back now before n u v front is within =
    let boundary : IsCharBoundary now n = IsCharBoundary-from_take now n u within (subst IsUtf8 (sym (ap (λ (k : ℕ). take k now) is ∙ front)) v) in
    (within, λ _. boundary.1)

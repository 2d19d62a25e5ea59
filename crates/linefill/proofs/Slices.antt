-- Parts of a text between two places.
use Rattle.std.proofs.Common.{◌≡◌, ℕ, ◌+◌, ◌-◌, ◌≤◌, List, ◌++◌, length, take, drop, slice_range, ap, ◌∙◌, arith, take-add, drop-drop, length-take-le, length-drop}

pub length-slice_range : (text : List ℕ) (a b : ℕ) → b ≤ length text → length (slice_range text a b) ≡ b - a
length-slice_range text a b within = length-take-le (b - a) (drop a text) (omega (arith, length-drop a text))

pub slice_range_split : (text : List ℕ) (a b c : ℕ) → a ≤ b → b ≤ c → slice_range text a c ≡ slice_range text a b ++ slice_range text b c
slice_range_split text a b c ab bc =
    let sum : c - a ≡ (b - a) + (c - b) = omega arith in
    let next : a + (b - a) ≡ b = omega arith in
    ap (λ n. take n (drop a text)) sum ∙ take-add (b - a) (c - b) (drop a text)
    ∙ ap (λ t. slice_range text a b ++ take (c - b) t) (drop-drop (b - a) a text ∙ ap (λ n. drop n text) next)

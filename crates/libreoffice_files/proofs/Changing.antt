-- A change that is put together of its parts.
use Rattle.std.proofs.Common.{◌≡◌, ◌∙◌, ℕ, ◌<◌, ◌≤◌, ◌⊎◌, ◌&&◌, ◌||◌, Bool, inl, inr, List, ◌++◌, length, Option, Some, Ok, IsTrue, nat_lt, nat_le, slice_index, ap, arith}
use Rattle.std.specs.Prelude.{IsUtf8}
use Rattle.std.specs.Str.{IsCharBoundary}
use Rattle.std.proofs.lemmas.Bool.Decides.{nat_tests}
use Rattle.std.proofs.lemmas.List.{get_or_past}
use Rattle.std.proofs.lemmas.Str.{IsCharBoundary-at_seam}
use Rattle.std.proofs.Math.Nat.{eq-or-lt_of_le}
use Rattle.hyphenation_breaks.specs.Break.{is_boundary}
use Rattle.libreoffice_files.specs.LibreOfficePatterns.{value_in, are_several, change_at_value, with_value, change_in}
use Rattle.libreoffice_files.specs.declared.change.PlacedChange.{PlacedChange}
use Rattle.libreoffice_files.specs.declared.change.Range.{Range}
use Rattle.libreoffice_files.specs.declared.value.Value.{Value}

at_end : (len i x : ℕ) → i ≤ len → x ≡ 0 → IsTrue (nat_le i len && (nat_lt x 128 || nat_le 192 x))
at_end len i x h e = grind (arith, nat_tests)

within : (len i x : ℕ) → i ≤ len → (128 ≤ x → 192 ≤ x) → IsTrue (nat_le i len && (nat_lt x 128 || nat_le 192 x))
within len i x h e = grind (arith, nat_tests)

by_place : (bs : List ℕ) (i : ℕ) → i ≤ length bs → (i < length bs → 128 ≤ slice_index bs i → 192 ≤ slice_index bs i) → (i ≡ length bs) ⊎ (i < length bs) → IsTrue (is_boundary bs i)
by_place bs i h lead (inl e) = at_end (length bs) i (slice_index bs i) h (get_or_past bs i 0 (omega arith))
by_place bs i h lead (inr less) = within (length bs) i (slice_index bs i) h (lead less)

-- where a text goes on with another one, it may be cut
pub seam : (bs xs ys : List ℕ) → bs ≡ xs ++ ys → IsUtf8 ys → IsTrue (is_boundary bs (length xs))
seam bs xs ys e u =
    let h : IsCharBoundary bs (length xs) = IsCharBoundary-at_seam bs xs ys e u in
    by_place bs (length xs) h.0 h.1 (eq-or-lt_of_le h.0)

pub change_joined : (values : List Value) (halves : List ℕ × List ℕ) (range : Range) (value : Value) (p : PlacedChange) (s : Bool) → Some value ≡ value_in values range → p ≡ change_at_value range halves value → s ≡ are_several values range
    → Ok (p, s) ≡ change_in values halves (Some range)
change_joined values halves range value p s e f g =
    (λ i. Ok (f i, g i)) ∙ ap (λ (o : Option Value). with_value range halves (are_several values range) o) e

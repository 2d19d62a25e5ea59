-- Blocks of bytes that begin with letters of ASCII.

use Rattle.std.proofs.Common.{◌≡◌, ℕ, ◌+◌, ◌%◌, ◌^◌, ◌≤◌, eqb, cond, Bool, true, not, ◌||◌, List, map, length, get_or, Fits, w8, sym, ap, ◌∙◌, arith}
use Rattle.std.proofs.lemmas.Bool.{agree_below, agree_below_at}
use Rattle.std.proofs.lemmas.List.{length-map}
use Rattle.std.proofs.lemmas.Simd.{map-map, mask_l-mod, length-chunk, first_set_mask_l, run_in_chunk_le, run_in_chunk_fails}
use Rattle.std.specs.Char.{is_ascii_alphabetic}
use Rattle.std.specs.List.{prefix_len}
use lib.Count.{count_trailing_zeros}
use lib.Lanes.{chunk, mask_l, top}
use Rattle.word_pieces.specs.Private.Kinds.{IsRun}
use Rattle.word_pieces.proofs.Letters.{letter_kind}

-- `lanes` is what was computed of each byte of a block. Its highest bit is set where the byte is no letter.
module _ (text : List ℕ) (from n : ℕ) (room : from + n ≤ length text) (few : n ≤ 64) (fits : (k : ℕ) → Fits w8 (get_or text k 0))
    (lanes : List ℕ) (f : ℕ → ℕ) (computed : lanes ≡ map f (chunk from n text))
    (others : agree_below (λ x. top 7 (f x) || is_ascii_alphabetic x) (λ _. true) 256 ≡ true) where
  abbrev stops : ℕ → Bool
  stops x = top 7 (f x)

  mask : mask_l (map (top 7) lanes) % 2 ^ 64 ≡ mask_l (map stops (chunk from n text))
  mask =
      ap (λ l. mask_l l % 2 ^ 64) (ap (map (top 7)) computed ∙ map-map (top 7) f (chunk from n text))
      ∙ mask_l-mod (map stops (chunk from n text)) 64 (omega (arith, length-map (chunk from n text) stops, length-chunk from n text room))

  -- There are letters up to the first bit that is set.
  pub IsRun-letters : (r : ℕ) → (let m = mask_l (map (top 7) lanes) % 2 ^ 64 in r ≡ cond (eqb m 0) n (count_trailing_zeros 64 m)) → IsRun text from (from + r)
  IsRun-letters r first =
      let counted : r ≡ prefix_len (λ x. not (stops x)) (chunk from n text) =
      first ∙ ap (λ m. cond (eqb m 0) n (count_trailing_zeros 64 m)) mask
      ∙ first_set_mask_l stops (chunk from n text) n (length-chunk from n text room) few in (
        omega arith,
        omega (arith, run_in_chunk_le stops text from n r 0 room counted),
        λ k low high.
            letter_kind (get_or text k 0)
            (sym (ap (λ b. b || is_ascii_alphabetic (get_or text k 0)) (run_in_chunk_fails stops text from n r 0 room counted k low high))
            ∙ agree_below_at (λ x. stops x || is_ascii_alphabetic x) (λ _. true) 256 (get_or text k 0) others (fits k).fits),
      )

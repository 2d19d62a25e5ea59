-- Breaks of a piece, counted from the beginning of the word.
use Rattle.std.proofs.Common.{◌≡◌, ℕ, zero, suc, ◌+◌, ◌<◌, List, [], ◌∷◌, length, map, get_or, sym, ap, subst, ◌∙◌, arith, inl, inr}
use Rattle.std.specs.Str.{IsCharBoundary}
use Rattle.std.proofs.lemmas.Bool.{cases_lt}
use Rattle.std.proofs.lemmas.List.Edits.{get_or-between}
use Rattle.hyphenation_breaks.specs.Break.{Break, begin_of, end_of}
use Rattle.hyphenation_segments.specs.Fits.{FitsFrom, BreakFitsAfter}
use Rattle.word_pieces.specs.Pieces.{IsSlice}
use Rattle.paragraphs.specs.Parts.{set_off}
use Rattle.paragraphs.specs.Private.Open.{LiesIn}

-- A character boundary of a piece is one of the word.
pub in_piece : (word : List ℕ) (x : ℕ × List ℕ) (b : ℕ) → IsSlice word x → IsCharBoundary x.1 b → IsCharBoundary word (x.0 + b)
in_piece word x b is at =
    elim (cases_lt b (length x.1)) [
      | inr last ↦ subst (λ n. IsCharBoundary word (x.0 + n)) (omega (arith, at.0)) is.end
      | inl lt ↦
          let same : get_or x.1 b 0 ≡ get_or word (x.0 + b) 0 = ap (λ s. get_or s b 0) is.bytes ∙ get_or-between word x.0 (x.0 + length x.1) b 0 (omega arith) in
          (omega (arith, is.end.0), λ _ high. omega (arith, at.1 lt (omega (arith, same)), same))
    ]

-- Both ends of a range that stands in a piece are character boundaries of the word.
begin_in_word : (word : List ℕ) (x : ℕ × List ℕ) (b : Break) → IsSlice word x → BreakFitsAfter x.1 0 0 b → IsCharBoundary word (begin_of (set_off x.0 b))
begin_in_word word x b is stands =
    let same : x.0 + begin_of b ≡ begin_of (set_off x.0 b) = omega (arith, stands.within) in
    subst (IsCharBoundary word) same (in_piece word x (begin_of b) is stands.begin)

end_in_word : (word : List ℕ) (x : ℕ × List ℕ) (b : Break) → IsSlice word x → BreakFitsAfter x.1 0 0 b → IsCharBoundary word (end_of (set_off x.0 b))
end_in_word word x b is stands =
    let same : x.0 + end_of b ≡ end_of (set_off x.0 b) = omega arith in
    subst (IsCharBoundary word) same (in_piece word x (end_of b) is stands.end)

-- So the break lies in the word.
pub lies_in : (word : List ℕ) (x : ℕ × List ℕ) (b : Break) → IsSlice word x → BreakFitsAfter x.1 0 0 b → LiesIn word x.0 b
lies_in word x b is stands = record { within = stands.within; begin = begin_in_word word x b is stands; end = end_in_word word x b is stands }

-- Each of the breaks that fit a text stands in it.
pub each_stands : {X : Type 0} (meaning : X → Break) (text : List ℕ) (xs : List X) (last_end least : ℕ) → FitsFrom text last_end least (map meaning xs)
    → (i : ℕ) (x : X) → i < length xs → x ≡ get_or xs i x → BreakFitsAfter text 0 0 (meaning x)
each_stands meaning text [] last_end least fit i x lt is = absurd (omega (arith, lt))
each_stands meaning text (y ∷ ys) last_end least fit zero x lt is =
    subst (λ z. BreakFitsAfter text 0 0 (meaning z)) (sym is)
    record { ascends = omega arith; within = fit.0.within; apart = omega arith; place = fit.0.place; begin = fit.0.begin; end = fit.0.end }
each_stands meaning text (y ∷ ys) last_end least fit (suc i) x lt is =
    each_stands meaning text ys (end_of (meaning y)) ((meaning y).place + 1) fit.1 i x (omega (arith, lt)) is

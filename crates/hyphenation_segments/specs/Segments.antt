-- The segments of a text, and their marks.
use Rattle.std.specs.Prelude.{ℕ, List, [], ◌∷◌, ◌++◌, length, slice_range}
use Rattle.std.specs.List.{concat}
use Rattle.hyphenation_breaks.specs.Break.{Break, plain_break, begin_of, end_of, before_of, after_of}

-- The segment between two breaks: the second half of the first change, the text between the ranges, the first half of
-- the second change.
abbrev pub segment_between : List ℕ → Break → Break → List ℕ
segment_between text a b = after_of a.change ++ slice_range text (end_of a) (begin_of b) ++ before_of b.change

-- The segments after a break. The last one goes up to the end of the text.
abbrev pub segments_after : List ℕ → Break → List Break → List (List ℕ)
segments_after text last [] = segment_between text last (plain_break (length text)) ∷ []
segments_after text last (b ∷ bs) = segment_between text last b ∷ segments_after text b bs

-- The segments of a text.
abbrev pub segments : List ℕ → List Break → List (List ℕ)
segments text breaks = segments_after text (plain_break 0) breaks

-- The mark where more segments follow, and else an empty text.
abbrev pub mark_if_more : List ℕ → List (List ℕ) → List ℕ
mark_if_more mark [] = []
mark_if_more mark (s ∷ ss) = mark

-- The segments, each but the last with the mark after it.
abbrev pub marked_segments : List ℕ → List (List ℕ) → List (List ℕ)
marked_segments mark [] = []
marked_segments mark (s ∷ ss) = (s ++ mark_if_more mark ss) ∷ marked_segments mark ss

-- The text from a place to the end of a break's range, with the break made and the mark at it.
abbrev pub through_break : List ℕ → List ℕ → ℕ → Break → List ℕ
through_break mark text start b =
    slice_range text start (begin_of b) ++ before_of b.change ++ mark ++ after_of b.change

-- The marked segments of a text, joined.
abbrev pub marked_word : List ℕ → List ℕ → List Break → List ℕ
marked_word mark text breaks = concat (marked_segments mark (segments text breaks))

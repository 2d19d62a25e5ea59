use Rattle.std.proofs.Common.{◌≡◌, ◌++◌, List, length}
use Rattle.std.specs.List.{flat_map}
use Rattle.hyphenation_breaks.specs.Break.{Break}
use Rattle.unicode_segmentation.specs.Segments.{with_offsets}
use Rattle.text_words.specs.Left.{words_left}
use Rattle.text_words.specs.Words.{unless_mixed}
use Rattle.word_pieces.specs.Pieces.{AreSlices}
use Rattle.paragraphs.specs.Parts.{breaks_in, composed_breaks, piece_breaks}
use Rattle.paragraphs.specs.Private.Open.{settings_with, word_of}
use Rattle.paragraphs.proofs.word.pass_each_piece.Given as goal

-- The parts that are made, with those that the pieces to come give, stay the same.
abbrev pub invariant-loop-piece : goal.invariant-loop-piece
invariant-loop-piece g l =
    let breaks_of = g.H.Hyphenator.breaks_of l.dictionary in
    record {
      word : l.current.word ≡ l.initial.current.word;
      goes : (others : List Break) → settings_with l.parts.items l.current (flat_map (breaks_in (composed_breaks (unless_mixed breaks_of))) (with_offsets l.offset (words_left l.pieces)) ++ others)
          ≡ settings_with l.initial.parts.items l.initial.current (piece_breaks breaks_of (word_of l.initial.current) ++ others);
      pieces : AreSlices (word_of l.current) (with_offsets l.offset (words_left l.pieces));
    }

abbrev pub decreases-loop-piece : goal.decreases-loop-piece
decreases-loop-piece g l = length (words_left l.pieces)

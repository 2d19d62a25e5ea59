use Rattle.std.specs.String.{string_bytes}
use Rattle.hyphenation_segments.specs.Segments.{marked_word}
use Rattle.hyphenation_hyphenator.specs.Hyphenated.{hyphenated_text}
use Rattle.word_pieces.specs.Pieces.{pieces_left}
use Rattle.hyphenation_hyphenator.proofs.PassedText.{IsPassed}
use Rattle.hyphenation_hyphenator.proofs.text.hyphenated_text.Given as goal

abbrev pub invariant-loop-piece : goal.invariant-loop-piece
invariant-loop-piece g l =
    IsPassed l.text (λ piece. marked_word l.mark piece (g.H.Hyphenator.breaks_of l.dictionary piece)) (hyphenated_text (g.H.Hyphenator.breaks_of l.dictionary) l.mark l.text)
    (string_bytes l.output) l.start l.at (pieces_left l.piece-iterator)

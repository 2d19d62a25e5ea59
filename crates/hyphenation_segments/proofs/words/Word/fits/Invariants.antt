use Rattle.std.proofs.Common.{map, ◌↔◌, drop}
use Rattle.hyphenation_segments.specs.Fits.{Fits, FitsFrom}
use Rattle.hyphenation_segments.proofs.words.Word.fits.Given as goal

abbrev pub invariant-loop-b : goal.invariant-loop-b
invariant-loop-b g l =
    FitsFrom l.text l.last_end l.least (map g.B.Break.meaning (drop l.b-index l.breaks)) ↔ Fits l.text (map g.B.Break.meaning l.breaks)

use Rattle.std.proofs.Common.{◌≡◌, drop}
use Rattle.hyphenation_breaks.specs.Invariant.{are_listed}
use Rattle.hyphenation_breaks.specs.Laws.{listed_from}
use Rattle.hyphenation_dictionary.proofs.dictionary.Dictionary.fits.Given as goal

abbrev pub invariant-loop-b : goal.invariant-loop-b
invariant-loop-b g l = listed_from g.B.Break.meaning l.word l.least (drop l.b-index l.listed) ≡ are_listed g.B.Break.meaning l.word l.listed

use Rattle.std.proofs.Common.{length}
use Rattle.std.specs.Str.{IsUtf8}
use Rattle.paragraphs.specs.Private.Cuts.{CutsWord}
use Rattle.paragraphs.proofs.words.after_word.Given as goal

-- The text that was passed is a beginning of its first word.
abbrev pub invariant-loop-c : goal.invariant-loop-c
invariant-loop-c l = record {
  cut : CutsWord l.text l.rest;
  utf8 : IsUtf8 l.rest;
}

abbrev pub decreases-loop-c : goal.decreases-loop-c
decreases-loop-c l = length l.rest

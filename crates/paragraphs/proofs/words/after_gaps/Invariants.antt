use Rattle.std.proofs.Common.{◌≡◌, ◌≤◌, length}
use Rattle.std.specs.Str.{IsUtf8}
use Rattle.paragraphs.specs.Words.{words, EndsIn}
use Rattle.paragraphs.proofs.words.after_gaps.Given as goal

-- Gaps that were passed take no word.
abbrev pub invariant-loop-c : goal.invariant-loop-c
invariant-loop-c l = record {
  passed : words l.rest ≡ words l.text;
  utf8 : IsUtf8 l.rest;
  no_longer : length l.rest ≤ length l.text;
  end : EndsIn l.text l.rest;
}

abbrev pub decreases-loop-c : goal.decreases-loop-c
decreases-loop-c l = length l.rest

use Rattle.std.proofs.Common.{◌≡◌, drop}
use Rattle.hyphenation_text.specs.Words.{has_soft_hyphen_after}
use Rattle.hyphenation_text.proofs.words.has_soft_hyphen.Given as goal

abbrev pub invariant-loop-byte : goal.invariant-loop-byte
invariant-loop-byte l = has_soft_hyphen_after l.before (drop l.byte-index l.token) ≡ has_soft_hyphen_after 0 l.token

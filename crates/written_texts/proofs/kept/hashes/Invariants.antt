use Rattle.std.proofs.Common.{◌≡◌, ◌+◌, drop}
use Rattle.written_texts.specs.Kept.{hashes}
use Rattle.written_texts.proofs.kept.hashes.Given as goal

abbrev pub invariant-loop-i : goal.invariant-loop-i
invariant-loop-i l = hashes l.text ≡ l.i + hashes (drop l.i l.text)

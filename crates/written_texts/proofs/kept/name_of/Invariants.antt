use Rattle.std.proofs.Common.{◌≡◌, ◌++◌, take, drop}
use Rattle.written_texts.specs.Kept.{name_of}
use Rattle.written_texts.proofs.kept.name_of.Given as goal

abbrev pub invariant-loop-i : goal.invariant-loop-i
invariant-loop-i l = name_of l.line ≡ take l.i l.line ++ name_of (drop l.i l.line)

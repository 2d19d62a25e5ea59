use Rattle.std.proofs.Common.{◌≡◌, ◌<◌, ◌++◌, [], length, map}
use Rattle.libhyphen_files.specs.Lines.{lines_from, lines_of}
use Rattle.libhyphen_files.proofs.lines.lines_of.Given as goal

abbrev pub invariant-loop-rest : goal.invariant-loop-rest
invariant-loop-rest l = record {
  room : 0 < l.room;
  lines : map (λ line. line.now) l.lines.items ++ lines_from [] l.room l.rest ≡ lines_of l.bytes;
}

abbrev pub decreases-loop-rest : goal.decreases-loop-rest
decreases-loop-rest l = length l.rest

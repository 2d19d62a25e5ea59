use Rattle.std.proofs.Common.{map, take}
use Rattle.convert_command.specs.Written.{AreBytesAt}
use Rattle.convert_command.proofs.read_files.Given as goal

abbrev pub invariant-loop-index : goal.invariant-loop-index
invariant-loop-index g l =
    AreBytesAt (g.F.NamedFiles.bytes l.files) (take l.index (map (λ path. path.now) l.paths)) (map (λ bytes. bytes.items) l.all.items)

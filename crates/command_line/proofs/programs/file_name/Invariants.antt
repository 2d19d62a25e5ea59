use Rattle.std.proofs.Common.{◌≡◌, drop}
use Rattle.command_line.specs.Programs.{end_after, file_name}
use Rattle.command_line.proofs.programs.file_name.Given as goal

abbrev pub invariant-loop-at : goal.invariant-loop-at
invariant-loop-at l = end_after l.end (drop l.at l.path) ≡ file_name l.path

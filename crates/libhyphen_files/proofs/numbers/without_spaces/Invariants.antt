use Rattle.std.proofs.Common.{◌≡◌, ◌+◌, drop}
use Rattle.std.specs.List.{prefix_len}
use Rattle.libhyphen_files.specs.Numbers.{is_space}
use Rattle.libhyphen_files.proofs.numbers.without_spaces.Given as goal

abbrev pub invariant-loop-i : goal.invariant-loop-i
invariant-loop-i l = prefix_len is_space l.text ≡ l.i + prefix_len is_space (drop l.i l.text)

use Rattle.std.proofs.Common.{◌≡◌, ◌+◌, drop}
use Rattle.std.specs.List.{prefix_len}
use Rattle.libhyphen_files.specs.Levels.{is_blank}
use Rattle.libhyphen_files.proofs.settings.without_blanks.Given as goal

abbrev pub invariant-loop-i : goal.invariant-loop-i
invariant-loop-i l = prefix_len is_blank l.text ≡ l.i + prefix_len is_blank (drop l.i l.text)

use Rattle.std.proofs.Common.{◌≡◌, ◌+◌, drop, map}
use Rattle.std.specs.List.{position_or_len}
use Rattle.libhyphen_files.specs.Files.{is_next_level}
use Rattle.libhyphen_files.proofs.file.next_level_at.Given as goal

abbrev pub invariant-loop-i : goal.invariant-loop-i
invariant-loop-i l =
    position_or_len is_next_level (map (λ x. x.now) l.lines)
    ≡ l.i + position_or_len is_next_level (drop l.i (map (λ x. x.now) l.lines))

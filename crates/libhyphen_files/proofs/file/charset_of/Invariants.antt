use Rattle.std.proofs.Common.{◌≡◌, ◌+◌, ◌==◌, ◌||◌, drop}
use Rattle.std.specs.List.{position_or_len}
use Rattle.hyphenation_breaks.specs.Ascii.{line_feed, carriage_return}
use Rattle.libhyphen_files.proofs.file.charset_of.Given as goal

abbrev pub invariant-loop-i : goal.invariant-loop-i
invariant-loop-i l =
    position_or_len (λ b. b == 0 || b == line_feed || b == carriage_return) l.line
    ≡ l.i + position_or_len (λ b. b == 0 || b == line_feed || b == carriage_return) (drop l.i l.line)

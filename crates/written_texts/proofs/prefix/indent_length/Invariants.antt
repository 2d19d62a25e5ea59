use Rattle.std.proofs.Common.{◌≡◌, ◌+◌, drop}
use Rattle.std.specs.List.{prefix_len}
use Rattle.written_texts.specs.Prefixes.{is_indent}
use Rattle.written_texts.proofs.prefix.indent_length.Given as goal

abbrev pub invariant-loop-i : goal.invariant-loop-i
invariant-loop-i l = prefix_len is_indent l.text ≡ l.i + prefix_len is_indent (drop l.i l.text)

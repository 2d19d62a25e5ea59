use Rattle.std.proofs.Common.{sym, ◌∙◌}
use Rattle.std.proofs.lemmas.Str.{is_utf8-from_IsUtf8}
use Rattle.hyphenation_reader.proofs.items.is_utf8_line.Goals as goal

pub returns-then-known : goal.returns-then-known
returns-then-known c = c.if-known.true ∙ sym (is_utf8-from_IsUtf8 c.args.line.now (c.requires c.if-known.true))

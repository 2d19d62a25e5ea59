use Rattle.std.proofs.Common.{rules, ◌∙◌, sym, ap, length, chars}
use Rattle.std.proofs.lemmas.Str.{chars_from_encodes, chars-IsAscii}
use Rattle.linefill.proofs.filling.count_characters.Goals as goal

pub returns : goal.returns
returns c = search (rules, chars_from_encodes)

pub returns-then-is_ascii : goal.returns-then-is_ascii
returns-then-is_ascii c = ap length (sym (chars-IsAscii c.range-part.result.now c.if-is_ascii.ensures.cases)) ∙ ap (λ s. length (chars s)) c.range-part.ensures.value

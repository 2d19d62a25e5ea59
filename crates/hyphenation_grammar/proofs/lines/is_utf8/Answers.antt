use Rattle.std.proofs.Common.{◌∙◌}
use Rattle.hyphenation_grammar.proofs.Utf8.{tells}
use Rattle.hyphenation_grammar.proofs.lines.is_utf8.Goals as goal

pub returns : goal.returns
returns c = c.is_ok.ensures.value ∙ tells c.from_utf8.result c.args.text.now _ c.from_utf8.ensures

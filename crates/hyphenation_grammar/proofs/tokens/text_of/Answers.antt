use Rattle.std.proofs.Common.{◌∙◌, ap, sym, List, ℕ, Some}
use Rattle.hyphenation_grammar.proofs.WordUtf8.{text_itself}
use Rattle.hyphenation_grammar.proofs.tokens.text_of.Goals as goal

pub returns-then-stand_for_themselves : goal.returns-then-stand_for_themselves
returns-then-stand_for_themselves c = ap (λ (bytes : List ℕ). Some bytes) c.in_ok-copy.ensures ∙ text_itself c.args.written.now (sym c.stand_for_themselves.ensures ∙ c.if-stand_for_themselves.true)

use Rattle.std.proofs.Common.{ap, sym, false, [], ◌∙◌}
use Rattle.std.specs.Option.{unwrap_or}
use Rattle.html_pieces.specs.declared.tokenizer.State.TheVariants.{TagEnd}
use Rattle.html_pieces.proofs.QuietBytes.{next_stays}
use Rattle.html_pieces.proofs.tags.next_in_tag.Goals as goal

pub returns-then-is_quiet : goal.returns-then-is_quiet
returns-then-is_quiet c =
    sym (ap (λ o. unwrap_or o TagEnd) (next_stays c.args.form false c.args.state [] c.args.byte (sym c.is_quiet.ensures ∙ c.if-is_quiet.true)))

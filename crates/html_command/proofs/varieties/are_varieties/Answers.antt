use Rattle.html_command.proofs.Rivals.{varieties_there}
use Rattle.html_command.proofs.varieties.are_varieties.Goals as goal

pub returns-then-eq : goal.returns-then-eq
returns-then-eq c =
    varieties_there c.args.parts.now c.args.others.now _ _ c.eq.result c.have_rivals.result c.in-len1-up.len_at_least c.in-len1-up-others.len_at_least
    c.eq.ensures c.if-eq.true c.have_rivals.ensures

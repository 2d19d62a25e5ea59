use Rattle.html_command.proofs.Loaded.{code_at}
use Rattle.html_command.proofs.dictionaries.take_code.Goals as goal

pub returns-clause-code : goal.returns-clause-code
returns-clause-code c =
    code_at c.deref.result.now c.args.others.now.items c.args.code.now c.place_of.result c.in_ok-place.place c.remove.result
    c.place_of.ensures c.in_ok-place.was c.deref.ensures.value c.remove.ensures.value

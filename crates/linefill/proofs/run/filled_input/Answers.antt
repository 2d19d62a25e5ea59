use Rattle.std.proofs.Common.{ap, ◌∙◌}
use Rattle.std.proofs.lemmas.Option.{IfSome_then}
use Rattle.linefill.specs.Run.{filled_text}
use Rattle.linefill.proofs.run.filled_input.Goals as goal

pub returns-clause-lines : goal.returns-clause-lines
returns-clause-lines g c =
    let columns = c.args.columns in
    let given = c.in_ok-dictionary.dictionary in
    IfSome_then (g.D.Read.remaining c.args.reader.now) c.in_ok-dictionary.ensures.loaded (λ bytes loaded. IfSome_then (g.I.Read.remaining c.args.input.now) c.in_ok-text.ensures.read (λ text read.
    c.in_ok-filled.ensures ∙ ap (λ t. filled_text columns given t) (c.deref.ensures ∙ read) ∙ ap (λ d. filled_text columns d text) loaded.1))

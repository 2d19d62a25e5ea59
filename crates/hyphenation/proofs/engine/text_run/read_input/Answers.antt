use Rattle.std.proofs.Common.{IsUtf8, ap, subst, ◌∙◌}
use Rattle.std.proofs.lemmas.Option.{IfSome_then}
use Rattle.std.proofs.lemmas.Str.{IsUtf8-string_bytes}
use Rattle.hyphenation.proofs.engine.text_run.read_input.Goals as goal

pub returns-in-Ok-clause-text : goal.returns-in-Ok-clause-text
returns-in-Ok-clause-text g c =
    IfSome_then (g.I.Read.remaining c.args.input.now) c.in_ok-bytes.ensures.read
    (λ bytes read. subst IsUtf8 (ap (λ v. v.items) c.in-Ok.ensures.ok ∙ read) (IsUtf8-string_bytes c.in-Ok.text))

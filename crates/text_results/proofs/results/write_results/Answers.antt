use Rattle.std.proofs.Common.{IfErr, map, sym, subst, ap}
use Rattle.std.specs.String.{string_bytes}
use Rattle.std.proofs.lemmas.Result.{IfErr-weaker}
use Rattle.hyphenation_breaks.specs.Borrowed.{texts_now}
use Rattle.text_results.specs.Targets.{Target}
use Rattle.text_results.specs.Reading.{as_target}
use Rattle.text_results.specs.Written.{IsFailureOfWriting}
use Rattle.text_results.proofs.results.write_results.Goals as goal

pub returns-in-File-clause-failure : goal.returns-in-File-clause-failure
returns-in-File-clause-failure g c =
    subst (λ (target : Target). IfErr c.write_file.result (IsFailureOfWriting target (texts_now c.args.inputs.now) (map string_bytes c.args.results.now) (g.S.ReplaceFiles.written c.args.store.now) (g.S.ReplaceFiles.written c.write_file.new.store)))
    (sym (ap as_target c.in-File.is))
    (IfErr-weaker c.write_file.result _ _ (λ failure fails. fails (texts_now c.args.inputs.now)) c.write_file.ensures.failure)

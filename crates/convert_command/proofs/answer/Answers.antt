use Rattle.std.proofs.Common.{List, refl, subst}
use Rattle.command_line.specs.Endings.{Tells}
use Rattle.hyphenation_breaks.specs.Borrowed.{texts_now}
use Rattle.pattern_results.specs.declared.notes.Note.{Note}
use Rattle.convert_command.proofs.Done.{done_ends, failed_ends}
use Rattle.convert_command.specs.Messages.{notes_text}
use Rattle.convert_command.specs.Private.Requests.{is_dic, parsed_request}
use Rattle.convert_command.proofs.answer.Goals as goal

pub returns-in-Ok-run-clause-ended : goal.returns-in-Ok-run-clause-ended
returns-in-Ok-run-clause-ended g c =
    let request = c.in-Ok.request in
    let told : Tells g.E.Write.contents c.args.errors.now c.report_notes.new.errors (notes_text (texts_now request.paths.now) c.in-Ok-run.notes.items) =
    subst (λ (notes : List Note). Tells g.E.Write.contents c.args.errors.now c.report_notes.new.errors (notes_text (texts_now request.paths.now) notes))
    c.deref.ensures.value c.report_notes.ensures in
    done_ends c.args.args.now (parsed_request request) (is_dic request.input) (g.F.NamedFiles.bytes c.args.files.now) 0
    (Tells g.E.Write.contents c.args.errors.now c.report_notes.new.errors) c.in-Ok-run.notes.items c.in-Ok.ensures.parsed c.in-Ok.ensures.input refl
    c.in-Ok-run.ensures.notes told

pub returns-in-Err-run-clause-ended : goal.returns-in-Err-run-clause-ended
returns-in-Err-run-clause-ended g c =
    let request = c.in-Ok.request in
    failed_ends c.args.args.now (parsed_request request) (is_dic request.input) (g.F.NamedFiles.bytes c.args.files.now) c.report.result
    (Tells g.E.Write.contents c.args.errors.now c.report.new.errors) c.in-Err-run.failure c.in-Ok.ensures.parsed c.in-Ok.ensures.input
    c.in-Err-run.ensures.failure c.report.ensures.status c.report.ensures.told

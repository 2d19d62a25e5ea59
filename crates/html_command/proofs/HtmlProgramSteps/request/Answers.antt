use Rattle.std.proofs.lemmas.Result.{IfErr-weaker}
use Rattle.hyphenation_breaks.specs.Borrowed.{texts_now}
use Rattle.html_command.specs.Arguments.{parsed_args}
use Rattle.html_command.proofs.Unread.{refused_ends}
use Rattle.html_command.proofs.HtmlProgramSteps.request.Goals as goal

pub returns-clause-refused : goal.returns-clause-refused
returns-clause-refused g c =
    IfErr-weaker c.from_args.result _ _
    (λ error is. refused_ends (parsed_args c.args.self.now.call.args.now) (g.F.NamedFiles.bytes c.args.self.now.files.now) (texts_now c.args.self.now.call.folders.now)
    g.I.Read.remaining g.O.Write.contents g.S.ReplaceFiles.written error is)
    c.from_args.ensures.refused

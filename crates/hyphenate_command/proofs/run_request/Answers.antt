use Rattle.std.proofs.Common.{rules}
use Rattle.hyphenate_command.proofs.Known.{by_known}
use Rattle.named_files.specs.Files.{known_bytes}
use Rattle.linefill.specs.Run.{fill_output}
use Rattle.hyphenate_command.proofs.run_request.Goals as goal

pub returns-clause-written : goal.returns-clause-written
returns-clause-written g c =
    let written = by_known (known_bytes (g.F.NamedFiles.bytes c.args.files.now c.args.request.now.path.now))
    (g.F.File.Read.remaining c.in_ok-dictionary.dictionary) (g.I.Read.remaining c.args.input.now) c.run_fill.result
    g.O.Write.contents c.args.output.now c.run_fill.new.output (fill_output c.in-Lines.columns)
    (search rules) c.run_fill.ensures.written in
    rw c.in-Lines.is written

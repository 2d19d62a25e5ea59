use Rattle.convert_command.proofs.Reading.{read_more}
use Rattle.convert_command.proofs.read_files.Goals as goal

pub loop-index-preserved : goal.loop-index-preserved
loop-index-preserved g c =
    read_more (g.F.NamedFiles.bytes c.args.files.now) (λ bytes. bytes.items) c.args.paths.now c.loop-index.index c.loop-index.all.items c.push.new.all.items _
    c.loop-index-test.true c.loop-index.invariant c.in_ok-bytes.ensures.bytes c.in_ok-push.ensures

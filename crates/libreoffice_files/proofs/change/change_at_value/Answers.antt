use Rattle.libreoffice_files.proofs.Changing.{seam}
use Rattle.libreoffice_files.proofs.change.change_at_value.Goals as goal

pub new-change-requires : goal.new-change-requires
new-change-requires c = seam _ c.args.before.now c.args.after.now c.in_ok-substitution.ensures c.utf8.after

use Rattle.libreoffice_files.proofs.WithoutChanges.{kinds_keep}
use Rattle.libreoffice_files.proofs.carried_changes.kinds_keep.Goals as goal

pub returns : goal.returns
returns c = kinds_keep

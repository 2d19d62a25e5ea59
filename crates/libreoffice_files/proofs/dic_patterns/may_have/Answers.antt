use Rattle.libreoffice_files.proofs.Texts.{same_by}
use Rattle.libreoffice_files.proofs.dic_patterns.may_have.Goals as goal

pub returns : goal.returns
returns g c = same_by _ _ c.fits_key.ensures

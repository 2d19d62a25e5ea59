use Rattle.libreoffice_files.proofs.Texts.{cut_found, cut_missing}
use Rattle.libreoffice_files.proofs.dic.first_and_rest.Goals as goal

pub returns-in-Some : goal.returns-in-Some
returns-in-Some c = cut_found c.args.bytes.now c.in-Some.at c.in-Some.ensures

pub returns-in-None : goal.returns-in-None
returns-in-None c = cut_missing c.args.bytes.now c.in-None.ensures

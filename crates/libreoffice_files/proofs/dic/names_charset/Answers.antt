use Rattle.libreoffice_files.specs.LibreOffice.{is_name}
use Rattle.libreoffice_files.proofs.Texts.{of_text, of_no_text}
use Rattle.libreoffice_files.proofs.dic.names_charset.Goals as goal

pub returns-in-Ok : goal.returns-in-Ok
returns-in-Ok c = let h = c.in-Ok.ensures.cases in of_text is_name c.args.line.now c.in-Ok.text.now c.is_name.result h.1 h.0 c.is_name.ensures

pub returns-in-Err : goal.returns-in-Err
returns-in-Err c = let h = c.in-Err.ensures.cases in of_no_text is_name c.args.line.now h.0

use Rattle.std.proofs.lemmas.Str.Pattern.{split_once_first}
use Rattle.libreoffice_files.proofs.Texts.{cut_once}
use Rattle.libreoffice_files.proofs.lines.split_at_byte.Goals as goal

pub returns : goal.returns
returns c = cut_once c.args.mark c.args.text.now _ (split_once_first c.args.mark c.args.text.now _ c.split_once.ensures.cases c.requires)

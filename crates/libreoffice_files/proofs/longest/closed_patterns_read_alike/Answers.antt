use Rattle.libreoffice_files.proofs.LongestBeginnings.{read_alike}
use Rattle.libreoffice_files.proofs.longest.closed_patterns_read_alike.Goals as goal

pub returns : goal.returns
returns g c = read_alike c.value_is_greatest.ensures c.value_is_borne.ensures

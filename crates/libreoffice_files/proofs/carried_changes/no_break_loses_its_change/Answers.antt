use Rattle.libreoffice_files.proofs.WithoutChanges.{no_break_loses}
use Rattle.libreoffice_files.proofs.carried_changes.no_break_loses_its_change.Goals as goal

pub returns : goal.returns
returns c =
    no_break_loses c.value_is_greatest-2.ensures c.value_is_borne-2.ensures c.winner_is_first.ensures c.value_is_greatest.ensures c.value_is_borne.ensures

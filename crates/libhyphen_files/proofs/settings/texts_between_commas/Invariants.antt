use Rattle.std.proofs.Common.{◌≡◌, ◌≤◌, ◌++◌, drop, filter, length, map}
use Rattle.libhyphen_files.specs.Levels.{between_commas}
use Rattle.libhyphen_files.proofs.Cuts.{cut}
use Rattle.libhyphen_files.proofs.SettingsLemmas.{parts_from, not_empty}
use Rattle.libhyphen_files.proofs.settings.texts_between_commas.Given as goal

abbrev pub invariant-loop-i : goal.invariant-loop-i
invariant-loop-i l = record {
  begun : l.start ≤ l.i;
  within : l.start ≤ length l.text;
  texts : map (λ t. t.items) l.texts.items ++ filter not_empty (parts_from (cut l.text l.start l.i) (drop l.i l.text))
      ≡ filter not_empty (between_commas l.text);
}

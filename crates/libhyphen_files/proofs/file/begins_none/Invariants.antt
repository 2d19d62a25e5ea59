use Rattle.std.proofs.Common.{◌≡◌, take, false}
use Rattle.std.specs.List.{list_any}
use Rattle.libhyphen_files.specs.Ordinary.{may_begin_with}
use Rattle.libhyphen_files.proofs.file.begins_none.Given as goal

abbrev pub invariant-loop-text : goal.invariant-loop-text
invariant-loop-text l = list_any (λ text. may_begin_with l.byte text.items) (take l.text-index l.texts) ≡ false

use Rattle.std.proofs.Common.{◌==◌, arith, sym}
use Rattle.std.proofs.lemmas.Grind.{common_steps}
use Rattle.libhyphen_files.proofs.CutTexts.{none_passes, one_part, some_passes, parts_at, position_or_len_some}
use Rattle.libhyphen_files.proofs.pattern.cut_at.Goals as goal

pub returns-in-None-clause-after : goal.returns-in-None-clause-after
returns-in-None-clause-after c = none_passes (λ b. b == c.args.byte) c.args.text.now (sym c.in-None.ensures)

pub returns-in-None-clause-split : goal.returns-in-None-clause-split
returns-in-None-clause-split c = one_part (λ b. b == c.args.byte) c.args.text.now (sym c.in-None.ensures)

pub returns-in-Some-clause-after : goal.returns-in-Some-clause-after
returns-in-Some-clause-after c = (
  some_passes (λ b. b == c.args.byte) c.args.text.now c.in-Some.at (sym c.in-Some.ensures),
  grind (arith, common_steps, position_or_len_some),
)

pub returns-in-Some-clause-split : goal.returns-in-Some-clause-split
returns-in-Some-clause-split c =
    let parts = parts_at (λ b. b == c.args.byte) c.args.text.now 0 c.in-Some.at (sym c.in-Some.ensures) in
    grind (arith, common_steps)

use Rattle.std.proofs.Common.{arith, slice_index_or}
use Rattle.libhyphen_rule.proofs.Absent.{not_beside}
use Rattle.libhyphen_rule.proofs.words.may_stand.Goals as goal

pub returns-in-len1-up : goal.returns-in-len1-up
returns-in-len1-up c = λ none text each byte.
    not_beside text c.args.part.now byte _ c.in-len1-up.len_at_least
    (each (slice_index_or c.args.part.now 0 0) (omega (arith, c.type_inv.part 0))) none

use Rattle.std.proofs.Common.{None}
use Rattle.std.specs.Prelude.{option_map}
use Rattle.std.proofs.lemmas.List.{map-set}
use Rattle.libhyphen_rule.specs.Found.{placed}
use Rattle.libhyphen_rule.proofs.minima.take_place.Goals as goal

pub returns-then-byte-changes-clause-changes : goal.returns-then-byte-changes-clause-changes
returns-then-byte-changes-clause-changes c = map-set (option_map placed) c.args.changes.now c.args.byte None

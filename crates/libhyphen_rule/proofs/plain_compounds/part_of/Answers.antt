use Rattle.std.proofs.Common.{rules}
use Rattle.libhyphen_rule.specs.Parts.{part_text}
use Rattle.libhyphen_rule.proofs.plain_compounds.part_of.Goals as goal

pub returns : goal.returns
unfolding part_text
returns c = search rules

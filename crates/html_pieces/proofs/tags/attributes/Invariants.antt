use Rattle.std.proofs.Common.{◌-◌, length, map}
use Rattle.html_pieces.specs.Tags.{as_attribute}
use Rattle.html_pieces.proofs.AttributeSteps.{Read}
use Rattle.html_pieces.proofs.tags.attributes.Given as goal

abbrev pub invariant-loop-i : goal.invariant-loop-i
invariant-loop-i l = Read l.form l.tag (map as_attribute l.attributes.items) l.state l.name l.value l.i

abbrev pub decreases-loop-i : goal.decreases-loop-i
decreases-loop-i l = length l.tag - l.i

use Rattle.std.proofs.Common.{◌≡◌, drop, map}
use Rattle.html_pieces.specs.Tags.{value_of, as_attribute}
use Rattle.html_pieces.proofs.tags.value_of.Given as goal

abbrev pub invariant-loop-attribute : goal.invariant-loop-attribute
invariant-loop-attribute l = value_of l.form l.name (map as_attribute (drop l.attribute-index l.attributes)) ≡ value_of l.form l.name (map as_attribute l.attributes)

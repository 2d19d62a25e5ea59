use Rattle.std.proofs.Common.{◌≡◌, ◌++◌, drop}
use Rattle.explanations.specs.Fields.{field_after, field_text}
use Rattle.explanations.proofs.fields.push_field_text.Given as goal

abbrev pub invariant-loop-index : goal.invariant-loop-index
invariant-loop-index l = l.text.items ++ field_after l.before (drop l.index l.bytes) ≡ l.initial.text.items ++ field_text l.bytes

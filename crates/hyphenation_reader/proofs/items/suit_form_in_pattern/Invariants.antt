use Rattle.std.proofs.Common.{◌≡◌, drop}
use Rattle.std.specs.List.{list_all}
use Rattle.hyphenation_reader.specs.Private.Matched.{suits_form_in_pattern}
use Rattle.hyphenation_reader.proofs.items.suit_form_in_pattern.Given as goal

abbrev pub invariant-loop-b : goal.invariant-loop-b
invariant-loop-b l = list_all (suits_form_in_pattern l.form l.key) (drop l.b-index l.listed) ≡ list_all (suits_form_in_pattern l.form l.key) l.listed

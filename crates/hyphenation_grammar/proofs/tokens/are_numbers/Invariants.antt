use Rattle.std.proofs.Common.{◌≡◌, map, drop}
use Rattle.std.specs.List.{list_all}
use Rattle.hyphenation_grammar.specs.Lines.{is_number}
use Rattle.hyphenation_grammar.proofs.tokens.are_numbers.Given as goal

abbrev pub invariant-loop-part : goal.invariant-loop-part
invariant-loop-part l = list_all is_number (map (λ part. part.now) (drop l.part-index l.parts)) ≡ list_all is_number (map (λ part. part.now) l.parts)

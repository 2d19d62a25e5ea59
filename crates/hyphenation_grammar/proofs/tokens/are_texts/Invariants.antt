use Rattle.std.proofs.Common.{◌≡◌, map, drop, is_some}
use Rattle.std.specs.List.{list_all}
use Rattle.hyphenation_grammar.specs.Tokens.{text_spelt}
use Rattle.hyphenation_grammar.proofs.tokens.are_texts.Given as goal

abbrev pub invariant-loop-part : goal.invariant-loop-part
invariant-loop-part l = list_all (λ written. is_some (text_spelt written)) (map (λ part. part.now) (drop l.part-index l.parts)) ≡ list_all (λ written. is_some (text_spelt written)) (map (λ part. part.now) l.parts)

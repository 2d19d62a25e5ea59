use Rattle.std.proofs.Common.{◌≡◌, map, drop, is_some}
use Rattle.std.specs.List.{list_all}
use Rattle.hyphenation_grammar.specs.Tokens.{escaped_bytes_of}
use Rattle.hyphenation_grammar.specs.declared.tokens.Escapes.TheVariants.{Plain}
use Rattle.hyphenation_grammar.proofs.tokens.have_good_escapes.Given as goal

abbrev pub invariant-loop-part : goal.invariant-loop-part
invariant-loop-part l = list_all (λ written. is_some (escaped_bytes_of Plain written)) (map (λ part. part.now) (drop l.part-index l.parts)) ≡ list_all (λ written. is_some (escaped_bytes_of Plain written)) (map (λ part. part.now) l.parts)

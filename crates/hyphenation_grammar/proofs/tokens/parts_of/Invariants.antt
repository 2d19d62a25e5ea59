use Rattle.std.proofs.Common.{◌≡◌, ◌++◌, map}
use Rattle.hyphenation_grammar.specs.Tokens.{parts_of, parts_within}
use Rattle.hyphenation_grammar.proofs.tokens.parts_of.Given as goal

abbrev pub invariant-loop-front : goal.invariant-loop-front
invariant-loop-front l = map (λ part. part.now) l.parts.items ++ parts_within l.commas l.rest ≡ parts_of l.token

abbrev pub decreases-loop-front : goal.decreases-loop-front
decreases-loop-front l = l.commas

use Rattle.std.proofs.Common.{◌≡◌, drop, is_some}
use Rattle.hyphenation_grammar.specs.Tokens.{escaped_bytes_of, escaped_bytes_after}
use Rattle.hyphenation_grammar.proofs.tokens.has_good_escapes.Given as goal

abbrev pub invariant-loop-byte : goal.invariant-loop-byte
invariant-loop-byte l = is_some (escaped_bytes_after l.escapes l.after (drop l.byte-index l.text)) ≡ is_some (escaped_bytes_of l.escapes l.text)

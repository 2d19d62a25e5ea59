use Rattle.std.proofs.Common.{◌≡◌, ◌++◌, drop}
use Rattle.std.specs.Option.{option_map}
use Rattle.hyphenation_grammar.specs.Tokens.{escaped_bytes_after, escaped_bytes_of, bytes_of}
use Rattle.hyphenation_grammar.specs.declared.tokens.Escapes.TheVariants.{Plain}
use Rattle.hyphenation_grammar.proofs.tokens.unescaped.Given as goal

abbrev pub invariant-loop-byte : goal.invariant-loop-byte
invariant-loop-byte l = option_map (λ ss. l.text.items ++ bytes_of ss) (escaped_bytes_after Plain l.after (drop l.byte-index l.written)) ≡ option_map bytes_of (escaped_bytes_of Plain l.written)

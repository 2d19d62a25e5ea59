use Rattle.std.proofs.Common.{◌≡◌, drop}
use Rattle.std.specs.Prelude.{fold}
use Rattle.std.specs.Option.{option_map}
use Rattle.hyphenation_grammar.specs.Tokens.{escaped_bytes_after, pattern_escapes, pattern_bytes}
use Rattle.hyphenation_grammar.specs.Parsed.{pattern_view, nothing_read, with_spelt}
use Rattle.hyphenation_grammar.proofs.pattern.read_pattern.Given as goal

abbrev pub invariant-loop-byte : goal.invariant-loop-byte
invariant-loop-byte l = option_map (λ ss. fold (with_spelt l.version) (pattern_view l.pattern) ss) (escaped_bytes_after (pattern_escapes l.version) l.after (drop l.byte-index l.token)) ≡ option_map (fold (with_spelt l.version) nothing_read) (pattern_bytes l.version l.token)

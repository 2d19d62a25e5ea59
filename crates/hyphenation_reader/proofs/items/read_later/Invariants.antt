use Rattle.std.proofs.Common.{◌≡◌, suc, length}
use Rattle.std.specs.Prelude.{IsUtf8, IfSome}
use Rattle.std.specs.Option.{option_map, option_map_or}
use Rattle.hyphenation_grammar.specs.Lines.{tokens_after}
use Rattle.hyphenation_reader.specs.Private.Parsed.{no_later, read_later, later_view}
use Rattle.hyphenation_reader.proofs.items.read_later.Given as goal

abbrev pub invariant-loop-rest : goal.invariant-loop-rest
invariant-loop-rest l = record {
  utf8 : IfSome l.rest (λ text. IsUtf8 text.now);
  read : read_later (later_view l.later) (tokens_after (option_map (λ text. text.now) l.rest)) ≡ read_later no_later (tokens_after (option_map (λ text. text.now) l.fn.after));
}

abbrev pub decreases-loop-rest : goal.decreases-loop-rest
decreases-loop-rest l = option_map_or (λ text. suc (length text.now)) l.rest 0

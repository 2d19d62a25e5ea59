use Rattle.std.proofs.Common.{◌≡◌, ◌≤◌, ◌-◌, ℕ, drop, length, take, true, false, None}
use Rattle.std.specs.Prelude.{fold}
use Rattle.std.specs.List.{list_all}
use Rattle.std.specs.Option.{option_map}
use Rattle.hyphenation_grammar.specs.Tokens.{escaped_bytes_after, pattern_escapes, pattern_bytes}
use Rattle.hyphenation_grammar.specs.Parsed.{pattern_view, nothing_read, with_spelt}
use Rattle.hyphenation_grammar.specs.Private.Tokens.{is_ordinary}
use Rattle.hyphenation_grammar.specs.declared.form.Version.{Version}
use Rattle.hyphenation_grammar.proofs.pattern.read_ordinary_token.Given as goal

abbrev pub invariant-loop-end : goal.invariant-loop-end
invariant-loop-end l = record {
  within : l.end ≤ length l.text;
  outside : (pattern_view l.pattern).digits ≡ None;
  ordinary : list_all is_ordinary (take l.end l.text) ≡ true;
  read : (version : Version) (n : ℕ) → l.end ≤ n → n ≤ length l.text → option_map (fold (with_spelt version) (pattern_view l.pattern)) (escaped_bytes_after (pattern_escapes version) false (drop l.end (take n l.text))) ≡ option_map (fold (with_spelt version) nothing_read) (pattern_bytes version (take n l.text));
}

abbrev pub decreases-loop-end : goal.decreases-loop-end
decreases-loop-end l = length l.text - l.end

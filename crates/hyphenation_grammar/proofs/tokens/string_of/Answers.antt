use Rattle.std.proofs.Common.{◌∙◌, ap, sym, ℕ, Vec, Global}
use Rattle.std.specs.Option.{option_map}
use Rattle.hyphenation_grammar.proofs.WordUtf8.{word-utf8}
use Rattle.hyphenation_grammar.proofs.tokens.string_of.Goals as goal

pub unwrap-requires : goal.unwrap-requires
unwrap-requires c =
    c.from_utf8.ensures.succeeds (word-utf8 c.args.token.now c.in-Some.text.items c.requires (sym (ap (option_map (λ (v : Vec ℕ Global). v.items)) c.in-Some.is) ∙ c.in_ok-text.ensures))

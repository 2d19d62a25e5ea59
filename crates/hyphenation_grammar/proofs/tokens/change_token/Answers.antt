use Rattle.std.proofs.Common.{◌∙◌, ap, sym, length, map, List, ℕ, Bor, refl, arith, subst, get_or, []}
use Rattle.std.specs.Prelude.{IsUtf8}
use Rattle.std.proofs.lemmas.List.{length-map}
use Rattle.hyphenation_grammar.proofs.AsciiSplits.{part-utf8}
use Rattle.hyphenation_grammar.proofs.LaterTokens.{parted}
use Rattle.hyphenation_grammar.proofs.TokenParts.{two_parts}
use Rattle.hyphenation_grammar.proofs.tokens.change_token.Goals as goal

pub parse_change_token-requires-clause-utf8 : goal.parse_change_token-requires-clause-utf8
parse_change_token-requires-clause-utf8 c =
    let are = ap (λ (xs : List (Bor (List ℕ))). map (λ part. part.now) xs) c.deref-2.ensures.value ∙ c.in_ok-parts.ensures in
    subst (λ (ps : List (List ℕ)). IsUtf8 (get_or ps 4 [])) (sym are) (part-utf8 4 4 c.args.token.now c.requires.utf8)

pub parse_change_token-requires-clause-several_parts : goal.parse_change_token-requires-clause-several_parts
parse_change_token-requires-clause-several_parts c =
    let are = ap (λ (xs : List (Bor (List ℕ))). map (λ part. part.now) xs) c.deref-2.ensures.value ∙ c.in_ok-parts.ensures in
    omega (arith, two_parts 4 c.args.token.now refl c.requires.has_comma, ap length are, length-map c.deref-2.result.now (λ (part : Bor (List ℕ)). part.now))

pub returns : goal.returns
returns c =
    let same = c.deref-2.ensures.value ∙ sym c.deref.ensures.value in
    let are = ap (λ (xs : List (Bor (List ℕ))). map (λ part. part.now) xs) c.deref-2.ensures.value ∙ c.in_ok-parts.ensures in
    parted c.args.token.now c.deref-2.result.now c.are_readable.result c.in_ok-parse_change_token.field-0 c.requires.not_empty are
    (omega (arith, two_parts 4 c.args.token.now refl c.requires.has_comma, ap length are, length-map c.deref-2.result.now (λ (part : Bor (List ℕ)). part.now)))
    (rw same c.are_readable.ensures) c.if-not-are_readable.false c.in_ok-parse_change_token.ensures

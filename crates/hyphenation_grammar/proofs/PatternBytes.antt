-- A pattern's token, one byte more.
use Rattle.std.proofs.Common.{◌≡◌, ◌∙◌, ◌+◌, ◌<◌, ◌&&◌, ℕ, suc, Bool, true, false, cond, eqb, not, List, ◌∷◌, drop, drop-cons, fold, get_or, length, Option, Some, None, refl, sym, ap, arith}
use Rattle.std.specs.Option.{option_map}
use Rattle.std.proofs.lemmas.List.Sums.{fold-append}
use Rattle.hyphenation_grammar.specs.Parsed.{ReadPattern, with_spelt}
use Rattle.hyphenation_grammar.specs.Tokens.{unescape_byte, concatenation, escaped_bytes_after, pattern_escapes}
use Rattle.hyphenation_grammar.specs.declared.form.Version.{Version}
use Rattle.hyphenation_grammar.specs.declared.tokens.Escapes.{Escapes}
use Rattle.hyphenation_grammar.specs.declared.tokens.EscapedByte.{EscapedByte}

signs_next : (escapes : Escapes) (after : Bool) (b : ℕ) (rest : List ℕ) → escaped_bytes_after escapes after (b ∷ rest) ≡ concatenation (unescape_byte escapes after b) (escaped_bytes_after escapes (not after && eqb b 92) rest)
signs_next escapes true b rest = refl
signs_next escapes false b rest = refl

on : (f : ReadPattern → EscapedByte → ReadPattern) (r new : ReadPattern) (a rest : Option (List EscapedByte)) → Some new ≡ option_map (fold f r) a → option_map (fold f new) rest ≡ option_map (fold f r) (concatenation a rest)
on f r new None rest e = absurd cc
on f r new (Some xs) None e = refl
on f r new (Some xs) (Some ys) e =
    let here : new ≡ fold f r xs = cc in
    ap (λ (x : ReadPattern). Some (fold f x ys)) here ∙ ap (λ (x : ReadPattern). Some x) (sym (fold-append f r xs ys))

stood : (stands : Bool) (new : ReadPattern) (o : Option ReadPattern) → stands ≡ true → cond stands (Some new) None ≡ o → Some new ≡ o
stood true new o e h = h
stood false new o e h = absurd cc

-- whether the next byte stands after a backslash
pub then_after : (after new t : Bool) → after ≡ false → new ≡ t → new ≡ (not after && t)
then_after true new t e h = absurd cc
then_after false new t e h = h

pub else_after : (after new t : Bool) → after ≡ true → new ≡ not after → new ≡ (not after && t)
else_after true new t e h = h
else_after false new t e h = absurd cc

pub byte_more : (version : Version) (token : List ℕ) (i : ℕ) (after next stands : Bool) (old new : ReadPattern) (whole : Option ReadPattern) → i < length token
    → next ≡ (not after && eqb (get_or token i 0) 92) → stands ≡ true
    → cond stands (Some new) None ≡ option_map (fold (with_spelt version) old) (unescape_byte (pattern_escapes version) after (get_or token i 0))
    → option_map (fold (with_spelt version) old) (escaped_bytes_after (pattern_escapes version) after (drop i token)) ≡ whole
    → option_map (fold (with_spelt version) new) (escaped_bytes_after (pattern_escapes version) next (drop (i + 1) token)) ≡ whole
byte_more version token i after next stands old new whole lt is stays read so_far =
    let f : ReadPattern → EscapedByte → ReadPattern = with_spelt version in
    let es : Escapes = pattern_escapes version in
    let b : ℕ = get_or token i 0 in
    let more : suc i ≡ i + 1 = omega arith in
    let split : drop i token ≡ b ∷ drop (i + 1) token = drop-cons token i 0 lt ∙ ap (λ (k : ℕ). b ∷ drop k token) more in
    ap (λ (t : Bool). option_map (fold f new) (escaped_bytes_after es t (drop (i + 1) token))) is
    ∙ on f old new (unescape_byte es after b) (escaped_bytes_after es (not after && eqb b 92) (drop (i + 1) token)) (stood stands new _ stays read)
    ∙ ap (option_map (fold f old)) (sym (signs_next es after b (drop (i + 1) token)))
    ∙ ap (λ (bytes : List ℕ). option_map (fold f old) (escaped_bytes_after es after bytes)) (sym split) ∙ so_far

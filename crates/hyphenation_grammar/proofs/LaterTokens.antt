-- The meaning of a later token, by its parts.
use Rattle.std.proofs.Common.{◌≡◌, ◌∙◌, ℕ, suc, ◌-◌, ◌<◌, Bool, true, false, cond, ◌&&◌, nat_lt, eqb, List, [], ◌∷◌, length, take, drop, map, get_or, Option, Some, None, refl, sym, ap, arith, Bor}
use Rattle.std.specs.Prelude.{position, is_some}
use Rattle.std.specs.List.{list_all}
use Rattle.std.proofs.lemmas.Bool.Decides.{nat_tests}
use Rattle.std.proofs.lemmas.List.{take-map, length-map}
use Rattle.hyphenation_breaks.specs.Break.{Change}
use Rattle.hyphenation_grammar.specs.Lines.{is_number, number, number_of}
use Rattle.hyphenation_grammar.specs.Tokens.{escaped_bytes_of, text_spelt, parts_of}
use Rattle.hyphenation_grammar.specs.Parsed.{later_token, parse_parts, parse_change_token, part_at, sound_change, token_with}
use Rattle.hyphenation_grammar.specs.declared.tokens.Escapes.TheVariants.{Plain}
use Rattle.hyphenation_grammar.specs.declared.tokens.LaterToken.{LaterToken}
use Rattle.hyphenation_grammar.specs.declared.tokens.LaterToken.TheVariants.{NoNumber, Sound}
use Rattle.hyphenation_grammar.proofs.TokenParts.{unparted}

abbrev told_by : List ℕ → List (List ℕ) → Option LaterToken
told_by token ps = cond (nat_lt 0 (length token) && list_all (λ written. is_some (escaped_bytes_of Plain written)) (take 4 ps) && list_all (λ written. is_some (text_spelt written)) (drop 4 ps)) (Some (parse_parts ps)) None

more : (n k : ℕ) → n < k → nat_lt n k ≡ true
more n k h = grind (arith, nat_tests)

-- what only a number says, and what is none
abbrev told_number : Option ℕ → LaterToken
told_number None = NoNumber
told_number (Some place) = Sound place None

one_part : (p s n : Bool) (value : ℕ) → p ≡ true
    → cond (p && (s && true) && true) (Some (cond (n && true) (Sound value None) NoNumber)) None ≡ cond {A = Option LaterToken} s (Some (told_number (cond n (Some value) None))) None
one_part true true true value e = refl
one_part true true false value e = refl
one_part true false n value e = refl
one_part false s n value e = absurd cc

whole : (token : List ℕ) → 0 < length token → None ≡ position (λ b. eqb b 44) token → later_token token ≡ cond (is_some (escaped_bytes_of Plain token)) (Some (told_number (number_of token))) None
whole token some e =
    ap (told_by token) (unparted 4 token e) ∙ one_part (nat_lt 0 (length token)) (is_some (escaped_bytes_of Plain token)) (is_number token) (number token) (more 0 (length token) some)

pub whole_none : (token : List ℕ) → 0 < length token → None ≡ position (λ b. eqb b 44) token → is_some (escaped_bytes_of Plain token) ≡ false → None ≡ later_token token
whole_none token some e off = sym (whole token some e ∙ ap (λ (b : Bool). cond b (Some (told_number (number_of token))) None) off)

pub whole_some : (token : List ℕ) (place : Option ℕ) → 0 < length token → None ≡ position (λ b. eqb b 44) token → is_some (escaped_bytes_of Plain token) ≡ true → place ≡ number_of token
    → Some (told_number place) ≡ later_token token
whole_some token place some e on is =
    ap (λ (p : Option ℕ). Some (told_number p)) is ∙ sym (whole token some e ∙ ap (λ (b : Bool). cond b (Some (told_number (number_of token))) None) on)

both_on : (p s q m : Bool) (t u : LaterToken) → p ≡ true → (s && q) ≡ true → m ≡ true → Some t ≡ cond {A = Option LaterToken} (p && s && q) (Some (cond m t u)) None
both_on true true true true t u e1 e2 e3 = refl
both_on false s q m t u e1 e2 e3 = absurd cc
both_on true false q m t u e1 e2 e3 = absurd cc
both_on true true false m t u e1 e2 e3 = absurd cc
both_on true true true false t u e1 e2 e3 = absurd cc

-- the numbers of parts after references
abbrev now_of : List (Bor (List ℕ)) → List (List ℕ)
now_of parts = map (λ part. part.now) parts

shut : (b t : Bool) (value : ℕ) → t ≡ b → b ≡ false → None ≡ cond t (Some value) None
shut b true value e off = absurd cc
shut b false value e off = refl

pub not_all : (parts : List (Bor (List ℕ))) (n value : ℕ) (b : Bool) → b ≡ list_all is_number (now_of (take n parts)) → b ≡ false → None ≡ cond (list_all is_number (take n (now_of parts))) (Some value) None
not_all parts n value b e off = shut b (list_all is_number (take n (now_of parts))) value (ap (list_all is_number) (take-map (λ (part : Bor (List ℕ)). part.now) n parts) ∙ sym e) off

known : (p r : Bool) (value : ℕ) → true ≡ (p && r) → cond p (Some value) None ≡ cond (p && r) (Some value) None
known true true value e = refl
known true false value e = absurd cc
known false r value e = absurd cc

pub first_of_all : (parts : List (Bor (List ℕ))) (n m : ℕ) (d : Bor (List ℕ)) (b : Bool) → 0 < length parts → n ≡ suc m → b ≡ list_all is_number (now_of (take n parts)) → b ≡ true
    → number_of (get_or parts 0 d).now ≡ cond (list_all is_number (take n (now_of parts))) (Some (number (get_or (now_of parts) 0 []))) None
first_of_all [] n m d b some is e on = absurd (omega arith)
first_of_all (p ∷ ps) n m d b some is e on =
    let all : true ≡ list_all is_number (take (suc m) (now_of (p ∷ ps))) =
    sym on ∙ e ∙ ap (list_all is_number) (sym (take-map (λ (part : Bor (List ℕ)). part.now) n (p ∷ ps))) ∙ ap (λ (k : ℕ). list_all is_number (take k (now_of (p ∷ ps)))) is in
    known (is_number p.now) (list_all is_number (take m (now_of ps))) (number p.now) all
    ∙ ap (λ (k : ℕ). cond (list_all is_number (take k (now_of (p ∷ ps)))) (Some (number p.now)) None) (sym is)

pub parted : (token : List ℕ) (parts : List (Bor (List ℕ))) (b : Bool) (said : LaterToken) → 0 < length token → now_of parts ≡ parts_of token → 1 < length parts
    → b ≡ (list_all (λ written. is_some (escaped_bytes_of Plain written)) (take 4 (now_of parts)) && list_all (λ written. is_some (text_spelt written)) (drop 4 (now_of parts))) → b ≡ true
    → said ≡ parse_change_token (now_of parts) → Some said ≡ later_token token
parted token parts b said some are two read on is =
    let long : length (now_of parts) ≡ length parts = length-map parts (λ (part : Bor (List ℕ)). part.now) in
    ap (λ (t : LaterToken). Some t) is
    ∙ both_on (nat_lt 0 (length token)) (list_all (λ written. is_some (escaped_bytes_of Plain written)) (take 4 (now_of parts))) (list_all (λ written. is_some (text_spelt written)) (drop 4 (now_of parts)))
    (nat_lt 1 (length (now_of parts))) (parse_change_token (now_of parts)) (cond (list_all is_number (now_of parts)) (Sound (number (part_at (now_of parts) 0)) None) NoNumber)
    (more 0 (length token) some) (sym read ∙ on) (more 1 (length (now_of parts)) (omega arith))
    ∙ ap (told_by token) are

-- the token if all its numbers are read, with the first of them, and if some are none
with_first : (all : Bool) (first place : ℕ) (change : Option Change) → Some place ≡ cond all (Some first) None → token_with place change ≡ cond {A = LaterToken} all (token_with first change) NoNumber
with_first true first place change e = ap (λ (p : ℕ). token_with p change) cc
with_first false first place change e = absurd cc

without : (all : Bool) (first : ℕ) (token : LaterToken) → None ≡ cond all (Some first) None → NoNumber ≡ cond {A = LaterToken} all token NoNumber
without true first token e = absurd cc
without false first token e = refl

abbrev first_by : List (Bor (List ℕ)) → ℕ → Option ℕ
first_by parts n = cond (list_all is_number (take (n - 1) (now_of parts))) (Some (number (part_at (now_of parts) 0))) None

as_long : (parts : List (Bor (List ℕ))) → length parts ≡ length (now_of parts)
as_long parts = sym (length-map parts (λ (part : Bor (List ℕ)). part.now))

pub told_at : (parts : List (Bor (List ℕ))) (place : ℕ) (change : Option Change) → change ≡ sound_change (now_of parts) → Some place ≡ first_by parts (length parts) → token_with place change ≡ parse_change_token (now_of parts)
told_at parts place change is e =
    ap (λ (c : Option Change). token_with place c) is
    ∙ with_first (list_all is_number (take (length (now_of parts) - 1) (now_of parts))) (number (part_at (now_of parts) 0)) place (sound_change (now_of parts)) (e ∙ ap (first_by parts) (as_long parts))

pub told_nowhere : (parts : List (Bor (List ℕ))) → None ≡ first_by parts (length parts) → NoNumber ≡ parse_change_token (now_of parts)
told_nowhere parts e =
    without (list_all is_number (take (length (now_of parts) - 1) (now_of parts))) (number (part_at (now_of parts) 0)) (token_with (number (part_at (now_of parts) 0)) (sound_change (now_of parts))) (e ∙ ap (first_by parts) (as_long parts))

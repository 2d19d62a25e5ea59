-- The word that a UTF-8 token spells is UTF-8.
use Rattle.std.proofs.Common.{◌≡◌, ◌∙◌, ℕ, Bool, true, false, cond, ◌||◌, eqb, List, [], ◌∷◌, Option, Some, None, refl, sym, ap, subst}
use Rattle.std.specs.List.{list_all}
use Rattle.std.specs.Prelude.{IsUtf8}
use Rattle.std.specs.Option.{option_map}
use Rattle.std.proofs.lemmas.Str.{IsUtf8-nil}
use Rattle.std.proofs.lemmas.Bool.{and_parts, or_parts, not-true}
use Rattle.hyphenation_grammar.specs.Lines.{is_same}
use Rattle.hyphenation_grammar.specs.Tokens.{text_spelt, escaped_bytes_of, concatenation, bytes_of}
use Rattle.hyphenation_grammar.specs.Private.Tokens.{stands_for_itself}
use Rattle.hyphenation_grammar.specs.declared.tokens.Escapes.TheVariants.{Plain}
use Rattle.hyphenation_grammar.specs.declared.tokens.EscapedByte.{EscapedByte}
use Rattle.hyphenation_grammar.proofs.TokenUtf8.{read-utf8}

read_signs : (o : Option (List EscapedByte)) (bytes : List ℕ) → Some bytes ≡ option_map bytes_of o → (ss : List EscapedByte) × (o ≡ Some ss) × (bytes_of ss ≡ bytes)
read_signs None bytes e = absurd cc
read_signs (Some ss) bytes e = (ss, refl, cc)

pub word-utf8 : (token bytes : List ℕ) → IsUtf8 token → Some bytes ≡ text_spelt token → IsUtf8 bytes
word-utf8 token bytes u e = by (is_same token (92 ∷ 101 ∷ [])) e
  where
    by : (t : Bool) → Some bytes ≡ cond t (Some []) (option_map bytes_of (escaped_bytes_of Plain token)) → IsUtf8 bytes
    by true e = let none : [] ≡ bytes = cc in subst IsUtf8 none IsUtf8-nil
    by false e = let r = read_signs (escaped_bytes_of Plain token) bytes e in subst IsUtf8 r.2 (read-utf8 Plain token r.0 u r.1)

-- ---- a text without escapes

one_more : (sign : EscapedByte) (o : Option (List EscapedByte)) (text : List ℕ) → option_map bytes_of o ≡ Some text → option_map bytes_of (concatenation (Some (sign ∷ [])) o) ≡ Some (sign.byte ∷ text)
one_more sign None text e = absurd cc
one_more sign (Some ss) text e =
    let is : bytes_of ss ≡ text = cc in
    ap (λ (bytes : List ℕ). Some (sign.byte ∷ bytes)) is

plain_signs : (text : List ℕ) → list_all stands_for_itself text ≡ true → option_map bytes_of (escaped_bytes_of Plain text) ≡ Some text
plain_signs [] e = refl
plain_signs (b ∷ text) e =
    let parts = and_parts (stands_for_itself b) (list_all stands_for_itself text) e in
    let off = or_parts (eqb b 92) (eqb b 13) (not-true (eqb b 92 || eqb b 13) parts.0) in
    rw (off.0, off.1) (one_more (record { byte = b; escaped = false }) (escaped_bytes_of Plain text) text (plain_signs text parts.1))

not_empty_mark : (text : List ℕ) → list_all stands_for_itself text ≡ true → is_same text (92 ∷ 101 ∷ []) ≡ false
not_empty_mark [] e = refl
not_empty_mark (b ∷ text) e =
    let parts = and_parts (stands_for_itself b) (list_all stands_for_itself text) e in
    let off = or_parts (eqb b 92) (eqb b 13) (not-true (eqb b 92 || eqb b 13) parts.0) in
    rw off.0 refl

pub text_itself : (text : List ℕ) → list_all stands_for_itself text ≡ true → Some text ≡ text_spelt text
text_itself text e = sym (ap (λ (t : Bool). cond t (Some []) (option_map bytes_of (escaped_bytes_of Plain text))) (not_empty_mark text e) ∙ plain_signs text e)

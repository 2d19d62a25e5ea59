-- Leads, character by character.
use Rattle.std.proofs.Common.{◌≡◌, ℕ, List, [], ◌∷◌, ◌++◌, length, lit<, map, encode_utf8, sym, ap, ◌∙◌, append_assoc, append-nil}
use Rattle.std.specs.List.{flat_map}
use Rattle.std.specs.Str.{IsUtf8, encode_utf8_all}
use Rattle.std.proofs.lemmas.List.{map-append, nil_from_length}
use Rattle.std.proofs.lemmas.Str.{chars-nil, chars_past_char, encode_ascii, encodes-append}
use Rattle.written_texts.specs.Prefixes.{spread, spread_char}

-- The characters of a lead that begins with this one.
spread_more : (rest after : List ℕ) (c : ℕ) → IsUtf8 rest → rest ≡ encode_utf8 c ++ after → spread rest ≡ spread_char c ++ spread after
spread_more rest after c u read = ap (flat_map spread_char) (chars_past_char rest after c u read)

spread_none : (rest : List ℕ) → length rest ≡ 0 → spread rest ≡ []
spread_none rest none = ap spread (nil_from_length rest none) ∙ ap (flat_map spread_char) chars-nil

pub lead_more : (whole old new rest after : List ℕ) (c : ℕ) → IsUtf8 rest → rest ≡ encode_utf8 c ++ after → new ≡ old ++ encode_utf8_all (spread_char c)
    → old ++ encode_utf8_all (spread rest) ≡ whole → new ++ encode_utf8_all (spread after) ≡ whole
lead_more whole old new rest after c u read is so_far =
    ap (λ s. s ++ encode_utf8_all (spread after)) is
    ∙ append_assoc old (encode_utf8_all (spread_char c)) (encode_utf8_all (spread after))
    ∙ ap (λ s. old ++ s) (sym (encodes-append (spread_char c) (spread after)) ∙ ap encode_utf8_all (sym (spread_more rest after c u read)))
    ∙ so_far

pub lead_end : (whole old rest : List ℕ) → length rest ≡ 0 → old ++ encode_utf8_all (spread rest) ≡ whole → old ≡ whole
lead_end whole old rest none so_far = sym (append-nil old) ∙ ap (λ s. old ++ encode_utf8_all s) (sym (spread_none rest none)) ∙ so_far

pub blanks_more : (whole old new rest after : List ℕ) (c : ℕ) → IsUtf8 rest → rest ≡ encode_utf8 c ++ after → new ≡ old ++ map (λ _. 32) (spread_char c)
    → old ++ map (λ _. 32) (spread rest) ≡ whole → new ++ map (λ _. 32) (spread after) ≡ whole
blanks_more whole old new rest after c u read is so_far =
    ap (λ s. s ++ map (λ _. 32) (spread after)) is
    ∙ append_assoc old (map (λ _. 32) (spread_char c)) (map (λ _. 32) (spread after))
    ∙ ap (λ s. old ++ s) (sym (map-append (λ _. 32) (spread_char c) (spread after)) ∙ ap (map (λ _. 32)) (sym (spread_more rest after c u read)))
    ∙ so_far

pub blanks_end : (whole old rest : List ℕ) → length rest ≡ 0 → old ++ map (λ _. 32) (spread rest) ≡ whole → old ≡ whole
blanks_end whole old rest none so_far = sym (append-nil old) ∙ ap (λ s. old ++ map (λ _. 32) s) (sym (spread_none rest none)) ∙ so_far

space_first : (cs : List ℕ) → encode_utf8_all (32 ∷ cs) ≡ 32 ∷ encode_utf8_all cs
space_first cs = ap (λ e. e ++ encode_utf8_all cs) (encode_ascii 32 (lit< tt))

-- Four spaces are four bytes.
pub four_spaces : encode_utf8_all (32 ∷ 32 ∷ 32 ∷ 32 ∷ []) ≡ 32 ∷ 32 ∷ 32 ∷ 32 ∷ []
four_spaces =
    space_first (32 ∷ 32 ∷ 32 ∷ [])
    ∙ ap (λ s. 32 ∷ s) (space_first (32 ∷ 32 ∷ []) ∙ ap (λ s. 32 ∷ s) (space_first (32 ∷ []) ∙ ap (λ s. 32 ∷ s) (space_first [])))

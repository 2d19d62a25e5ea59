-- Texts without their soft hyphens.
use Rattle.std.proofs.Common.{◌≡◌, ℕ, ◌≤◌, ◌||◌, Bool, true, false, not, cond, List, [], ◌∷◌, length, filter, chars, encode_utf8, ap, refl, ◌∙◌, arith, length-append}
use Rattle.std.specs.List.{list_any}
use Rattle.std.specs.Str.{IsUtf8, encode_utf8_all}
use Rattle.std.proofs.lemmas.Bool.{both_ways}
use Rattle.std.proofs.lemmas.Str.{encodes-chars}
use Rattle.paragraphs.specs.Settings.{is_soft_hyphen, shown}

abbrev is_shown : ℕ → Bool
is_shown c = not (is_soft_hyphen c)

all_shown : (cs : List ℕ) → list_any is_soft_hyphen cs ≡ false → filter is_shown cs ≡ cs
all_shown [] none = refl
all_shown (c ∷ cs) none =
    elim (is_soft_hyphen c) as (λ t. (t || list_any is_soft_hyphen cs) ≡ false → cond (not t) (c ∷ filter is_shown cs) (filter is_shown cs) ≡ c ∷ cs) [
      | true ↦ λ e. absurd (both_ways true e refl)
      | false ↦ λ e. ap (λ s. c ∷ s) (all_shown cs e)
    ] none

pub shown_same : (text : List ℕ) → IsUtf8 text → list_any is_soft_hyphen (chars text) ≡ false → shown text ≡ text
shown_same text u none = ap encode_utf8_all (all_shown (chars text) none) ∙ encodes-chars text u

fewer_bytes : (cs : List ℕ) → length (encode_utf8_all (filter is_shown cs)) ≤ length (encode_utf8_all cs)
fewer_bytes [] = omega arith
fewer_bytes (c ∷ cs) =
    let rest = fewer_bytes cs in
    let whole = length-append (encode_utf8 c) (encode_utf8_all cs) in
    elim (is_shown c) as (λ t. length (encode_utf8_all (cond t (c ∷ filter is_shown cs) (filter is_shown cs))) ≤ length (encode_utf8_all (c ∷ cs))) [
      | true ↦ omega (arith, rest, whole, length-append (encode_utf8 c) (encode_utf8_all (filter is_shown cs)))
      | false ↦ omega (arith, rest, whole)
    ]

pub shown_shorter : (text : List ℕ) → IsUtf8 text → length (shown text) ≤ length text
shown_shorter text u = omega (arith, fewer_bytes (chars text), ap length (encodes-chars text u))

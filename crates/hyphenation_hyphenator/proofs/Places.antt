-- Places and characters of a text.
use Rattle.std.proofs.Common.{◌≡◌, ℕ, ◌+◌, ◌-◌, ◌<◌, ◌≤◌, true, false, zero, suc, List, [], ◌∷◌, ◌++◌, length, take, drop, chars, encode_utf8_all, refl, sym, ap, subst, ◌∙◌, arith, length-append, min, nat_lt, ltb-true, ltb-false}
use Rattle.std.specs.Char.{encode_utf8}
use Rattle.std.specs.List.{slice_index}
use Rattle.std.specs.Str.{IsUtf8, IsCharBoundary, all_scalars}
use Rattle.std.proofs.lemmas.List.{take_more, take_all, take_at, take_min, length-take-le, take-append-drop}
use Rattle.std.proofs.lemmas.Str.{encodes-append, encodes-chars, chars-encodes, chars-append, scalars-chars, IsUtf8-take, IsCharBoundary-at_seam, length-encode, len_utf8_bounds}
use Rattle.std.proofs.lemmas.Bool.{and_parts}
use Rattle.hyphenation_hyphenator.specs.Places.{place_of_character}

scalars_take : (cs : List ℕ) (j : ℕ) → all_scalars cs ≡ true → all_scalars (take j cs) ≡ true
scalars_take cs zero h = refl
scalars_take [] (suc j) h = refl
scalars_take (c ∷ cs) (suc j) h = let parts = and_parts _ (all_scalars cs) h in rw (parts.0) (scalars_take cs j parts.1)

scalars_drop : (cs : List ℕ) (j : ℕ) → all_scalars cs ≡ true → all_scalars (drop j cs) ≡ true
scalars_drop cs zero h = h
scalars_drop [] (suc j) h = refl
scalars_drop (c ∷ cs) (suc j) h = let parts = and_parts _ (all_scalars cs) h in scalars_drop cs j parts.1

-- The bytes of the first j characters, and of the others.
text_split : (text : List ℕ) (j : ℕ) → IsUtf8 text → text ≡ encode_utf8_all (take j (chars text)) ++ encode_utf8_all (drop j (chars text))
text_split text j u = sym (encodes-chars text u) ∙ ap encode_utf8_all (sym (take-append-drop j (chars text))) ∙ encodes-append (take j (chars text)) (drop j (chars text))

-- ---- texts whose first characters are known
pub place_at : (text front back : List ℕ) → chars text ≡ front ++ back → place_of_character text (length front) ≡ length (encode_utf8_all front)
place_at text front back e = ap (λ cs. length (encode_utf8_all cs)) (ap (take (length front)) e ∙ take_at front back (length front) refl)

pub place_more : (text : List ℕ) (j : ℕ) → j < length (chars text) → place_of_character text (j + 1) ≡ place_of_character text j + length (encode_utf8 (slice_index (chars text) j))
place_more text j h =
    let c = slice_index (chars text) j in
    ap (λ cs. length (encode_utf8_all cs)) (take_more (chars text) j 0 h)
    ∙ ap length (encodes-append (take j (chars text)) (c ∷ []))
    ∙ length-append (encode_utf8_all (take j (chars text))) (encode_utf8_all (c ∷ []))
    ∙ ap (λ n. place_of_character text j + n) (length-append (encode_utf8 c) [] ∙ omega arith)

pub place_end : (text : List ℕ) (j : ℕ) → IsUtf8 text → length (chars text) ≤ j → place_of_character text j ≡ length text
place_end text j u h = ap (λ cs. length (encode_utf8_all cs)) (take_all j (chars text) h) ∙ ap length (encodes-chars text u)

grows : (text : List ℕ) (j : ℕ) → j < length (chars text) → place_of_character text j < place_of_character text (j + 1)
grows text j h =
    let c = slice_index (chars text) j in
    omega (arith, place_more text j h, length-encode c, len_utf8_bounds c)

rises_by : (text : List ℕ) (j n : ℕ) → j + suc n ≤ length (chars text) → place_of_character text j < place_of_character text (j + suc n)
rises_by text j zero l = subst (λ k. place_of_character text j < place_of_character text k) (omega arith) (grows text j (omega arith))
rises_by text j (suc n) l =
    let before = rises_by text j n (omega arith) in
    let e : (j + suc n) + 1 ≡ j + suc (suc n) = omega arith in
    let more = subst (λ k. place_of_character text (j + suc n) < place_of_character text k) e (grows text (j + suc n) (omega arith)) in
    omega arith

pub place_rises : (text : List ℕ) (j k : ℕ) → j < k → k ≤ length (chars text) → place_of_character text j < place_of_character text k
place_rises text j k h l = let e : j + suc (k - suc j) ≡ k = omega arith in subst (λ m. place_of_character text j < place_of_character text m) e (rises_by text j (k - suc j) (omega arith))

-- A character boundary is the place of the character with as many characters before it.
pub place_of_boundary : (text : List ℕ) (p : ℕ) → IsUtf8 text → IsCharBoundary text p → p ≡ place_of_character text (length (chars (take p text)))
place_of_boundary text p u b =
    let front = IsUtf8-take text p u b in
    let all : chars text ≡ chars (take p text) ++ chars (drop p text) = ap chars (sym (take-append-drop p text)) ∙ chars-append (take p text) (drop p text) front in
    sym (place_at text (chars (take p text)) (chars (drop p text)) all ∙ ap length (encodes-chars (take p text) front) ∙ length-take-le p text b.0)

pub characters_before : (text : List ℕ) (j : ℕ) → IsUtf8 text → chars (take (place_of_character text j) text) ≡ take j (chars text)
characters_before text j u =
    let front = encode_utf8_all (take j (chars text)) in
    ap chars (ap (take (length front)) (text_split text j u) ∙ take_at front (encode_utf8_all (drop j (chars text))) (length front) refl)
    ∙ chars-encodes (take j (chars text)) (scalars_take (chars text) j (scalars-chars text u))

pub place_is_boundary : (text : List ℕ) (j : ℕ) → IsUtf8 text → IsCharBoundary text (place_of_character text j)
place_is_boundary text j u =
    let back = drop j (chars text) in
    IsCharBoundary-at_seam text (encode_utf8_all (take j (chars text))) (encode_utf8_all back) (text_split text j u) (back, (scalars_drop (chars text) j (scalars-chars text u), refl))

pub boundary_within : (text : List ℕ) (p : ℕ) → IsUtf8 text → IsCharBoundary text p → length (chars (take p text)) ≤ length (chars text)
boundary_within text p u b =
    let front = IsUtf8-take text p u b in
    let all : chars text ≡ chars (take p text) ++ chars (drop p text) = ap chars (sym (take-append-drop p text)) ∙ chars-append (take p text) (drop p text) front in
    omega (arith, ap length all, length-append (chars (take p text)) (chars (drop p text)))

pub place_keeps_order : (text : List ℕ) (j k : ℕ) → j ≤ k → k ≤ length (chars text) → place_of_character text j ≤ place_of_character text k
place_keeps_order text j k h l =
    let rises : j < k → place_of_character text j < place_of_character text k = λ m. place_rises text j k m l in
    let same : j ≡ k → place_of_character text j ≡ place_of_character text k = λ e. ap (place_of_character text) e in
    elim (nat_lt j k) as (λ b. nat_lt j k ≡ b → place_of_character text j ≤ place_of_character text k) [
      | true ↦ λ e. let m = rises (ltb-true j k e) in omega arith
      | false ↦ λ e. let m = same (let n = ltb-false j k e in omega arith) in omega arith
    ] refl

pub place_within : (text : List ℕ) (j : ℕ) → IsUtf8 text → place_of_character text j ≤ length text
place_within text j u = let b = place_is_boundary text j u in b.0

pub place_reflects_order : (text : List ℕ) (j k : ℕ) → j ≤ length (chars text) → place_of_character text j < place_of_character text k → j < k
place_reflects_order text j k l h =
    elim (nat_lt j k) as (λ b. nat_lt j k ≡ b → j < k) [
      | true ↦ λ e. ltb-true j k e
      | false ↦ λ e. let m = place_keeps_order text k j (ltb-false j k e) l in absurd (omega arith)
    ] refl

-- The place past the last character is the text's end.
pub same_place : (text : List ℕ) (j : ℕ) → place_of_character text (min j (length (chars text))) ≡ place_of_character text j
same_place text j = ap (λ cs. length (encode_utf8_all cs)) (take_min j (chars text))

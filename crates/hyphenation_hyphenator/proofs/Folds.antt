-- Folding character by character, and places carried back.
use Rattle.std.proofs.Common.{◌≡◌, ℕ, ◌<◌, ◌≤◌, ◌==◌, Bool, true, false, cond, List, [], ◌∷◌, length, take, map, chars, encode_utf8_all, refl, sym, ap, subst, ◌∙◌, arith, min}
use Rattle.std.specs.Char.{IsScalar}
use Rattle.std.specs.List.{slice_index_or, list_any}
use Rattle.std.specs.Str.{IsUtf8, IsCharBoundary, all_scalars}
use Rattle.std.proofs.lemmas.List.{length-take, take-map, length-map}
use Rattle.std.proofs.lemmas.Str.{chars-encodes, scalars-chars, encodes-chars}
use Rattle.ucd_table.specs.Rows.{in_ranges}
use Rattle.ucd_derived.specs.UppercaseRanges.{uppercase_ranges}
use Rattle.unicode.specs.Binary.{is_uppercase}
use Rattle.unicode.specs.CaseFolding.{simple_folding, simple_fold}
use Rattle.hyphenation_hyphenator.specs.Places.{place_of_character}
use Rattle.hyphenation_hyphenator.specs.Folding.{fold_character, fold_case, has_uppercase, carried_back}
use Rattle.hyphenation_hyphenator.proofs.FoldingRows.{foldings_are_scalars}
use Rattle.hyphenation_hyphenator.proofs.Places.{place_end, place_rises, place_reflects_order, place_of_boundary, boundary_within, characters_before, place_is_boundary, same_place}

-- The folding of a character is a character.

first_is_scalar : (v : List ℕ) (c : ℕ) → all_scalars v ≡ true → IsScalar c → IsScalar (slice_index_or v 0 c)
first_is_scalar [] c h s = s
first_is_scalar (x ∷ xs) c h s = grind (arith)

pub folded_is_scalar : (c : ℕ) → IsScalar c → IsScalar (fold_character c)
folded_is_scalar c s =
    let simple : IsScalar (simple_fold c) = first_is_scalar (simple_folding c) c (foldings_are_scalars c) s in
    let other : (b : Bool) → IsScalar (cond b (simple_fold c) c) = λ b. elim b as (λ b. IsScalar (cond b (simple_fold c) c)) [ true ↦ simple | false ↦ s ] in
    elim (c == 0x130) as (λ b. IsScalar (cond b 0x69 (cond (is_uppercase c) (simple_fold c) c))) [ true ↦ refl | false ↦ other (is_uppercase c) ]

folded_are_scalars : (cs : List ℕ) → all_scalars cs ≡ true → all_scalars (map fold_character cs) ≡ true
folded_are_scalars [] h = refl
folded_are_scalars (c ∷ cs) h = grind (arith, folded_is_scalar c, folded_are_scalars cs)

pub chars_of_fold : (text : List ℕ) → IsUtf8 text → chars (fold_case text) ≡ map fold_character (chars text)
chars_of_fold text u = chars-encodes (map fold_character (chars text)) (folded_are_scalars (chars text) (scalars-chars text u))

pub fold_is_utf8 : (text : List ℕ) → IsUtf8 text → IsUtf8 (fold_case text)
fold_is_utf8 text u = (map fold_character (chars text), (folded_are_scalars (chars text) (scalars-chars text u), refl))

pub as_many_characters : (text : List ℕ) → IsUtf8 text → length (chars (fold_case text)) ≡ length (chars text)
as_many_characters text u = ap length (chars_of_fold text u) ∙ length-map _ _

-- A text without Uppercase characters folds to itself.

pub dotted_is_uppercase : is_uppercase 0x130 ≡ true
unfolding is_uppercase uppercase_ranges in_ranges
dotted_is_uppercase = refl

pub folds_to_itself : (c : ℕ) → is_uppercase c ≡ false → fold_character c ≡ c
folds_to_itself c h = let d = dotted_is_uppercase in grind (arith)

pub all_fold_to_themselves : (cs : List ℕ) → list_any is_uppercase cs ≡ false → map fold_character cs ≡ cs
all_fold_to_themselves [] h = refl
all_fold_to_themselves (c ∷ cs) h = grind (arith, folds_to_itself c, all_fold_to_themselves cs)

pub fold_stays : (text : List ℕ) → IsUtf8 text → has_uppercase text ≡ false → fold_case text ≡ text
fold_stays text u h = ap encode_utf8_all (all_fold_to_themselves (chars text) h) ∙ encodes-chars text u

-- Places carried back.

pub carried_place : (text : List ℕ) (j : ℕ) → IsUtf8 text → carried_back text (place_of_character (fold_case text) j) ≡ place_of_character text j
carried_place text j u =
    let before : length (chars (take (place_of_character (fold_case text) j) (fold_case text))) ≡ min j (length (chars text)) =
    ap length (characters_before (fold_case text) j (fold_is_utf8 text u) ∙ ap (take j) (chars_of_fold text u) ∙ take-map fold_character j (chars text)) ∙ length-map _ _ ∙ length-take j (chars text) in
    ap (place_of_character text) before ∙ same_place text j

pub carried_is_boundary : (text : List ℕ) (p : ℕ) → IsUtf8 text → IsCharBoundary text (carried_back text p)
carried_is_boundary text p u = place_is_boundary text (length (chars (take p (fold_case text)))) u

pub carried_end : (text : List ℕ) → IsUtf8 text → carried_back text (length (fold_case text)) ≡ length text
carried_end text u =
    let n = length (chars (fold_case text)) in
    let at : place_of_character (fold_case text) n ≡ length (fold_case text) = place_end (fold_case text) n (fold_is_utf8 text u) (omega arith) in
    ap (carried_back text) (sym at) ∙ carried_place text n u ∙ place_end text n u (omega (arith, as_many_characters text u))

pub carried_start : (text : List ℕ) → IsUtf8 text → carried_back text 0 ≡ 0
carried_start text u = carried_place text 0 u

pub carried_rises : (text : List ℕ) (p q : ℕ) → IsUtf8 text → IsCharBoundary (fold_case text) p → IsCharBoundary (fold_case text) q → p < q → carried_back text p < carried_back text q
carried_rises text p q u a b h =
    let folded = fold_case text in
    let w = fold_is_utf8 text u in
    let i = length (chars (take p folded)) in
    let j = length (chars (take q folded)) in
    let i_at : p ≡ place_of_character folded i = place_of_boundary folded p w a in
    let j_at : q ≡ place_of_character folded j = place_of_boundary folded q w b in
    let places : place_of_character folded i < place_of_character folded j = subst (λ m. m < place_of_character folded j) i_at (subst (λ m. p < m) j_at h) in
    let before : i < j = place_reflects_order folded i j (boundary_within folded p w a) places in
    let j_in : j ≤ length (chars folded) = boundary_within folded q w b in
    place_rises text i j before (omega (arith, as_many_characters text u))

pub carried_within : (text : List ℕ) (p : ℕ) → IsUtf8 text → carried_back text p ≤ length text
carried_within text p u = let b = carried_is_boundary text p u in b.0

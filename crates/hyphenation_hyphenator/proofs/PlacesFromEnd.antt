-- Where a number of characters at the end of a text begins.
use Rattle.std.proofs.Common.{◌≡◌, ℕ, ◌+◌, ◌-◌, ◌≤◌, ◌<◌, List, [], ◌∷◌, ◌++◌, length, chars, encode_utf8, encode_utf8_all, IsUtf8, refl, sym, ap, subst, ◌∙◌, arith, append_assoc, append-nil, length-append, take, drop, max, None, Some, inl, inr, IsCharBoundary, take_at}
use Rattle.std.proofs.Math.Seq.{take-add}
use Rattle.std.proofs.lemmas.Bool.{cases_lt}
use Rattle.std.proofs.lemmas.List.{nil_from_length, length-take, length-drop}
use Rattle.std.proofs.lemmas.Str.{encodes-append, encodes-chars, chars_from_encodes, chars-nil, length-le-encodes, IsCharBoundary-from_take}
use Rattle.hyphenation_hyphenator.specs.Boundaries.{boundaries}
use Rattle.hyphenation_hyphenator.specs.Places.{place_of_character}
use Rattle.hyphenation_hyphenator.proofs.CharacterPlaces.{bounds_met, bounds_missed, places_ascend}

-- So many characters of the text were taken off its end.
pub record AreLast (text rest : List ℕ) (count : ℕ) : Type 0 where
  pub last : List ℕ
  pub read : chars text ≡ chars rest ++ last
  pub long : length last ≡ count
  pub utf8 : IsUtf8 rest

pub none_last : (text : List ℕ) → IsUtf8 text → AreLast text text 0
none_last text u = record { last = []; read = sym (append-nil (chars text)); long = refl; utf8 = u }

chars_front : (bs xs : List ℕ) (c : ℕ) → IsUtf8 bs → IsUtf8 xs → bs ≡ xs ++ encode_utf8 c → chars bs ≡ chars xs ++ c ∷ []
chars_front bs xs c u ux e =
    sym (chars_from_encodes (chars xs ++ c ∷ []) bs u
    (encodes-append (chars xs) (c ∷ []) ∙ ap (λ l. l ++ encode_utf8_all (c ∷ [])) (encodes-chars xs ux) ∙ ap (λ l. xs ++ l) (append-nil (encode_utf8 c)) ∙ sym e))

pub one_last : (text rest front : List ℕ) (c count : ℕ) → IsUtf8 front → rest ≡ front ++ encode_utf8 c → AreLast text rest count → AreLast text front (count + 1)
one_last text rest front c count u e h =
    record {
      last = c ∷ h.last;
      read = h.read ∙ ap (λ l. l ++ h.last) (chars_front rest front c h.utf8 u e) ∙ append_assoc (chars front) (c ∷ []) h.last;
      long = omega (arith, h.long);
      utf8 = u;
    }

pub last_few : (text rest : List ℕ) (count number : ℕ) → count < number → length rest ≡ 0 → AreLast text rest count → length (chars text) < number
last_few text rest count number lt none h =
    let nil : length (chars rest) ≡ 0 = ap (λ l. length (chars l)) (nil_from_length rest none) ∙ ap length chars-nil in
    omega (arith, ap length h.read, length-append (chars rest) h.last, h.long)

pub last_enough : (text rest : List ℕ) (count : ℕ) → AreLast text rest count → count ≤ length (chars text)
last_enough text rest count h = omega (arith, ap length h.read, length-append (chars rest) h.last, h.long)

pub last_place : (text rest : List ℕ) (count : ℕ) → AreLast text rest count → length rest ≡ place_of_character text (length (chars text) - count)
last_place text rest count h =
    let size : length (chars text) - count ≡ length (chars rest) = omega (arith, ap length h.read, length-append (chars rest) h.last, h.long) in
    let front : take (length (chars text) - count) (chars text) ≡ chars rest = ap (λ n. take n (chars text)) size ∙ ap (take (length (chars rest))) h.read ∙ take_at (chars rest) h.last (length (chars rest)) refl in
    sym (ap (λ cs. length (encode_utf8_all cs)) front ∙ ap length (encodes-chars rest h.utf8))

pub last_boundary : (text rest : List ℕ) (count : ℕ) → IsUtf8 text → AreLast text rest count → IsCharBoundary text (length rest)
last_boundary text rest count u h =
    let all : text ≡ rest ++ encode_utf8_all h.last =
    sym (encodes-chars text u) ∙ ap encode_utf8_all h.read ∙ encodes-append (chars rest) h.last ∙ ap (λ l. l ++ encode_utf8_all h.last) (encodes-chars rest h.utf8) in
    let front : take (length rest) text ≡ rest = ap (take (length rest)) all ∙ take_at rest (encode_utf8_all h.last) (length rest) refl in
    IsCharBoundary-from_take text (length rest) u (omega (arith, ap length all, length-append rest (encode_utf8_all h.last))) (subst IsUtf8 (sym front) h.utf8)

-- ---- the bounds, by both ends of a word

pub places_strict : (text : List ℕ) (i j : ℕ) → i < j → i < length (chars text) → place_of_character text i < place_of_character text j
places_strict text i j h inside =
    let first = take i (chars text) in
    let more = take (j - i) (drop i (chars text)) in
    let sum : i + (j - i) ≡ j = omega arith in
    let split : take j (chars text) ≡ first ++ more = subst (λ n. take n (chars text) ≡ first ++ more) sum (take-add i (j - i) (chars text)) in
    let bytes : length (encode_utf8_all (take j (chars text))) ≡ length (encode_utf8_all first) + length (encode_utf8_all more) =
    ap (λ cs. length (encode_utf8_all cs)) split ∙ ap length (encodes-append first more) ∙ length-append (encode_utf8_all first) (encode_utf8_all more) in
    omega (arith, bytes, length-le-encodes more, length-take (j - i) (drop i (chars text)), length-drop i (chars text))

-- There are no boundaries where the last would be before the first.
pub bounds_apart : (l r : ℕ) (word : List ℕ) → max r 1 ≤ length (chars word) → place_of_character word (length (chars word) - max r 1) < place_of_character word l → boundaries l r word ≡ None
bounds_apart l r word enough apart =
    let n : ℕ = length (chars word) in
    let few : n - max r 1 < l = elim (cases_lt (n - max r 1) l) [ inl lt ↦ lt | inr ge ↦ let up = places_ascend word l (n - max r 1) ge in absurd (omega arith) ] in
    bounds_missed l r n word refl (elim (cases_lt l n) [ inl lt ↦ inr (omega arith) | inr ge ↦ inl ge ])

-- The boundaries are these two places where the last is not before the first.
pub bounds_in_order : (l r : ℕ) (word : List ℕ) → max r 1 ≤ length (chars word) → place_of_character word l ≤ place_of_character word (length (chars word) - max r 1)
    → boundaries l r word ≡ Some (place_of_character word l, place_of_character word (length (chars word) - max r 1))
bounds_in_order l r word enough order =
    let n : ℕ = length (chars word) in
    let met : l ≤ n - max r 1 = elim (cases_lt (n - max r 1) l) [ inl lt ↦ let up = places_strict word (n - max r 1) l lt (omega arith) in absurd (omega arith) | inr ge ↦ ge ] in
    bounds_met l r n word refl (omega arith) (omega arith)

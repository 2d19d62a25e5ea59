-- The soft hyphens of a word, and the invariant of the search for them.
use Rattle.std.proofs.Common.{◌≡◌, ◌≢◌, ℕ, ◌+◌, ◌-◌, ◌<◌, ◌≤◌, ◌==◌, true, false, cond, AllPairs, zero, suc, List, [], ◌∷◌, ◌++◌, length, map, filter, chars, encode_utf8_all, All, refl, sym, ap, subst, ◌∙◌, arith, length-append, append_assoc, add-one, add-zero}
use Rattle.std.specs.Char.{encode_utf8}
use Rattle.std.specs.List.{slice_index, range_with_len}
use Rattle.std.specs.List.Sorted.{IsStrictlyIncreasing}
use Rattle.std.specs.Str.{IsUtf8, IsCharBoundary, IsAscii}
use Rattle.std.proofs.lemmas.Bool.Decides.{nat_tests}
use Rattle.std.proofs.lemmas.List.{append-nil}
use Rattle.std.proofs.lemmas.List.Elements.{All-nil, All-push}
use Rattle.std.proofs.lemmas.List.Quantifiers.{all_pairs_push}
use Rattle.std.proofs.Math.Seq.{get_or-append_seam}
use Rattle.std.proofs.lemmas.Str.{chars-IsAscii, chars-nil, chars_past_char, encodes-append, IsUtf8-past_char}
use Rattle.hyphenation_hyphenator.specs.Places.{place_of_character}
use Rattle.hyphenation_hyphenator.specs.SoftHyphens.{is_soft_hyphen, soft_hyphens}
use Rattle.hyphenation_hyphenator.proofs.NumberedCharacters.{picked_more}
use Rattle.hyphenation_hyphenator.proofs.Places.{place_at, place_rises, place_end, place_is_boundary}

-- The soft hyphens among the first n characters.
abbrev pub soft_hyphens_before : List ℕ → ℕ → List ℕ
soft_hyphens_before text n = map (place_of_character text) (filter (is_soft_hyphen text) (range_with_len 0 n))

-- A soft hyphen that was found stays found.

front_empty : (xs ys : List ℕ) → xs ++ ys ≡ [] → xs ≡ []
front_empty [] ys e = refl
front_empty (x ∷ xs) ys e = cc

pub some_found : (word : List ℕ) (n m : ℕ) → soft_hyphens_before word n ≢ [] → soft_hyphens_before word (n + m) ≢ []
some_found word n zero h = subst (λ k. soft_hyphens_before word k ≢ []) (sym (add-zero n)) h
some_found word n (suc m) h = λ e.
    let k : (n + m) + 1 ≡ n + suc m = omega arith in
    let grown = picked_more (place_of_character word) (is_soft_hyphen word) (n + m) in
    some_found word n m h (front_empty _ _ (sym grown ∙ ap (soft_hyphens_before word) k ∙ e))

-- The characters done are searched, and the rest is to come, from the offset on.
pub record Searching (word rest : List ℕ) (offset : ℕ) (places : List ℕ) : Type 0 where
  pub rest_utf8 : IsUtf8 rest
  pub done : List ℕ
  pub all : chars word ≡ done ++ chars rest
  pub offset_is : offset ≡ length (encode_utf8_all done)
  pub places_are : places ≡ soft_hyphens_before word (length done)
  pub left : offset + length rest ≡ length word

pub starts : (word : List ℕ) → IsUtf8 word → Searching word word 0 []
starts word u = record { rest_utf8 = u; done = []; all = refl; offset_is = refl; places_are = refl; left = omega arith }

module _ (word rest next : List ℕ) (offset offset' c : ℕ) (places : List ℕ) (before : Searching word rest offset places)
    (e : rest ≡ encode_utf8 c ++ next) (w : offset' ≡ offset + length (encode_utf8 c)) where
  next_chars : chars rest ≡ c ∷ chars next
  next_chars = chars_past_char rest next c before.rest_utf8 e

  at : slice_index (chars word) (length before.done) ≡ c
  at = ap (λ cs. slice_index cs (length before.done)) (before.all ∙ ap (λ cs. before.done ++ cs) next_chars) ∙ get_or-append_seam before.done c (chars next) 0

  further : (places' : List ℕ) → places' ≡ soft_hyphens_before word (length before.done + 1) → Searching word next offset' places'
  further places' h =
      let done = before.done in
      record {
        rest_utf8 = IsUtf8-past_char rest next c before.rest_utf8 e;
        done = done ++ c ∷ [];
        all = before.all ∙ ap (λ cs. done ++ cs) next_chars ∙ sym (append_assoc done (c ∷ []) (chars next));
        offset_is = w ∙ ap (λ n. n + length (encode_utf8 c)) before.offset_is
            ∙ sym (ap length (encodes-append done (c ∷ []) ∙ ap (λ bs. encode_utf8_all done ++ bs) (append-nil (encode_utf8 c))) ∙ length-append (encode_utf8_all done) (encode_utf8 c));
        places_are = h ∙ ap (soft_hyphens_before word) (sym (length-append done (c ∷ [])));
        left = omega (arith, before.left, ap length e, length-append (encode_utf8 c) next);
      }

  grown : soft_hyphens_before word (length before.done + 1) ≡ places ++ cond (c == 0xAD) (offset ∷ []) []
  grown =
      let n = length before.done in
      let place : place_of_character word n ≡ offset = place_at word before.done (chars rest) before.all ∙ sym before.offset_is in
      picked_more (place_of_character word) (is_soft_hyphen word) n
      ∙ ap (λ xs. xs ++ cond (is_soft_hyphen word n) (place_of_character word n ∷ []) []) (sym before.places_are)
      ∙ ap (λ d. places ++ cond (d == 0xAD) (place_of_character word n ∷ []) []) at
      ∙ ap (λ p. places ++ cond (c == 0xAD) (p ∷ []) []) place

  pub passed : (c == 0xAD) ≡ false → Searching word next offset' places
  passed h = further places (sym (grown ∙ ap (λ b. places ++ cond b (offset ∷ []) []) h ∙ append-nil places))

  pub found : (places' : List ℕ) → (c == 0xAD) ≡ true → places' ≡ places ++ offset ∷ [] → Searching word next offset' places'
  found places' h k = further places' (k ∙ sym (grown ∙ ap (λ b. places ++ cond b (offset ∷ []) []) h))

  -- A word in which a soft hyphen was met has soft hyphens.
  pub one_met : (c == 0xAD) ≡ true → soft_hyphens word ≢ []
  one_met h =
      let n = length before.done in
      let this : soft_hyphens_before word (n + 1) ≡ places ++ offset ∷ [] = grown ∙ ap (λ b. places ++ cond b (offset ∷ []) []) h in
      let some : soft_hyphens_before word (n + 1) ≢ [] = λ none. let long = ap length (sym this ∙ none) in omega (arith, long, length-append places (offset ∷ [])) in
      let within : n + 1 ≤ length (chars word) = omega (arith, ap length (before.all ∙ ap (λ cs. before.done ++ cs) next_chars), length-append before.done (c ∷ chars next)) in
      let whole : (n + 1) + (length (chars word) - (n + 1)) ≡ length (chars word) = omega arith in
      subst (λ k. soft_hyphens_before word k ≢ []) whole (some_found word (n + 1) (length (chars word) - (n + 1)) some)

pub searched_whole : (word rest : List ℕ) (offset : ℕ) (places : List ℕ) → Searching word rest offset places → length rest ≡ 0 → places ≡ soft_hyphens word
searched_whole word [] offset places s h =
    let whole : chars word ≡ s.done = s.all ∙ ap (λ cs. s.done ++ cs) chars-nil ∙ append-nil s.done in
    s.places_are ∙ ap (λ cs. soft_hyphens_before word (length cs)) (sym whole)
searched_whole word (b ∷ bs) offset places s h = absurd (omega (arith, h))

empty_list : (xs ys : List ℕ) → xs ≡ ys → length xs ≡ 0 → ys ≡ []
empty_list [] ys e h = sym e
empty_list (x ∷ xs) ys e h = absurd (omega (arith, h))

pub none_found : (word rest : List ℕ) (offset : ℕ) (places : List ℕ) → Searching word rest offset places → length rest ≡ 0 → length places ≡ 0 → soft_hyphens word ≡ []
none_found word rest offset places s h k = empty_list places (soft_hyphens word) (searched_whole word rest offset places s h) k

pub some_left : (word rest : List ℕ) (offset : ℕ) (places : List ℕ) → Searching word rest offset places → length rest ≡ 0 → 0 < length places → soft_hyphens word ≢ []
some_left word rest offset places s h k = λ none. omega (arith, ap length (searched_whole word rest offset places s h ∙ none), k)

-- A fact of the places of the first n characters is a fact of the soft hyphens among them.
all_before : (P : ℕ → Type 0) (word : List ℕ) (n : ℕ) → ((j : ℕ) → j < n → P (place_of_character word j)) → All P (soft_hyphens_before word n)
all_before P word zero h = All-nil P
all_before P word (suc n) h =
    let before = all_before P word n (λ j l. h j (omega arith)) in
    let last = h n (omega arith) in
    let place = place_of_character word n in
    subst (λ k. All P (soft_hyphens_before word k)) (add-one n) (subst (All P) (sym (picked_more (place_of_character word) (is_soft_hyphen word) n))
    (elim (is_soft_hyphen word n) as (λ b. All P (soft_hyphens_before word n ++ cond b (place ∷ []) [])) [
      | true ↦ All-push P (soft_hyphens_before word n) place before last
      | false ↦ subst (All P) (sym (append-nil (soft_hyphens_before word n))) before
    ]))

Rises : List ℕ → Type 0
Rises places = AllPairs (λ p q. p < q) places

rising : (word : List ℕ) (n : ℕ) → n ≤ length (chars word) → Rises (soft_hyphens_before word n)
unfolding Rises
rising word zero l = λ i j d h k. absurd (omega (arith, k))
rising word (suc n) l =
    let before = rising word n (omega arith) in
    let place = place_of_character word n in
    let below = all_before (λ p. p < place) word n (λ j h. place_rises word j n h (omega arith)) in
    subst (λ k. Rises (soft_hyphens_before word k)) (add-one n) (subst Rises (sym (picked_more (place_of_character word) (is_soft_hyphen word) n))
    (elim (is_soft_hyphen word n) as (λ b. Rises (soft_hyphens_before word n ++ cond b (place ∷ []) [])) [
      | true ↦ all_pairs_push (λ p q. p < q) (soft_hyphens_before word n) place before below
      | false ↦ subst Rises (sym (append-nil (soft_hyphens_before word n))) before
    ]))

-- The places ascend, on boundaries of the word and before its end.
pub ascending : (word : List ℕ) → IsStrictlyIncreasing (soft_hyphens word)
unfolding Rises
ascending word = λ k h. let pairs : AllPairs (λ p q. p < q) (soft_hyphens word) = rising word (length (chars word)) (omega arith) in pairs k (k + 1) 0 (omega arith) h

pub within : (word : List ℕ) → IsUtf8 word → All (λ place. IsCharBoundary word place × (place < length word)) (soft_hyphens word)
within word u =
    let n = length (chars word) in
    all_before (λ place. IsCharBoundary word place × (place < length word)) word n (λ j h. (place_is_boundary word j u, omega (arith, place_rises word j n h (omega arith), place_end word n u (omega arith))))

-- ASCII has no soft hyphen.
other_number : (a : ℕ) → a < 128 → (a == 0xAD) ≡ false
other_number a h = grind (arith, nat_tests)

none_before : (word : List ℕ) → ((j : ℕ) → is_soft_hyphen word j ≡ false) → (n : ℕ) → soft_hyphens_before word n ≡ []
none_before word others zero = refl
none_before word others (suc n) =
    let next : soft_hyphens_before word (n + 1) ≡ [] = picked_more (place_of_character word) (is_soft_hyphen word) n
    ∙ ap (λ b. soft_hyphens_before word n ++ cond b (place_of_character word n ∷ []) []) (others n) ∙ append-nil (soft_hyphens_before word n) ∙ none_before word others n in
    subst (λ k. soft_hyphens_before word k ≡ []) (add-one n) next

pub none_at_all : (word : List ℕ) → ((j : ℕ) → is_soft_hyphen word j ≡ false) → soft_hyphens word ≡ []
none_at_all word others = none_before word others (length (chars word))

pub none_in_ascii : (word : List ℕ) → IsAscii word → soft_hyphens word ≡ []
none_in_ascii word ascii = none_at_all word (λ j. ap (λ cs. slice_index cs j == 0xAD) (chars-IsAscii word ascii) ∙ other_number (slice_index word j) (ascii j))

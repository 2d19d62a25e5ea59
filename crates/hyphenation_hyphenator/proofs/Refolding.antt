-- The invariant of folding a word: the folding and the shifts of its first characters.
use Rattle.std.proofs.Common.{◌≡◌, ◌≢◌, ℕ, ◌+◌, ◌<◌, ◌==◌, true, false, cond, not, List, [], ◌∷◌, ◌++◌, length, take, drop, map, chars, encode_utf8_all, ℤ, pos, ◌-ℤ◌, refl, sym, ap, subst, ◌∙◌, arith, length-append, length-drop, append_assoc}
use Rattle.std.specs.Char.{encode_utf8}
use Rattle.std.specs.List.{slice_index, list_any}
use Rattle.std.specs.Str.{IsUtf8, IsCharBoundary}
use Rattle.std.proofs.lemmas.List.{append-nil, length-map, length-take-le, map-append, take-append-drop, get_or_append_left}
use Rattle.std.proofs.Math.Seq.{get_or-append_seam}
use Rattle.std.proofs.lemmas.List.Folds.{list_any_at}
use Rattle.std.proofs.lemmas.Str.{chars-nil, chars-append, chars_past_char, encodes-append, encodes-chars, IsUtf8-take, IsUtf8-drop, IsUtf8-past_char}
use Rattle.unicode.specs.Binary.{is_uppercase}
use Rattle.hyphenation_hyphenator.specs.declared.case_folding.Shift.{Shift}
use Rattle.hyphenation_hyphenator.specs.Places.{place_of_character}
use Rattle.hyphenation_hyphenator.specs.Folding.{fold_character, fold_case, has_uppercase, changes_length, shift_of, shifts_of}
use Rattle.hyphenation_hyphenator.proofs.Folds.{chars_of_fold, fold_stays, folds_to_itself}
use Rattle.hyphenation_hyphenator.proofs.NumberedCharacters.{picked_more}
use Rattle.hyphenation_hyphenator.proofs.Places.{place_at}
use Rattle.hyphenation_hyphenator.proofs.Shifts.{shifts_before, no_shifts}

-- The characters done are folded, and the rest is to come.
pub record Refolding (original rest folded : List ℕ) (written : ℕ) (shifts : List Shift) : Type 0 where
  pub utf8 : IsUtf8 original
  pub rest_utf8 : IsUtf8 rest
  pub done : List ℕ
  pub all : chars original ≡ done ++ chars rest
  pub folded_is : folded ≡ encode_utf8_all (map fold_character done)
  pub written_is : written ≡ length (encode_utf8_all done)
  pub shifts_are : shifts ≡ shifts_before original (length done)
  pub left : written + length rest ≡ length original

-- The invariant holds at the start.

not_uppercase : (cs : List ℕ) (j : ℕ) → list_any is_uppercase cs ≡ false → j < length cs → is_uppercase (slice_index cs j) ≡ false
not_uppercase cs j h l =
    elim (is_uppercase (slice_index cs j)) as (λ b. is_uppercase (slice_index cs j) ≡ b → is_uppercase (slice_index cs j) ≡ false) [
      | true ↦ λ e. let no : true ≡ false = sym (list_any_at is_uppercase cs j 0 l e) ∙ h in cc
      | false ↦ λ e. e
    ] refl

differs : (a b : ℕ) → a ≡ b → not (a == b) ≡ false
differs a b h = grind (arith)

keeps_length : (text : List ℕ) (j : ℕ) → is_uppercase (slice_index (chars text) j) ≡ false → changes_length text j ≡ false
keeps_length text j h = differs _ _ (ap (λ c. length (encode_utf8 c)) (folds_to_itself (slice_index (chars text) j) h))

starts : (original : List ℕ) (place : ℕ) → IsUtf8 original → IsCharBoundary original place → has_uppercase (take place original) ≡ false → Refolding original (drop place original) (take place original) place []
starts original place u b n =
    let front = take place original in
    let front_utf8 = IsUtf8-take original place u b in
    let parts : chars original ≡ chars front ++ chars (drop place original) = ap chars (sym (take-append-drop place original)) ∙ chars-append front (drop place original) front_utf8 in
    let stays : (j : ℕ) → j < length (chars front) → changes_length original j ≡ false = λ j l. keeps_length original j (subst (λ c. is_uppercase c ≡ false) (sym (ap (λ cs. slice_index cs j) parts ∙ get_or_append_left (chars front) (chars (drop place original)) 0 j l)) (not_uppercase (chars front) j n l)) in
    record {
      utf8 = u;
      rest_utf8 = IsUtf8-drop original place u b;
      done = chars front;
      all = parts;
      folded_is = sym (fold_stays front front_utf8 n);
      written_is = sym (ap length (encodes-chars front front_utf8) ∙ length-take-le place original b.0);
      shifts_are = sym (no_shifts original (length (chars front)) stays);
      left = omega (arith, length-drop place original, b.0);
    }

pub begins : (original rest folded : List ℕ) (place : ℕ) (shifts : List Shift) → IsUtf8 original → IsCharBoundary original place → has_uppercase (take place original) ≡ false → rest ≡ drop place original → folded ≡ take place original → shifts ≡ [] → Refolding original rest folded place shifts
begins original rest folded place shifts u b n r f s =
    subst (λ x. Refolding original x folded place shifts) (sym r) (subst (λ x. Refolding original (drop place original) x place shifts) (sym f) (subst (λ x. Refolding original (drop place original) (take place original) place x) (sym s) (starts original place u b n)))

-- A text without Uppercase characters has no shifts.
pub stays_without_shifts : (text : List ℕ) → has_uppercase text ≡ false → shifts_of text ≡ []
stays_without_shifts text n = no_shifts text (length (chars text)) (λ j l. keeps_length text j (not_uppercase (chars text) j n l))

unequal : (a b : ℕ) → a ≢ b → not (a == b) ≡ true
unequal a b h = grind (arith)

-- The places of the character to come.

written_place : (original rest folded : List ℕ) (written : ℕ) (shifts : List Shift) (r : Refolding original rest folded written shifts) → place_of_character original (length r.done) ≡ written
written_place original rest folded written shifts r = place_at original r.done (chars rest) r.all ∙ sym r.written_is

folded_place : (original rest folded : List ℕ) (written : ℕ) (shifts : List Shift) (r : Refolding original rest folded written shifts) → place_of_character (fold_case original) (length r.done) ≡ length folded
folded_place original rest folded written shifts r =
    let parts : chars (fold_case original) ≡ map fold_character r.done ++ map fold_character (chars rest) = chars_of_fold original r.utf8 ∙ ap (map fold_character) r.all ∙ map-append fold_character r.done (chars rest) in
    ap (place_of_character (fold_case original)) (sym (length-map _ _)) ∙ place_at (fold_case original) (map fold_character r.done) (map fold_character (chars rest)) parts ∙ sym (ap length r.folded_is)

-- The invariant holds after one more character.

module _ (original rest next folded folded' : List ℕ) (written written' c : ℕ) (shifts : List Shift) (before : Refolding original rest folded written shifts)
    (e : rest ≡ encode_utf8 c ++ next) (f : folded' ≡ folded ++ encode_utf8 (fold_character c)) (w : written' ≡ written + length (encode_utf8 c)) where
  next_chars : chars rest ≡ c ∷ chars next
  next_chars = chars_past_char rest next c before.rest_utf8 e

  abbrev more : List ℕ
  more = before.done ++ c ∷ []

  at : slice_index (chars original) (length before.done) ≡ c
  at = ap (λ cs. slice_index cs (length before.done)) (before.all ∙ ap (λ cs. before.done ++ cs) next_chars) ∙ get_or-append_seam before.done c (chars next) 0

  abbrev further : (shifts' : List Shift) → shifts' ≡ shifts_before original (length before.done + 1) → Refolding original next folded' written' shifts'
  further shifts' h =
      let done = before.done in
      record {
        utf8 = before.utf8;
        rest_utf8 = IsUtf8-past_char rest next c before.rest_utf8 e;
        done = more;
        all = before.all ∙ ap (λ cs. done ++ cs) next_chars ∙ sym (append_assoc done (c ∷ []) (chars next));
        folded_is = f ∙ ap (λ bs. bs ++ encode_utf8 (fold_character c)) before.folded_is
            ∙ sym (ap encode_utf8_all (map-append fold_character done (c ∷ [])) ∙ encodes-append (map fold_character done) (fold_character c ∷ []) ∙ ap (λ bs. encode_utf8_all (map fold_character done) ++ bs) (append-nil (encode_utf8 (fold_character c))));
        written_is = w ∙ ap (λ n. n + length (encode_utf8 c)) before.written_is
            ∙ sym (ap length (encodes-append done (c ∷ []) ∙ ap (λ bs. encode_utf8_all done ++ bs) (append-nil (encode_utf8 c))) ∙ length-append (encode_utf8_all done) (encode_utf8 c));
        shifts_are = h ∙ ap (shifts_before original) (sym (length-append done (c ∷ [])));
        left = omega (arith, before.left, ap length e, length-append (encode_utf8 c) next);
      }

  changes : changes_length original (length before.done) ≡ not (length (encode_utf8 (fold_character c)) == length (encode_utf8 c))
  changes = ap (λ d. not (length (encode_utf8 (fold_character d)) == length (encode_utf8 d))) at

  pub same_length : length (encode_utf8 (fold_character c)) ≡ length (encode_utf8 c) → Refolding original next folded' written' shifts
  same_length h = further shifts (before.shifts_are ∙ sym (picked_more (shift_of original) (changes_length original) (length before.done) ∙ ap (λ b. shifts_before original (length before.done) ++ cond b (shift_of original (length before.done) ∷ []) []) (changes ∙ differs _ _ h) ∙ append-nil (shifts_before original (length before.done))))

  pub new_length : (shifts' : List Shift) (s : Shift) → length (encode_utf8 (fold_character c)) ≢ length (encode_utf8 c) → shifts' ≡ shifts ++ s ∷ [] → s.index ≡ length folded → s.delta ≡ pos (length folded') -ℤ pos written' → Refolding original next folded' written' shifts'
  new_length shifts' s h k i d =
      let n = length before.done in
      let index = folded_place original rest folded written shifts before in
      let then : Refolding original next folded' written' (shifts_before original (n + 1)) = further (shifts_before original (n + 1)) refl in
      let count : length more ≡ n + 1 = length-append before.done (c ∷ []) in
      let folded_after : place_of_character (fold_case original) (n + 1) ≡ length folded' = subst (λ m. place_of_character (fold_case original) m ≡ length folded') count (folded_place original next folded' written' (shifts_before original (n + 1)) then) in
      let after : place_of_character original (n + 1) ≡ written' = subst (λ m. place_of_character original m ≡ written') count (written_place original next folded' written' (shifts_before original (n + 1)) then) in
      let make : ℕ → ℤ → Shift = λ index delta. record { index = index; delta = delta } in
      let this : s ≡ shift_of original n = ap (λ m. make m s.delta) (i ∙ sym index) ∙ ap (make (place_of_character (fold_case original) n)) (d ∙ ap (λ m. pos m -ℤ pos written') (sym folded_after) ∙ ap (λ m. pos (place_of_character (fold_case original) (n + 1)) -ℤ pos m) (sym after)) in
      further shifts' (k ∙ ap (λ xs. xs ++ s ∷ []) before.shifts_are ∙ ap (λ t. shifts_before original n ++ t ∷ []) this
      ∙ sym (picked_more (shift_of original) (changes_length original) n ∙ ap (λ b. shifts_before original n ++ cond b (shift_of original n ∷ []) []) (changes ∙ unequal _ _ h)))

-- The invariant at the end has the whole folding.

pub folded_whole : (original rest folded : List ℕ) (written : ℕ) (shifts : List Shift) → Refolding original rest folded written shifts → length rest ≡ 0 → (folded ≡ fold_case original) × (shifts ≡ shifts_of original)
folded_whole original [] folded written shifts r h =
    let whole : chars original ≡ r.done = r.all ∙ ap (λ cs. r.done ++ cs) chars-nil ∙ append-nil r.done in
    (r.folded_is ∙ ap (λ cs. encode_utf8_all (map fold_character cs)) (sym whole), r.shifts_are ∙ ap (λ cs. shifts_before original (length cs)) (sym whole))
folded_whole original (b ∷ bs) folded written shifts r h = absurd (omega (arith, h))

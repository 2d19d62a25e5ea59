-- A token that is written word by word, where words without breaks are appended later.
use Rattle.std.proofs.Common.{◌≡◌, ◌⊎◌, inl, inr, ℕ, ◌+◌, ◌-◌, ◌<◌, ◌≤◌, Bool, true, false, List, [], ◌∷◌, ◌++◌, map, length, slice_range, not, ◌&&◌, IsTrue, refl, sym, ap, subst, ◌∙◌, arith, append_assoc, append-nil, length-append, get_or, if◌then◌else◌}
use Rattle.std.specs.List.{concat, flat_map}
use Rattle.std.specs.Str.{IsUtf8, IsCharBoundary}
use Rattle.std.proofs.lemmas.Bool.{cases_lt}
use Rattle.std.proofs.lemmas.List.Edits.{get_or-between, length-between}
use Rattle.unicode_segmentation.specs.Segments.{with_offsets}
use Rattle.text_words.specs.Words.{text_words, WordsAreSlices, WordsJoin}
use Rattle.word_pieces.specs.Pieces.{AreSlices, IsSlice}
use Rattle.hyphenation_breaks.specs.Break.{plain_break}
use Rattle.hyphenation_segments.specs.Fits.{Fits}
use Rattle.hyphenation_segments.specs.Segments as segments
use Rattle.hyphenation_segments.specs.Laws.{with_marks, JoinsToMarkedText}
use Rattle.hyphenation_text.specs.Dictionaries.{Breaks}
use Rattle.hyphenation_text.specs.Words.{is_left_whole}
use Rattle.hyphenation_text.specs.Private.Marked.{marked_word, marked_token, Leaves}
use Rattle.hyphenation_text.proofs.Slices.{slice_none, slice_join, slice_in}
use Rattle.hyphenation_text.proofs.WordMarks.{plainly_marked}

-- ---- words of a token, as words of its text

byte_in : (text token : List ℕ) (start end k : ℕ) → token ≡ slice_range text start end → start + k < end → get_or token k 0 ≡ get_or text (start + k) 0
byte_in text token start end k are lt = ap (λ t. get_or t k 0) are ∙ get_or-between text start end k 0 lt

boundary_cases : (text token : List ℕ) (start end k : ℕ) → start ≤ end → IsCharBoundary text end → token ≡ slice_range text start end → length token ≡ end - start → IsCharBoundary token k → (k < length token) ⊎ (length token ≤ k)
    → IsCharBoundary text (start + k)
boundary_cases text token start end k order e are long at (inl lt) =
    let same = byte_in text token start end k are (omega (arith, long, lt)) in
    (omega (arith, long, lt, e.0), λ _ high. subst (λ b. 192 ≤ b) same (at.1 lt (subst (λ b. 128 ≤ b) (sym same) high)))
boundary_cases text token start end k order e are long at (inr le) =
    let here : end ≡ start + k = omega (arith, order, long, le, at.0) in
    subst (IsCharBoundary text) here e

boundary_in : (text token : List ℕ) (start end k : ℕ) → start ≤ end → IsCharBoundary text end → token ≡ slice_range text start end → IsCharBoundary token k → IsCharBoundary text (start + k)
boundary_in text token start end k order e are at =
    boundary_cases text token start end k order e are (ap length are ∙ length-between text start end e.0) at (cases_lt k (length token))

next_slice : (token : List ℕ) (at : ℕ) (word : List ℕ) (rest : List (List ℕ)) → AreSlices token (with_offsets at (word ∷ rest))
    → IsSlice token (at, word) × AreSlices token (with_offsets (at + length word) rest)
unfolding with_offsets
next_slice token at word rest s = s

first_slice : (token : List ℕ) (at : ℕ) (word : List ℕ) (rest : List (List ℕ)) → IsSlice token (at, word) → AreSlices token (with_offsets (at + length word) rest)
    → AreSlices token (with_offsets at (word ∷ rest))
unfolding with_offsets
first_slice token at word rest s t = (s, t)

no_slices : (token : List ℕ) (at : ℕ) → AreSlices token (with_offsets at [])
unfolding with_offsets
no_slices token at = tt

slice_of_text : (text token word : List ℕ) (start end at : ℕ) → start ≤ end → IsCharBoundary text end → token ≡ slice_range text start end → IsSlice token (at, word)
    → IsSlice text (start + at, word)
slice_of_text text token word start end at order e are s =
    let last = boundary_in text token start end (at + length word) order e are s.end in
    let sum : start + (at + length word) ≡ start + at + length word = omega arith in
    record {
      start = boundary_in text token start end at order e are s.start;
      end = subst (IsCharBoundary text) sum last;
      bytes = s.bytes ∙ slice_in text token start end at (length word) e.0 are s.end.0;
    }

slices_of_text : (text token : List ℕ) (start end at : ℕ) (words : List (List ℕ)) → start ≤ end → IsCharBoundary text end → token ≡ slice_range text start end
    → AreSlices token (with_offsets at words) → AreSlices text (with_offsets (start + at) words)
slices_of_text text token start end at [] order e are s = no_slices text (start + at)
slices_of_text text token start end at (word ∷ words) order e are s =
    let parts = next_slice token at word words s in
    let sum : start + (at + length word) ≡ start + at + length word = omega arith in
    first_slice text (start + at) word words (slice_of_text text token word start end at order e are parts.0)
    (subst (λ n. AreSlices text (with_offsets n words)) sum (slices_of_text text token start end (at + length word) words order e are parts.1))

-- ---- words that are passed

-- A word of a token with its marks, or as it is where the token is left whole.
abbrev pub written_word : Breaks → List ℕ → Bool → List ℕ → List ℕ
written_word breaks mark whole word = if whole then word else marked_word breaks mark word

-- The words of a token as they are written.
abbrev pub written_words : Breaks → List ℕ → List ℕ → List (List ℕ) → List ℕ
written_words breaks mark token words = flat_map (written_word breaks mark (is_left_whole token)) words

-- The text that is not appended yet, and the words of a token as they are written, after what was written before.
abbrev pub written_after : Breaks → List ℕ → List ℕ → List ℕ → List ℕ → ℕ → ℕ → List ℕ
written_after breaks mark text token old kept start =
    old ++ (slice_range text kept start ++ written_words breaks mark token (text_words token))

-- The words of a token up to a place are passed, and the text from `kept` on to there is not appended yet. The output, that
-- text and the words to come give the result.
pub record IsPassed (breaks : Breaks) (mark text token whole output : List ℕ) (kept at end : ℕ) (left : List (List ℕ)) : Type 0 where
  pub order : kept ≤ at
  pub ends : at + length (concat left) ≡ end
  pub begins : IsCharBoundary text kept
  pub goes_on : IsCharBoundary text at
  pub slices : AreSlices text (with_offsets at left)
  pub gives : output ++ (slice_range text kept at ++ written_words breaks mark token left) ≡ whole

pub passed_none : (breaks : Breaks) (mark text token output : List ℕ) (kept start end : ℕ) (left : List (List ℕ)) → WordsAreSlices → WordsJoin → IsUtf8 token → kept ≤ start → start ≤ end
    → IsCharBoundary text kept → IsCharBoundary text start → IsCharBoundary text end → token ≡ slice_range text start end → left ≡ text_words token
    → IsPassed breaks mark text token (written_after breaks mark text token output kept start) output kept start end left
passed_none breaks mark text token output kept start end left slices join v le order k s e are all =
    let words = slices_of_text text token start end 0 (text_words token) order e are (slices token v) in
    let none : start + 0 ≡ start = omega arith in
    let long : length (concat left) ≡ end - start = ap length (ap concat all ∙ join token v ∙ are) ∙ length-between text start end e.0 in
    record {
      order = le;
      ends = omega (arith, long, order);
      begins = k;
      goes_on = s;
      slices = subst (λ ws. AreSlices text (with_offsets start ws)) (sym all) (subst (λ n. AreSlices text (with_offsets n (text_words token))) none words);
      gives = ap (λ ws. output ++ (slice_range text kept start ++ written_words breaks mark token ws)) all;
    }

-- A word without breaks stays as it is.
unbroken : (breaks : Breaks) (mark word : List ℕ) (whole : Bool) → breaks word ≡ [] → written_word breaks mark whole word ≡ word
unbroken breaks mark word true none = refl
unbroken breaks mark word false none = ap (with_marks mark word) none

shorter : (word : List ℕ) (rest : List (List ℕ)) (at after end : ℕ) → after ≡ at + length word → at + length (concat (word ∷ rest)) ≡ end → after + length (concat rest) ≡ end
shorter word rest at after end is ends = omega (arith, is, ends, length-append word (concat rest))

module _ {breaks : Breaks} {mark text token whole output : List ℕ} {kept at end : ℕ} {word : List ℕ} {rest : List (List ℕ)} where
  -- A word without breaks was passed.
  pub passes_word : {after : List ℕ} (next : ℕ) → next ≡ at + length word → breaks word ≡ [] → after ≡ output
      → IsPassed breaks mark text token whole output kept at end (word ∷ rest) → IsPassed breaks mark text token whole after kept next end rest
  passes_word {after} next next_is none same h =
      let slice = next_slice text at word rest h.slices in
      let stays = unbroken breaks mark word (is_left_whole token) none in
      let later = written_words breaks mark token rest in
      let longer : slice_range text kept (at + length word) ≡ slice_range text kept at ++ word =
      slice_join text kept at (at + length word) h.order (omega arith) h.goes_on.0 ∙ ap (λ x. slice_range text kept at ++ x) (sym slice.0.bytes) in
      record {
        order = omega (arith, next_is, h.order);
        ends = shorter word rest at next end next_is h.ends;
        begins = h.begins;
        goes_on = subst (IsCharBoundary text) (sym next_is) slice.0.end;
        slices = subst (λ n. AreSlices text (with_offsets n rest)) (sym next_is) slice.1;
        gives =
            ap (λ o. o ++ (slice_range text kept next ++ later)) same
            ∙ ap (λ n. output ++ (slice_range text kept n ++ later)) next_is
            ∙ ap (λ x. output ++ (x ++ later)) longer
            ∙ ap (λ x. output ++ x) (append_assoc (slice_range text kept at) word later ∙ ap (λ x. slice_range text kept at ++ (x ++ later)) (sym stays))
            ∙ h.gives;
      }

  -- A word with breaks is appended, after the text that was passed.
  pub appends_word : {passed after places : List ℕ} (next : ℕ) → next ≡ at + length word → JoinsToMarkedText → Fits word (map plain_break places) → places ≡ breaks word
      → is_left_whole token ≡ false → passed ≡ output ++ slice_range text kept at → after ≡ passed ++ segments.marked_word mark word (map plain_break places)
      → IsPassed breaks mark text token whole output kept at end (word ∷ rest) → IsPassed breaks mark text token whole after next next end rest
  appends_word {passed} {after} {places} next next_is joins fit places_are marked first second h =
      let slice = next_slice text at word rest h.slices in
      let own = written_word breaks mark (is_left_whole token) word in
      let later = written_words breaks mark token rest in
      let own_is : segments.marked_word mark word (map plain_break places) ≡ own =
      plainly_marked breaks mark word word places joins refl fit places_are ∙ ap (λ c. written_word breaks mark c word) (sym marked) in
      let now : after ≡ (output ++ slice_range text kept at) ++ own = second ∙ ap (λ x. passed ++ x) own_is ∙ ap (λ x. x ++ own) first in
      record {
        order = omega arith;
        ends = shorter word rest at next end next_is h.ends;
        begins = subst (IsCharBoundary text) (sym next_is) slice.0.end;
        goes_on = subst (IsCharBoundary text) (sym next_is) slice.0.end;
        slices = subst (λ n. AreSlices text (with_offsets n rest)) (sym next_is) slice.1;
        gives =
            ap (λ x. after ++ (x ++ later)) (slice_none text next) ∙ ap (λ x. x ++ later) now ∙ append_assoc (output ++ slice_range text kept at) own later
            ∙ append_assoc output (slice_range text kept at) (own ++ later) ∙ h.gives;
      }

words_as_they_are : (breaks : Breaks) (mark : List ℕ) (words : List (List ℕ)) → flat_map (written_word breaks mark true) words ≡ concat words
words_as_they_are breaks mark [] = refl
words_as_they_are breaks mark (word ∷ words) = ap (λ x. word ++ x) (words_as_they_are breaks mark words)

words_by : (breaks : Breaks) (mark token : List ℕ) (whole : Bool) → concat (text_words token) ≡ token
    → flat_map (written_word breaks mark whole) (text_words token) ≡ (if whole then token else flat_map (marked_word breaks mark) (text_words token))
words_by breaks mark token true join = words_as_they_are breaks mark (text_words token) ∙ join
words_by breaks mark token false join = refl

-- The words of a token as they are written are the token with its marks.
words_written : (breaks : Breaks) (mark token : List ℕ) → WordsJoin → IsUtf8 token → written_words breaks mark token (text_words token) ≡ marked_token breaks mark token
unfolding marked_token
words_written breaks mark token join u = words_by breaks mark token (is_left_whole token) (join token u)

-- At the end the text that was passed is all that is left of the token.
pub all_passed : {breaks : Breaks} {mark text token output : List ℕ} {kept at end : ℕ} (from start : ℕ) (old own : List ℕ) → WordsJoin → IsUtf8 token → own ≡ token
    → IsPassed breaks mark text token (written_after breaks mark text token old from start) output kept at end []
    → Leaves text kept end output (old ++ (slice_range text from start ++ marked_token breaks mark own))
all_passed {breaks} {mark} {text} {token} {output} {kept} {at} {end} from start old own join u are h =
    let here : at ≡ end = omega (arith, h.ends) in
    record {
      order = omega (arith, h.order, here);
      begins = h.begins;
      gives =
          ap (λ n. output ++ slice_range text kept n) (sym here) ∙ ap (λ x. output ++ x) (sym (append-nil (slice_range text kept at))) ∙ h.gives
          ∙ ap (λ x. old ++ (slice_range text from start ++ x)) (words_written breaks mark token join u ∙ ap (marked_token breaks mark) (sym are));
    }

-- ---- tokens that stay as they are

whole_token : (breaks : Breaks) (mark token : List ℕ) → is_left_whole token ≡ true → marked_token breaks mark token ≡ token
unfolding marked_token
whole_token breaks mark token whole = ap (λ c. if c then token else flat_map (marked_word breaks mark) (text_words token)) whole

-- Nothing of a token is appended where it stays as it is.
pub leaves_all : (text output marked : List ℕ) (kept start end : ℕ) → kept ≤ start → start ≤ end → IsCharBoundary text kept → IsCharBoundary text start → marked ≡ slice_range text start end
    → Leaves text kept end output (output ++ (slice_range text kept start ++ marked))
leaves_all text output marked kept start end le order k s are = record {
  order = omega (arith, le, order);
  begins = k;
  gives = ap (λ x. output ++ x) (slice_join text kept start end le order s.0 ∙ ap (λ x. slice_range text kept start ++ x) (sym are));
}

pub leaves_whole : (breaks : Breaks) (mark text token output old : List ℕ) (kept start end : ℕ) → kept ≤ start → start ≤ end → IsCharBoundary text kept → IsCharBoundary text start → token ≡ slice_range text start end
    → is_left_whole token ≡ true → output ≡ old → Leaves text kept end output (old ++ (slice_range text kept start ++ marked_token breaks mark (slice_range text start end)))
leaves_whole breaks mark text token output old kept start end le order k s are whole same =
    let stays : marked_token breaks mark (slice_range text start end) ≡ slice_range text start end =
    ap (marked_token breaks mark) (sym are) ∙ whole_token breaks mark token whole ∙ are in
    subst (λ o. Leaves text kept end output (o ++ (slice_range text kept start ++ marked_token breaks mark (slice_range text start end)))) same
    (leaves_all text output (marked_token breaks mark (slice_range text start end)) kept start end le order k s stays)

-- A token is not left whole, where that is known or was asked now.
pub not_whole : (asked whole : Bool) → (IsTrue asked → whole ≡ false) → not asked && whole ≡ false → whole ≡ false
not_whole true whole known e = known refl
not_whole false whole known e = e

-- Lists of words, one word more at a time, and what is found of them.
use Rattle.std.proofs.Common.{◌≡◌, ℕ, zero, suc, ◌+◌, ◌<◌, List, [], ◌∷◌, ◌++◌, length, map, take, get_or, refl, sym, ap, ◌∙◌, arith}
use Rattle.std.specs.Prelude.{slice_index}
use Rattle.std.specs.List.{flat_map, range_with_len, slice_range}
use Rattle.std.proofs.lemmas.List.{take_more, flat_map_more}
use Rattle.std.proofs.lemmas.Grind.{get_or_tail}
use Rattle.std.proofs.lemmas.List.FromFn.{map-range_with_len_more}
use Rattle.any_dictionary.specs.Dictionaries.{all_places_by}
use Rattle.any_dictionary.specs.declared.AnyDictionary.{AnyDictionary}
use Rattle.c_calls.specs.Lists.{begin_of, word_at, words_of, AreEnds, AreUtf8, places_of_all, ends_of_places, Lists}
use Rattle.c_calls.specs.Statuses.{Buffer, FillsBoth}

-- the words, with one more
pub words_more : (text ends : List ℕ) (i : ℕ) (words : List (List ℕ)) (word : List ℕ)
    → words ≡ map (word_at text ends) (range_with_len 0 i) → word ≡ word_at text ends i
    → words ++ word ∷ [] ≡ map (word_at text ends) (range_with_len 0 (i + 1))
words_more text ends i words word before is =
    ap (λ (ws : List (List ℕ)). ws ++ word ∷ []) before
    ∙ ap (λ (w : List ℕ). map (word_at text ends) (range_with_len 0 i) ++ w ∷ []) is
    ∙ sym (map-range_with_len_more (word_at text ends) 0 i i (omega arith))

-- their places, with those of one more
pub places_more : (f : List ℕ → List ℕ) (words : List (List ℕ)) (i : ℕ) (word places found : List ℕ) → i < length words
    → word ≡ get_or words i word → places ≡ places_of_all f (take i words) → found ≡ f word
    → places ++ found ≡ places_of_all f (take (i + 1) words)
places_more f words i word places found lt here before is =
    ap (λ (ps : List ℕ). ps ++ found) before ∙ ap (λ (ps : List ℕ). flat_map f (take i words) ++ ps) is
    ∙ flat_map_more f [] (take i words) word
    ∙ ap (λ (w : List ℕ). flat_map f (take i words ++ w ∷ [])) here
    ∙ ap (flat_map f) (sym (take_more words i word lt))

-- the ends of their places, with that of one more
pub ends_more : (f : List ℕ → List ℕ) (words : List (List ℕ)) (i : ℕ) (places ends : List ℕ)
    → places ≡ places_of_all f (take (i + 1) words)
    → ends ≡ map (λ n. length (places_of_all f (take (n + 1) words))) (range_with_len 0 i)
    → ends ++ length places ∷ [] ≡ map (λ n. length (places_of_all f (take (n + 1) words))) (range_with_len 0 (i + 1))
ends_more f words i places ends is before =
    ap (λ (es : List ℕ). es ++ length places ∷ []) before
    ∙ ap (λ (ps : List ℕ). map (λ n. length (places_of_all f (take (n + 1) words))) (range_with_len 0 i) ++ length ps ∷ []) is
    ∙ sym (map-range_with_len_more (λ n. length (places_of_all f (take (n + 1) words))) 0 i i (omega arith))

-- a word as it is cut out of the text
pub word_cut : (text ends : List ℕ) (i begin end : ℕ) (bytes : List ℕ) → bytes ≡ slice_range text begin end → begin ≡ begin_of ends i
    → end ≡ slice_index ends i → bytes ≡ word_at text ends i
word_cut text ends i begin end bytes is begin_is end_is =
    is ∙ ap (λ (n : ℕ). slice_range text n end) begin_is ∙ ap (λ (n : ℕ). slice_range text (begin_of ends i) n) end_is

-- the next word begins where this one ends
pub begin_next : (ends : List ℕ) (i end : ℕ) → end ≡ slice_index ends i → end ≡ begin_of ends (i + 1)
begin_next ends i end is =
    is ∙ ap (λ (k : ℕ). slice_index ends k) (omega arith) ∙ sym (get_or_tail 0 ends (i + 1) 0 (omega arith))

-- buffers that are filled, or have no room, are what a good list is to give
pub lists_found : (dictionary : AnyDictionary) (text ends : List ℕ) (b c : Buffer ℕ) (status : ℕ) → AreEnds text ends → AreUtf8 text ends
    → FillsBoth (places_of_all (all_places_by dictionary) (words_of text ends)) (ends_of_places (all_places_by dictionary) (words_of text ends)) b c status
    → Lists dictionary text ends b c status
lists_found dictionary text ends b c zero good utf8 filled = (good, utf8, filled)
lists_found dictionary text ends b c (suc zero) good utf8 filled = (good, utf8, filled)
lists_found dictionary text ends b c (suc (suc n)) good utf8 filled = absurd filled

-- a word of a list, as it is read and as it stands among the others
pub word_read : {X : Type 0} (now : X → List ℕ) (xs : List X) (i : ℕ) (d : X) (e : List ℕ) → i < length xs
    → now (get_or xs i d) ≡ get_or (map now xs) i e
word_read now [] i d e lt = absurd (omega (arith, lt))
word_read now (x ∷ xs) zero d e lt = refl
word_read now (x ∷ xs) (suc i) d e lt = word_read now xs i d e (omega (arith, lt))

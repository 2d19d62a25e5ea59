-- Tokens of ASCII letters, tokens without bytes, and texts of white space.
use Rattle.std.proofs.Common.{◌≡◌, ℕ, ◌<◌, ◌==◌, ◌&&◌, ◌||◌, Bool, true, false, zero, suc, List, [], ◌∷◌, ◌++◌, map, length, refl, sym, ap, ◌∙◌, arith, append_assoc, append-nil, if◌then◌else◌}
use Rattle.std.specs.Char.{is_ascii_alphabetic}
use Rattle.std.specs.List.{flat_map, list_all}
use Rattle.std.specs.Str.{IsAscii, IsCharBoundary, chars}
use Rattle.std.proofs.lemmas.Bool.Decides.{nat_tests}
use Rattle.std.proofs.lemmas.Bool.{and_parts, and_right, or_from, ne_eqb, false≢true}
use Rattle.unicode_segmentation.specs.Segments.{segments, cut}
use Rattle.text_words.specs.Words.{text_words, LettersAreOneWord}
use Rattle.text_words.specs.Names.{is_name, LettersAreNoName}
use Rattle.hyphenation_breaks.specs.Break.{plain_break}
use Rattle.hyphenation_segments.specs.Fits.{Fits}
use Rattle.hyphenation_segments.specs.Segments as marked
use Rattle.hyphenation_segments.specs.Laws.{JoinsToMarkedText}
use Rattle.hyphenation_text.specs.Dictionaries.{Breaks}
use Rattle.html_pieces.specs.Bytes.{is_white_space}
use Rattle.hyphenation_text.specs.Places.{shifted, words_places, token_places, tokens_places, text_places}
use Rattle.hyphenation_text.specs.Words.{has_soft_hyphen_after, is_left_whole}
use Rattle.hyphenation_text.specs.Private.Marked.{marked_word, marked_token, Leaves}
use Rattle.hyphenation_text.proofs.Slices.{slice_none}
use Rattle.hyphenation_text.proofs.WordMarks.{plainly_marked}

-- ---- letters

no_hyphen : (before : ℕ) (text : List ℕ) → list_all is_ascii_alphabetic text ≡ true → has_soft_hyphen_after before text ≡ false
no_hyphen before [] all = refl
no_hyphen before (b ∷ bs) all =
    let letter = and_parts (is_ascii_alphabetic b) (list_all is_ascii_alphabetic bs) all in
    or_from (before == 0xC2 && b == 0xAD) (has_soft_hyphen_after b bs)
    (and_right (before == 0xC2) (b == 0xAD) (ne_eqb b 0xAD (λ e. false≢true (sym (ap is_ascii_alphabetic e) ∙ letter.0)))) (no_hyphen b bs letter.1)

not_left : (token : List ℕ) → LettersAreNoName → list_all is_ascii_alphabetic token ≡ true → is_left_whole token ≡ false
unfolding is_left_whole
not_left token none all = or_from (has_soft_hyphen_after 0 token) (is_name token) (no_hyphen 0 token all) (none token all)

-- A token of some letters is one word.
pub letters_marked : (breaks : Breaks) (mark token : List ℕ) → LettersAreOneWord → LettersAreNoName → 0 < length token → list_all is_ascii_alphabetic token ≡ true
    → marked_token breaks mark token ≡ marked_word breaks mark token
unfolding marked_token
letters_marked breaks mark token one none some all =
    ap (λ c. if c then token else flat_map (marked_word breaks mark) (text_words token)) (not_left token none all)
    ∙ ap (flat_map (marked_word breaks mark)) (one token some all).0 ∙ append-nil (marked_word breaks mark token)

-- The word is appended with its marks, after the text that was passed.
pub word_appended : (breaks : Breaks) (mark text word old passed after pending token places : List ℕ) (end : ℕ) → JoinsToMarkedText → marked_token breaks mark token ≡ marked_word breaks mark token → word ≡ token
    → IsCharBoundary text end → Fits word (map plain_break places) → places ≡ breaks word → passed ≡ old ++ pending → after ≡ passed ++ marked.marked_word mark word (map plain_break places)
    → Leaves text end end after (old ++ (pending ++ marked_token breaks mark token))
word_appended breaks mark text word old passed after pending token places end joins one are e fit places_are first second =
    let own = marked_word breaks mark word in
    record {
      order = omega arith;
      begins = e;
      gives =
          ap (λ x. after ++ x) (slice_none text end) ∙ append-nil after ∙ second ∙ ap (λ x. passed ++ x) (plainly_marked breaks mark word word places joins refl fit places_are)
          ∙ ap (λ x. x ++ own) first ∙ append_assoc old pending own ∙ ap (λ x. old ++ (pending ++ x)) (ap (marked_word breaks mark) are ∙ sym one);
    }

-- Letters are ASCII.
letter_is_ascii : (x : ℕ) → is_ascii_alphabetic x ≡ true → x < 128
letter_is_ascii x h = grind (arith, nat_tests)

pub letters_are_ascii : (xs : List ℕ) → list_all is_ascii_alphabetic xs ≡ true → IsAscii xs
letters_are_ascii [] all i = omega arith
letters_are_ascii (x ∷ xs) all zero = letter_is_ascii x (and_parts (is_ascii_alphabetic x) (list_all is_ascii_alphabetic xs) all).0
letters_are_ascii (x ∷ xs) all (suc i) = letters_are_ascii xs (and_parts (is_ascii_alphabetic x) (list_all is_ascii_alphabetic xs) all).1 i

-- ---- no bytes

no_words : text_words [] ≡ []
unfolding text_words segments cut chars
no_words = refl

either_none : (c : Bool) (xs : List ℕ) → xs ≡ [] → (if c then [] else xs) ≡ []
either_none true xs e = refl
either_none false xs e = e

pub nothing_marked : (breaks : Breaks) (mark token : List ℕ) → token ≡ [] → marked_token breaks mark token ≡ token
unfolding marked_token
nothing_marked breaks mark token none = ap (marked_token breaks mark) none ∙ either_none (is_left_whole []) (flat_map (marked_word breaks mark) (text_words [])) (ap (flat_map (marked_word breaks mark)) no_words) ∙ sym none

-- ---- white space

no_word : (breaks : Breaks) → token_places breaks [] ≡ []
unfolding token_places
no_word breaks = either_none (is_left_whole []) (words_places breaks (text_words [])) (ap (words_places breaks) no_words)

-- A text of white space has no breaks.
pub white_places : (breaks : Breaks) (before after : Bool) (text : List ℕ) → list_all is_white_space text ≡ true → text_places breaks before after text ≡ []
white_places breaks before after [] all = either_none (before || after) (token_places breaks []) (no_word breaks)
white_places breaks before after (b ∷ bs) all =
    let white = and_parts (is_white_space b) (list_all is_white_space bs) all in
    let more = text_places breaks false after bs in
    ap (λ c. if c then (if before then [] else token_places breaks []) ++ shifted 0 (shifted 1 more) else tokens_places breaks before after (b ∷ []) bs) white.0
    ∙ ap (λ xs. xs ++ shifted 0 (shifted 1 more)) (either_none before (token_places breaks []) (no_word breaks))
    ∙ ap (λ xs. shifted 0 (shifted 1 xs)) (white_places breaks false after bs white.1)

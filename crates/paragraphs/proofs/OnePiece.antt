-- A word that is one piece.
use Rattle.std.proofs.Common.{◌≡◌, ℕ, ◌<◌, zero, suc, true, false, cond, List, [], ◌∷◌, map, ap, sym, ◌∙◌, append-nil, arith}
use Rattle.std.specs.Char.{is_ascii_alphabetic}
use Rattle.std.specs.List.{flat_map, list_all}
use Rattle.std.specs.Str.{IsAscii}
use Rattle.std.proofs.lemmas.Bool.Decides.{nat_tests}
use Rattle.std.proofs.lemmas.Bool.{and_parts}
use Rattle.unicode_segmentation.specs.Segments.{with_offsets}
use Rattle.composed_words.specs.Composed.{carried, composed, is_composed}
use Rattle.text_words.specs.Words.{is_mixed, text_words, unless_mixed}
use Rattle.hyphenation_breaks.specs.Break.{Break, plain_break}
use Rattle.paragraphs.specs.Parts.{set_off, breaks_in, composed_breaks, piece_breaks, unchanged_places}

pub one_piece_offsets : (word : List ℕ) → text_words word ≡ word ∷ [] → with_offsets 0 (text_words word) ≡ (0, word) ∷ []
unfolding with_offsets
one_piece_offsets word is = ap (with_offsets 0) is

-- Letters are ASCII.
letter_is_ascii : (x : ℕ) → is_ascii_alphabetic x ≡ true → x < 128
letter_is_ascii x h = grind (arith, nat_tests)

pub letters_are_ascii : (xs : List ℕ) → list_all is_ascii_alphabetic xs ≡ true → IsAscii xs
letters_are_ascii [] all i = omega arith
letters_are_ascii (x ∷ xs) all zero = letter_is_ascii x (and_parts (is_ascii_alphabetic x) (list_all is_ascii_alphabetic xs) all).0
letters_are_ascii (x ∷ xs) all (suc i) = letters_are_ascii xs (and_parts (is_ascii_alphabetic x) (list_all is_ascii_alphabetic xs) all).1 i

-- A piece in NFC has its own breaks.
pub own_breaks : (breaks_of : List ℕ → List Break) (piece : List ℕ) → is_composed piece ≡ true → composed_breaks breaks_of piece ≡ breaks_of piece
unfolding composed_breaks
own_breaks breaks_of piece same =
    ap (λ c. cond c (breaks_of piece) (map plain_break (carried piece (unchanged_places (breaks_of (composed piece)))))) same

-- Any other piece has those of its NFC that change no letters, carried back.
pub carried_breaks : (breaks_of : List ℕ → List Break) (piece nfc : List ℕ) → is_composed piece ≡ false → nfc ≡ composed piece
    → map plain_break (carried piece (unchanged_places (breaks_of nfc))) ≡ composed_breaks breaks_of piece
unfolding composed_breaks
carried_breaks breaks_of piece nfc other same =
    ap (λ n. map plain_break (carried piece (unchanged_places (breaks_of n)))) same
    ∙ sym (ap (λ c. cond c (breaks_of piece) (map plain_break (carried piece (unchanged_places (breaks_of (composed piece)))))) other)

-- Its breaks are those of the piece.
pub whole_breaks : (breaks_of : List ℕ → List Break) (word : List ℕ) → text_words word ≡ word ∷ [] → is_mixed word ≡ false → is_composed word ≡ true
    → breaks_in breaks_of (0, word) ≡ piece_breaks breaks_of word
whole_breaks breaks_of word is apart same =
    sym (ap (flat_map (breaks_in (composed_breaks (unless_mixed breaks_of)))) (one_piece_offsets word is)
    ∙ append-nil (breaks_in (composed_breaks (unless_mixed breaks_of)) (0, word))
    ∙ ap (map (set_off 0)) (own_breaks (unless_mixed breaks_of) word same ∙ ap (λ c. cond c [] (breaks_of word)) apart))

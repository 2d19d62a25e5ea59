-- A text of letters of ASCII.
use Rattle.std.proofs.Common.{◌≡◌, ℕ, zero, suc, ◌+◌, ◌-◌, ◌<◌, ◌≤◌, true, if◌then◌else◌, List, [], ◌∷◌, length, take, slice_index, sym, ap, ◌∙◌, arith}
use Rattle.std.specs.Char.{is_ascii_alphabetic}
use Rattle.std.specs.List.{list_all}
use Rattle.std.specs.Prelude.{IsAscii}
use Rattle.std.proofs.lemmas.Bool.{and_parts, lt-ltb}
use Rattle.std.proofs.lemmas.Bool.Decides.{nat_tests}
use Rattle.std.proofs.lemmas.List.{take_all}
use Rattle.std.proofs.lemmas.Str.{IsUtf8-from_ascii, IsCharBoundary-start}
use Rattle.std.proofs.lemmas.Str.Ascii.{IsAscii-nil, IsAscii-cons}
use Rattle.ucd_breaks.specs.WordBreak.{word_break}
use Rattle.unicode_segmentation.specs.Segments.{segments_between}
use Rattle.unicode_segmentation.specs.Word.{is_word_break}
use Rattle.unicode_segmentation.proofs.SegmentsLemmas.{segments_between-same, segments_between-whole}
use Rattle.word_pieces.specs.Pieces.{LettersAreOnePiece}
use Rattle.word_pieces.specs.declared.kinds.ByteKind.TheVariants.{Letter, Beyond}
use Rattle.word_pieces.specs.Private.Kinds.{kind_of_value, kind_of_byte}
use Rattle.word_pieces.proofs.LetterRuns.{word_break-letter}
use Rattle.word_pieces.proofs.PlainWalks.{IsPlainWalk-run, IsPlainEnd-end}

letter_small : (c : ℕ) → is_ascii_alphabetic c ≡ true → c < 128
letter_small c is = grind (arith, nat_tests)

letters_ascii : (text : List ℕ) → list_all is_ascii_alphabetic text ≡ true → IsAscii text
letters_ascii [] all = IsAscii-nil
letters_ascii (c ∷ cs) all =
    let both = and_parts (is_ascii_alphabetic c) (list_all is_ascii_alphabetic cs) all in
    IsAscii-cons c cs (letter_small c both.0) (letters_ascii cs both.1)

pub letter_kind : (c : ℕ) → is_ascii_alphabetic c ≡ true → kind_of_byte c ≡ Letter
letter_kind c is =
    let small = letter_small c is in
    ap (λ t. if t then kind_of_value (word_break c) else Beyond) (lt-ltb c 128 small) ∙ ap kind_of_value (sym (word_break-letter c small is))

each_letter : (text : List ℕ) → list_all is_ascii_alphabetic text ≡ true → (k : ℕ) → k < length text → kind_of_byte (slice_index text k) ≡ Letter
each_letter [] all k lt = absurd (omega (arith, lt))
each_letter (c ∷ cs) all zero lt = let both = and_parts (is_ascii_alphabetic c) (list_all is_ascii_alphabetic cs) all in letter_kind c both.0
each_letter (c ∷ cs) all (suc k) lt = let both = and_parts (is_ascii_alphabetic c) (list_all is_ascii_alphabetic cs) all in each_letter cs both.1 k (omega (arith, lt))

pub one_piece : LettersAreOnePiece
one_piece text some all =
    let u = IsUtf8-from_ascii text (letters_ascii text all) in
    let count = length text in
    let within : (0 + 1 ≤ count) × (count ≤ count) = (omega (arith, some), omega arith) in
    let whole : count - 0 ≡ count = omega arith in
    let walk = IsPlainWalk-run text u 0 count some (IsCharBoundary-start text u) (each_letter text all 0 some) (within.0, within.1, λ k low high. each_letter text all k high) in
    let end = (IsPlainEnd-end text u 0 count Letter walk (omega arith)).0 in
    sym (segments_between-whole is_word_break text u) ∙ end.first
    ∙ ap (λ piece. piece ∷ segments_between is_word_break text count count) (ap (λ n. take n text) whole ∙ take_all count text (omega arith))
    ∙ ap (λ others. text ∷ others) (segments_between-same is_word_break text u count)

-- Words with their files, one more at a time.
use Rattle.std.proofs.Common.{◌≡◌, ◌∙◌, ℕ, ◌+◌, ◌<◌, List, [], ◌∷◌, ◌++◌, length, map, take, drop, get_or, ap, refl, sym, append_assoc, add-one, drop-cons}
use Rattle.std.specs.Prelude.{reverse}
use Rattle.std.proofs.lemmas.List.{append-nil, map_more, reverse-append}
use Rattle.tex_files.specs.Groups.{GroupWord}
use Rattle.tex_files.specs.Notes.{FileWord}
use Rattle.tex_files.specs.Private.Notes.{file_word}
use Rattle.tex_files.specs.Private.Views.{word_view}
use Rattle.tex_files.specs.declared.group.Word.{Word}

-- words with their file, as the definitions have them
pub viewed : (number : ℕ) (words : List Word)
    → (let one : GroupWord → FileWord = λ word. record { file = number; word = word } in
    map (λ (word : Word). file_word (number, word)) words ≡ map one (map word_view words))
viewed number [] = refl
viewed number (word ∷ words) = ap (λ (rest : List FileWord). file_word (number, word) ∷ rest) (viewed number words)

-- the words of a file that are added, and then those of others
pub file_added : (now new own rest all : List FileWord) → new ≡ now ++ (own ++ []) → now ++ (own ++ rest) ≡ all → new ++ rest ≡ all
file_added now new own rest all step so_far =
    ap (λ (words : List FileWord). words ++ rest) (step ∙ ap (λ (words : List FileWord). now ++ words) (append-nil own))
    ∙ append_assoc now own rest ∙ so_far

-- one word more comes before the next one
pub before_more : (words : List (ℕ × Word)) (i : ℕ) (one : ℕ × Word) → i < length words → one ≡ get_or words i one
    → reverse (map file_word (take (i + 1) words)) ≡ file_word one ∷ reverse (map file_word (take i words))
before_more words i one lt is =
    ap reverse (map_more file_word words i one lt)
    ∙ reverse-append (map file_word (take i words)) (file_word (get_or words i one) ∷ [])
    ∙ ap (λ (x : ℕ × Word). file_word x ∷ reverse (map file_word (take i words))) (sym is)

-- the words from one on
pub one_and_after : (words : List (ℕ × Word)) (i : ℕ) (one : ℕ × Word) → i < length words → one ≡ get_or words i one
    → map file_word (drop i words) ≡ file_word one ∷ map file_word (drop (i + 1) words)
one_and_after words i one lt is =
    let split : drop i words ≡ get_or words i one ∷ drop (i + 1) words = rw (add-one, drop-cons words i one) in
    ap (map file_word) split ∙ ap (λ (x : ℕ × Word). file_word x ∷ map file_word (drop (i + 1) words)) (sym is)

-- Lines that are gathered one by one.
use Rattle.std.proofs.Common.{◌≡◌, ℕ, true, false, cond, List, [], ◌∷◌, ◌++◌, chars, sym, ap, subst, ◌∙◌, arith, append_assoc, append-nil}
use Rattle.std.specs.List.{flat_map}
use Rattle.std.specs.Str.{IsUtf8}
use Rattle.std.proofs.lemmas.Grind.{flat_map-append}
use Rattle.std.proofs.lemmas.Str.{chars-nil}
use Rattle.paragraphs.specs.Words.{if_any, words, words_after}
use Rattle.paragraphs.specs.Paragraphs.{is_blank, ended, gather}
use Rattle.paragraphs.specs.Private.Gathered.{AreGathered, PassesLine}
use Rattle.paragraphs.proofs.WordLists.{some_any, gaps_no_word, line_parted}

no_words : words [] ≡ []
no_words = ap (words_after []) chars-nil

pub nothing_gathered : AreGathered [] [] []
nothing_gathered = record { same = no_words; parted = λ after. ap (λ s. s ++ words after) (sym no_words) }

pub words_if_any : (text : List ℕ) → flat_map words (if_any text) ≡ words text
words_if_any [] = sym no_words
words_if_any (b ∷ bs) = ap (flat_map words) (some_any (b ∷ bs) (omega arith)) ∙ append-nil (words (b ∷ bs))

one_more : (lines : List (List ℕ)) (line : List ℕ) → flat_map words (lines ++ line ∷ []) ≡ flat_map words lines ++ words line
one_more lines line = flat_map-append words lines (line ∷ []) ∙ ap (λ s. flat_map words lines ++ s) (append-nil (words line))

pub blank_gathered : (all : List (List ℕ)) (gathered line : List ℕ) (lines : List (List ℕ)) → is_blank line ≡ true → AreGathered all gathered lines
    → AreGathered (all ++ if_any gathered) [] (lines ++ line ∷ [])
blank_gathered all gathered line lines blank are = record {
  same =
      ap (λ s. flat_map words (all ++ if_any gathered) ++ s) no_words ∙ append-nil (flat_map words (all ++ if_any gathered))
      ∙ flat_map-append words all (if_any gathered) ∙ ap (λ s. flat_map words all ++ s) (words_if_any gathered)
      ∙ are.same ∙ sym (one_more lines line ∙ ap (λ s. flat_map words lines ++ s) (gaps_no_word (chars line) blank) ∙ append-nil (flat_map words lines));
  parted = nothing_gathered.parted;
}

pub line_gathered : (all : List (List ℕ)) (gathered line : List ℕ) (lines : List (List ℕ)) → IsUtf8 line → AreGathered all gathered lines
    → AreGathered all (gathered ++ ended line) (lines ++ line ∷ [])
line_gathered all gathered line lines u are =
    let here : words (gathered ++ ended line) ≡ words gathered ++ words line =
    are.parted (ended line) ∙ ap (λ s. words gathered ++ s) (line_parted line [] u ∙ ap (λ s. words line ++ s) no_words ∙ append-nil (words line)) in
    record {
      same =
          ap (λ s. flat_map words all ++ s) here ∙ sym (append_assoc (flat_map words all) (words gathered) (words line))
          ∙ ap (λ s. s ++ words line) are.same ∙ sym (one_more lines line);
      parted = λ after.
          ap words (append_assoc gathered (ended line) after ∙ ap (λ s. gathered ++ s) (append_assoc line (10 ∷ []) after))
          ∙ are.parted (line ++ 10 ∷ after) ∙ ap (λ s. words gathered ++ s) (line_parted line after u)
          ∙ sym (append_assoc (words gathered) (words line) (words after)) ∙ ap (λ s. s ++ words after) (sym here);
    }

blank_first : (gathered line : List ℕ) (others : List (List ℕ)) → is_blank line ≡ true
    → gather gathered (line ∷ others) ≡ if_any gathered ++ gather [] others
blank_first gathered line others blank = ap (λ t. cond t (if_any gathered ++ gather [] others) (gather (gathered ++ ended line) others)) blank

line_first : (gathered line : List ℕ) (others : List (List ℕ)) → is_blank line ≡ false
    → gather gathered (line ∷ others) ≡ gather (gathered ++ ended line) others
line_first gathered line others worded = ap (λ t. cond t (if_any gathered ++ gather [] others) (gather (gathered ++ ended line) others)) worded

-- A line that was added with its line feed.
pub line_added : (gathered line with_line new feed : List ℕ) → with_line ≡ gathered ++ line → new ≡ with_line ++ feed → feed ≡ 10 ∷ [] → new ≡ gathered ++ ended line
line_added gathered line with_line new feed first second is =
    second ∙ ap (λ s. s ++ feed) first ∙ ap (λ s. (gathered ++ line) ++ s) is ∙ append_assoc gathered line (10 ∷ [])

pub line_passed : (all : List (List ℕ)) (gathered line new : List ℕ) → IsUtf8 line → is_blank line ≡ false → new ≡ gathered ++ ended line
    → PassesLine all gathered line all new
line_passed all gathered line new u worded is = record {
  paragraphs = λ others. ap (λ g. all ++ gather g others) is ∙ ap (λ s. all ++ s) (sym (line_first gathered line others worded));
  worded = λ lines are. subst (λ g. AreGathered all g (lines ++ line ∷ [])) (sym is) (line_gathered all gathered line lines u are);
}

pub blank_passed : (all : List (List ℕ)) (gathered line : List ℕ) (new_all : List (List ℕ)) (new : List ℕ) → is_blank line ≡ true → new_all ≡ all ++ if_any gathered → new ≡ []
    → PassesLine all gathered line new_all new
blank_passed all gathered line new_all new blank is none = record {
  paragraphs = λ others.
      ap (λ g. new_all ++ gather g others) none ∙ ap (λ xs. xs ++ gather [] others) is ∙ append_assoc all (if_any gathered) (gather [] others)
      ∙ ap (λ s. all ++ s) (sym (blank_first gathered line others blank));
  worded = λ lines are.
      subst (λ g. AreGathered new_all g (lines ++ line ∷ [])) (sym none)
      (subst (λ xs. AreGathered xs [] (lines ++ line ∷ [])) (sym is) (blank_gathered all gathered line lines blank are));
}

-- No letter of a word is lost in its parts.
use Rattle.std.proofs.Common.{◌≡◌, ℕ, ◌<◌, ◌≤◌, true, false, cond, nat_lt, List, [], ◌∷◌, ◌++◌, length, drop, slice_range, sym, ap, refl, ◌∙◌, arith, append_assoc, append-nil}
use Rattle.std.specs.List.{flat_map}
use Rattle.std.proofs.lemmas.Bool.{and_parts, ltb-true}
use Rattle.std.proofs.lemmas.Grind.{flat_map-append}
use Rattle.std.proofs.lemmas.List.Folds.{drop_split}
use Rattle.hyphenation_breaks.specs.Break.{Break, begin_of, end_of, after_of, before_of}
use Rattle.paragraphs.specs.Settings.{Setting, joined_text}
use Rattle.paragraphs.specs.Parts.{Style, parts_it, parts_from, word_parts, word_breaks, spaced, KeepWords}

-- The parts from a place on, in one line, are the word from there on, and a space.
kept_from : (style : Style) (word opening : List ℕ) (from : ℕ) (bs : List Break)
    → flat_map joined_text (parts_from style word opening from bs) ≡ drop from word ++ 32 ∷ []
kept_from style word opening from [] = append-nil (drop from word ++ 32 ∷ [])
kept_from style word opening from (b ∷ bs) =
    let begin = begin_of b in
    let end = end_of b in
    let first = slice_range word from begin in
    let second = slice_range word begin end in
    let here : Setting = record { opening = opening; text = first; joint = second; closing = before_of b.change ++ 45 ∷ []; price = style.price } in
    let rest = parts_from style word (style.indent ++ after_of b.change) end bs in
    let skipped = parts_from style word opening from bs in
    elim (parts_it word from b) as (λ t. parts_it word from b ≡ t → flat_map joined_text (cond t (here ∷ rest) skipped) ≡ drop from word ++ 32 ∷ []) [
      | true ↦ λ is.
          let before : from < begin = ltb-true from begin (let both = and_parts (nat_lt from begin) (nat_lt end (length word)) is in both.0) in
          let order : begin ≤ end = omega arith in
          let later = kept_from style word (style.indent ++ after_of b.change) end bs in
          let parts : drop from word ≡ first ++ (second ++ drop end word) = drop_split word from begin (omega (arith, before)) ∙ ap (λ s. first ++ s) (drop_split word begin end order) in
          ap (λ s. (first ++ second) ++ s) later
          ∙ sym (append_assoc (first ++ second) (drop end word) (32 ∷ []))
          ∙ ap (λ s. s ++ 32 ∷ []) (append_assoc first second (drop end word) ∙ sym parts)
      | false ↦ λ _. kept_from style word opening from bs
    ] refl

others_kept : (breaks_of : List ℕ → List Break) (style : Style) (words : List (List ℕ))
    → flat_map joined_text (flat_map (word_parts breaks_of style style.indent) words) ≡ flat_map spaced words
others_kept breaks_of style [] = refl
others_kept breaks_of style (word ∷ words) =
    let make = word_parts breaks_of style style.indent in
    flat_map-append joined_text (make word) (flat_map make words)
    ∙ ap (λ s. s ++ flat_map joined_text (flat_map make words)) (kept_from style word style.indent 0 (word_breaks breaks_of word))
    ∙ ap (λ s. spaced word ++ s) (others_kept breaks_of style words)

pub words_kept : (breaks_of : List ℕ → List Break) (style : Style) (words : List (List ℕ)) → KeepWords breaks_of style words
words_kept breaks_of style [] = refl
words_kept breaks_of style (word ∷ words) =
    let first = word_parts breaks_of style style.first word in
    let others = flat_map (word_parts breaks_of style style.indent) words in
    flat_map-append joined_text first others
    ∙ ap (λ s. s ++ flat_map joined_text others) (kept_from style word style.first 0 (word_breaks breaks_of word))
    ∙ ap (λ s. spaced word ++ s) (others_kept breaks_of style words)

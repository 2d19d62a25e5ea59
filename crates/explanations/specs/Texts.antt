-- The texts of the facts about a word's breaks.
use Rattle.std.specs.Prelude.{◌≡◌, ℕ, true, false, List, [], ◌∷◌, Option}
use Rattle.hyphenation_breaks.specs.Break.{Break, Change}
use Rattle.hyphenation_breaks.specs.Dictionary.{Contents}
use Rattle.explanations.specs.Facts.{AreFacts, Facts}
use Rattle.explanations.specs.Lines.{lines_of}
use Rattle.explanations.specs.Picture.{picture_of}
use Rattle.explanations.specs.Svg.{IsDocument}
use Rattle.explanations.specs.declared.style.Style.{Style}
use Rattle.explanations.specs.declared.style.Style.TheVariants.{Picture, Lines, Svg}

-- The text is that of the facts in this style.
abbrev pub IsTextOf : {C : Type 0} → Style → (C → Option Change) → Facts C → List ℕ → Type 0
IsTextOf Lines change_of facts text = text ≡ lines_of change_of facts
IsTextOf Picture change_of facts text = text ≡ picture_of false change_of facts
IsTextOf Svg change_of facts text = IsDocument (picture_of true change_of facts ∷ []) text

-- The text explains a word by the contents of a dictionary, by which the word has these breaks.
pub record Explains {C B : Type 0} (change_of : C → Option Change) (break_of : B → Break) (contents : Contents C B)
    (style : Style) (word : List ℕ) (breaks : List Break) (text : List ℕ) : Type 0 where
  pub facts : Facts C
  pub right : AreFacts change_of break_of contents word breaks facts
  pub text_is : IsTextOf style change_of facts text

-- The elements of a drawing explain a word by the contents of a dictionary, by which the word has these breaks.
pub record IsDrawn {C B : Type 0} (change_of : C → Option Change) (break_of : B → Break) (contents : Contents C B)
    (word : List ℕ) (breaks : List Break) (drawing : List ℕ) : Type 0 where
  pub facts : Facts C
  pub right : AreFacts change_of break_of contents word breaks facts
  pub drawing_is : drawing ≡ picture_of true change_of facts

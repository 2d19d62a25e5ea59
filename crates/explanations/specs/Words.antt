-- Texts and drawings that explain a word, by a dictionary of either kind.
use Rattle.std.specs.Prelude.{ℕ, List}
use Rattle.any_dictionary.specs.Dictionaries.{breaks_by}
use Rattle.any_dictionary.specs.declared.AnyDictionary.{AnyDictionary}
use Rattle.any_dictionary.specs.declared.AnyDictionary.TheVariants as of
use Rattle.hyphenation_breaks.specs.Break.{plain_break}
use Rattle.hyphenation_hyphenator.specs.Opportunities.{no_change, own_break}
use Rattle.hyphenation_score.specs.Scoring.{own_change}
use Rattle.explanations.specs.Texts.{Explains, IsDrawn}
use Rattle.explanations.specs.declared.style.Style.{Style}

-- The text explains a word in this style, by a dictionary.
abbrev pub IsExplanation : AnyDictionary → Style → List ℕ → List ℕ → Type 0
IsExplanation (of.Standard standard) style word text =
    Explains no_change plain_break standard style word (breaks_by (of.Standard standard) word) text
IsExplanation (of.Extended extended) style word text =
    Explains own_change own_break extended style word (breaks_by (of.Extended extended) word) text

-- The drawing explains a word, by a dictionary.
abbrev pub IsDrawingOf : AnyDictionary → List ℕ → List ℕ → Type 0
IsDrawingOf (of.Standard standard) word drawing =
    IsDrawn no_change plain_break standard word (breaks_by (of.Standard standard) word) drawing
IsDrawingOf (of.Extended extended) word drawing =
    IsDrawn own_change own_break extended word (breaks_by (of.Extended extended) word) drawing

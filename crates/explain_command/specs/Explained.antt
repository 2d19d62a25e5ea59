-- The texts that explain words, and what the program `hyphenate-explain` writes.
use Rattle.std.specs.Prelude.{◌≡◌, ℕ, List, [], ◌∷◌, codes, Option, ⊤}
use Rattle.std.specs.Borrow.{Bor}
use Rattle.std.specs.Iterator.{DrainsIf}
use Rattle.std.specs.Str.Iter.{split_whitespace_rest, split_whitespace_steps}
use Rattle.std.specs.declared.str.SplitWhitespace.{SplitWhitespace}
use Rattle.std.specs.List.{AllZip, join_with_byte}
use Rattle.any_dictionary.specs.declared.AnyDictionary.{AnyDictionary}
use Rattle.command_line.specs.Adjustments.{IsAdjustedOf}
use Rattle.command_line.specs.Dictionaries.{KnownFiles}
use Rattle.command_line.specs.Inputs.{IsTextOf}
use Rattle.composed_words.specs.Composed.{composed}
use Rattle.hyphenation_breaks.specs.Ascii.{line_feed}
use Rattle.hyphenation_breaks.specs.Borrowed.{texts_now}
use Rattle.hyphenation_load.specs.Load.{AppendsTo}
use Rattle.explanations.specs.Svg.{IsDocument}
use Rattle.explanations.specs.Words.{IsDrawingOf, IsExplanation}
use Rattle.explanations.specs.declared.style.Style.{Style}
use Rattle.explanations.specs.declared.style.Style.TheVariants.{Picture, Lines, Svg}
use Rattle.explain_command.specs.Arguments.{ParsedArgs}

-- The text has a text for each word, which explains it, in the order of the words, and an empty line between two.
abbrev pub AreJoined : (List ℕ → List ℕ → Type 0) → List (List ℕ) → List ℕ → Type 0
AreJoined explains words text =
    (texts : List (List ℕ)) × AllZip explains words texts × (text ≡ join_with_byte line_feed texts)

-- The text is one document with a drawing for each word, which explains it, in the order of the words.
abbrev pub AreDrawn : (List ℕ → List ℕ → Type 0) → List (List ℕ) → List ℕ → Type 0
AreDrawn draws words text = (drawings : List (List ℕ)) × AllZip draws words drawings × IsDocument drawings text

-- The text explains the NFC of a word in this style, by a dictionary. A word in NFC is its own.
abbrev pub IsExplanationOfNfc : AnyDictionary → Style → List ℕ → List ℕ → Type 0
IsExplanationOfNfc dictionary style word text = IsExplanation dictionary style (composed word) text

-- The drawing explains the NFC of a word, by a dictionary.
abbrev pub IsDrawingOfNfc : AnyDictionary → List ℕ → List ℕ → Type 0
IsDrawingOfNfc dictionary word drawing = IsDrawingOf dictionary (composed word) drawing

-- The text explains the NFC of each word in this style, by a dictionary.
abbrev pub AreExplained : AnyDictionary → Style → List (List ℕ) → List ℕ → Type 0
AreExplained dictionary Picture words text = AreJoined (IsExplanationOfNfc dictionary Picture) words text
AreExplained dictionary Lines words text = AreJoined (IsExplanationOfNfc dictionary Lines) words text
AreExplained dictionary Svg words text = AreDrawn (IsDrawingOfNfc dictionary) words text

-- The words of a text: its parts between white space.
abbrev pub AreWordsOf : List ℕ → List (Bor (List ℕ)) → Type 0
AreWordsOf text words =
    (it : SplitWhitespace) × (split_whitespace_rest it ≡ text) × DrainsIf split_whitespace_steps ⊤ it words

-- The text explains the words of standard input, whose bytes must be UTF-8, and are these, if they are known.
pub record ExplainsInput (dictionary : AnyDictionary) (style : Style) (bytes_of : KnownFiles) (left : Option (List ℕ)) (text : List ℕ) : Type 0 where
  pub input : List ℕ
  pub read : IsTextOf bytes_of left (codes "-") input
  pub words : List (Bor (List ℕ))
  pub parts : AreWordsOf input words
  pub explained : AreExplained dictionary style (texts_now words) text

-- The text explains the given words or, without any, those of standard input.
abbrev pub ExplainsGiven : AnyDictionary → Style → KnownFiles → Option (List ℕ) → List (List ℕ) → List ℕ → Type 0
ExplainsGiven dictionary style bytes_of left [] text = ExplainsInput dictionary style bytes_of left text
ExplainsGiven dictionary style bytes_of left (word ∷ words) text = AreExplained dictionary style (word ∷ words) text

-- A text is what arguments ask for: it explains their words, by the dictionary that they name.
pub record IsResult (parsed : ParsedArgs) (bytes_of : KnownFiles) (folders : List (Bor (List ℕ))) (left : Option (List ℕ)) (text : List ℕ) : Type 0 where
  pub dictionary : AnyDictionary
  pub named : IsAdjustedOf bytes_of (texts_now folders) parsed.dictionary parsed.adjustments dictionary
  pub explained : ExplainsGiven dictionary parsed.style bytes_of left parsed.words text

-- The text that arguments ask for was appended to an output.
abbrev pub Writes : {W : Type 0} → ParsedArgs → KnownFiles → List (Bor (List ℕ)) → Option (List ℕ)
    → (W → Option (List ℕ)) → W → W → Type 0
Writes parsed bytes_of folders left contents old new =
    (text : List ℕ) × IsResult parsed bytes_of folders left text × AppendsTo contents old new text

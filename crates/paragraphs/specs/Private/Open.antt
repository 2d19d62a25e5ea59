-- A word of which some parts are made.
use Rattle.std.specs.Prelude.{◌≡◌, ◌≤◌, ℕ, false, List, ◌∷◌, ◌++◌, Option, Some, None}
use Rattle.std.specs.List.{list_all}
use Rattle.std.specs.Borrow.{Bor}
use Rattle.std.specs.Str.{IsCharBoundary}
use Rattle.std.specs.String.{string_bytes}
use Rattle.hyphenation_breaks.specs.Break.{Break, left_of, begin_of, end_of}
use Rattle.paragraphs.specs.declared.part.Part.{Part}
use Rattle.paragraphs.specs.declared.parting.OpenPart.{OpenPart}
use Rattle.paragraphs.specs.declared.plain.FirstWord.{FirstWord}
use Rattle.paragraphs.specs.declared.style.Indent.{Indent}
use Rattle.paragraphs.specs.declared.style.Style.{Style}
use Rattle.paragraphs.specs.Private.PartSettings.{settings_of}
use Rattle.paragraphs.specs.Private.PartStyles.{indent_of}
use Rattle.paragraphs.specs.Settings.{Setting, is_short}
use Rattle.paragraphs.specs.Styles.{style_of}
use Rattle.paragraphs.specs.Parts.{set_off, parts_from, word_parts, parts_of}
use Rattle.paragraphs.specs.Words.{words}

-- A break of a piece, which is after an offset, lies between two character boundaries of a word.
pub record LiesIn (word : List ℕ) (offset : ℕ) (b : Break) : Type 0 where
  pub within : left_of b.change ≤ b.place
  pub begin : IsCharBoundary word (begin_of (set_off offset b))
  pub end : IsCharBoundary word (end_of (set_off offset b))

-- The text of the word of the part that is being made.
abbrev pub word_of : OpenPart → List ℕ
word_of current = current.word.now.text.now

-- The parts that are made, and those to come, where these breaks are to come.
abbrev pub settings_with : List Part → OpenPart → List Break → List Setting
settings_with parts current breaks =
    settings_of parts
    ++ parts_from (style_of current.word.now.style.now) (word_of current)
    (indent_of current.word.now.style.now current.indent ++ string_bytes current.after) current.from breaks

-- These breaks of a word are passed: the parts that are made, and those to come, stay the same.
pub record Passes (breaks : List Break) (old : List Part) (current : OpenPart) (new : List Part) (next : OpenPart)
    : Type 0 where
  pub word : next.word ≡ current.word
  pub goes : (others : List Break) → settings_with new next others ≡ settings_with old current (breaks ++ others)

-- Parts were added.
abbrev pub AddsParts : List Part → List Part → List Setting → Type 0
AddsParts old new added = settings_of new ≡ settings_of old ++ added

-- The next piece, if there is one, and those after it.
abbrev pub next_then : Option (Bor (List ℕ)) → List (List ℕ) → List (List ℕ)
next_then None others = others
next_then (Some piece) others = piece.now ∷ others

-- The parts of a word that was found. A line that begins with it has this indent.
abbrev pub found_parts : (List ℕ → List Break) → Style → Indent → FirstWord → List Setting
found_parts breaks_of style indent word = word_parts breaks_of (style_of style) (indent_of style indent) word.text.now

-- The parts of a text.
abbrev pub text_parts : (List ℕ → List Break) → Style → List ℕ → List Setting
text_parts breaks_of style text = parts_of breaks_of (style_of style) (words text)

-- A text of one of the parts has 2^31 bytes.
abbrev pub HasLong : List Setting → Type 0
HasLong parts = list_all is_short parts ≡ false

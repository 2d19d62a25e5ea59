-- Statements that are true of all texts.
use Rattle.std.specs.Prelude.{◌≡◌, ℕ, ◌≤◌, Bool, true, List, [], ◌∷◌, ◌++◌, length, Option, Some, None, IsUtf8, ⊤}
use Rattle.std.specs.List.{list_all}
use Rattle.html_pieces.specs.Bytes.{is_white_space}
use Rattle.hyphenation_segments.specs.Laws.{with_marks}
use Rattle.hyphenation_text.specs.Dictionaries.{Breaks, AllAscend}
use Rattle.hyphenation_text.specs.Places.{shifted, text_places}
use Rattle.hyphenation_text.specs.Texts.{marked_text}

-- A text or a page in parts, with nothing or a mark between them: the parts without the marks.
abbrev pub without_marks : List (Option (List ℕ)) → List ℕ
without_marks [] = []
without_marks (Some part ∷ parts) = part ++ without_marks parts
without_marks (None ∷ parts) = without_marks parts

-- The same parts with the marks.
abbrev pub joined_with : List ℕ → List (Option (List ℕ)) → List ℕ
joined_with mark [] = []
joined_with mark (Some part ∷ parts) = part ++ joined_with mark parts
joined_with mark (None ∷ parts) = mark ++ joined_with mark parts

-- The output is the text or the page, in parts, with marks between them. So without the marks it is that, byte for byte.
abbrev pub IsPageWithMarks : List ℕ → List ℕ → List ℕ → Type 0
IsPageWithMarks mark page output =
    (parts : List (Option (List ℕ))) × (without_marks parts ≡ page) × (joined_with mark parts ≡ output)

-- U+00AD in UTF-8.
abbrev pub soft_hyphen : List ℕ
soft_hyphen = 0xC2 ∷ 0xAD ∷ []

-- Any text that has its soft hyphens has no break left, whatever touches it from before and after.
abbrev pub HaveNoneLeft : Breaks → Type 0
HaveNoneLeft breaks = (text : List ℕ) (before after : Bool) → IsUtf8 text
    → text_places breaks before after (with_marks soft_hyphen text (text_places breaks before after text)) ≡ []

-- No place is past n.
abbrev pub Within : ℕ → List ℕ → Type 0
Within n [] = ⊤
Within n (p ∷ ps) = (p ≤ n) × Within n ps

-- The output is the text with marks at places, which are within the text. Without the marks it is the text.
pub record IsMarked (mark text places output : List ℕ) : Type 0 where
  pub is : output ≡ with_marks mark text places
  pub within : Within (length text) places
  pub parts : IsPageWithMarks mark text output

-- Each text is marked at its places, where the breaks of each word ascend on it.
abbrev pub TextsAreMarked : Type 0
TextsAreMarked = (breaks : Breaks) (mark : List ℕ) (before after : Bool) (text : List ℕ) → AllAscend breaks → IsUtf8 text
    → IsMarked mark text (text_places breaks before after text) (marked_text breaks mark before after text)

-- A text is marked at no places, where it is as it was.
abbrev pub AnyIsMarked : Type 0
AnyIsMarked = (mark text : List ℕ) → IsMarked mark text [] text

-- Texts that are marked join to their texts, marked at the places of both.
abbrev pub MarkedTextsJoin : Type 0
MarkedTextsJoin = (mark a b places_of_a places_of_b marked_a marked_b : List ℕ) → IsMarked mark a places_of_a marked_a
    → IsMarked mark b places_of_b marked_b
    → IsMarked mark (a ++ b) (places_of_a ++ shifted (length a) places_of_b) (marked_a ++ marked_b)

-- If the first is true, so is the second.
abbrev pub Implies : Bool → Bool → Type 0
Implies c c' = c ≡ true → c' ≡ true

-- A text that was marked with soft hyphens has no break left, where all that touched the text touches it still.
abbrev pub MarkedTextsHaveNoneLeft : Type 0
MarkedTextsHaveNoneLeft = (breaks : Breaks) (before after before' after' : Bool) (text : List ℕ) → AllAscend breaks
    → IsUtf8 text → Implies before before' → Implies after after'
    → text_places breaks before' after' (marked_text breaks soft_hyphen before after text) ≡ []

-- A text of white space has no breaks.
abbrev pub WhiteSpaceHasNoBreaks : Type 0
WhiteSpaceHasNoBreaks = (breaks : Breaks) (before after : Bool) (text : List ℕ) → list_all is_white_space text ≡ true
    → text_places breaks before after text ≡ []

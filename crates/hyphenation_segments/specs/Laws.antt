-- Laws of all segments, and of breaks that may be listed for a word.
use Rattle.std.specs.Prelude.{◌≡◌, ◌↔◌, ℕ, ◌+◌, ◌≤◌, ◌<◌, ◌^◌, List, map, length, slice_get, Some, [], drop, slice_index_or, take, ◌++◌, ◌∷◌, ⊤, IsTrue}
use Rattle.std.specs.List.{concat}
use Rattle.hyphenation_breaks.specs.Break.{Break, plain_break, has_boundary}
use Rattle.hyphenation_breaks.specs.Invariant.{are_listed, can_be_written_if_any}
use Rattle.hyphenation_segments.specs.Fits.{Fits, BreakFitsAfter}
use Rattle.hyphenation_segments.specs.ChangedSegments.{made_segments}
use Rattle.hyphenation_segments.specs.Segments.{segments, segment_between, marked_segments}

-- The breaks, with the two ends of the text.
abbrev pub with_ends : List ℕ → List Break → List Break
with_ends text breaks = plain_break 0 ∷ (breaks ++ plain_break (length text) ∷ [])

-- The break of a number, counted from 0, or the text's start where there is none.
abbrev pub break_number : List Break → ℕ → Break
break_number breaks number = slice_index_or breaks number (plain_break 0)

-- A text with the mark at each of some ascending places. The mark is put in at the last place first, so that the other
-- places stay right.
abbrev pub with_marks : List ℕ → List ℕ → List ℕ → List ℕ
with_marks mark text [] = text
with_marks mark text (p ∷ ps) = take p text ++ mark ++ drop p (with_marks mark text ps)

-- A segment depends only on its two neighbouring breaks, where the two ends of the text count as breaks.
abbrev pub IsGivenByNeighbours : Type 0
IsGivenByNeighbours = (text : List ℕ) (breaks : List Break) (number : ℕ) → number ≤ length breaks →
    slice_get (segments text breaks) number
    ≡ Some (segment_between text (break_number (with_ends text breaks) number)
    (break_number (with_ends text breaks) (number + 1)))

-- There is one more segment than there are breaks.
abbrev pub AreOneMoreThanBreaks : Type 0
AreOneMoreThanBreaks = (text : List ℕ) (breaks : List Break) → length (segments text breaks) ≡ length breaks + 1

-- Segments at plain breaks that fit the text join to it.
abbrev pub JoinsToText : Type 0
JoinsToText = (text places : List ℕ) → Fits text (map plain_break places)
    → concat (segments text (map plain_break places)) ≡ text

-- Marked segments at plain breaks that fit the text join to it with the mark at each break and nowhere else.
abbrev pub JoinsToMarkedText : Type 0
JoinsToMarkedText =
    (mark text places : List ℕ) → Fits text (map plain_break places)
    → concat (marked_segments mark (segments text (map plain_break places))) ≡ with_marks mark text places

-- The texts of `made_segments` are the segments of the text.
abbrev pub MadeAreSegments : Type 0
MadeAreSegments =
    (text : List ℕ) (breaks : List Break) → map (λ made. made.0) (made_segments text breaks) ≡ segments text breaks

-- Each break fits the text by itself, at a place after the break before it. Their ranges may overlap.
abbrev pub MayBeListed : List ℕ → ℕ → List Break → Type 0
MayBeListed text least [] = ⊤
MayBeListed text least (b ∷ bs) = BreakFitsAfter text 0 least b × MayBeListed text (b.place + 1) bs

-- Each break has the properties that `Break::invariant` states of every break.
abbrev pub MeetInvariant : List Break → Type 0
MeetInvariant [] = ⊤
MeetInvariant (b ∷ bs) = IsTrue (has_boundary b.change) × IsTrue (can_be_written_if_any b.change) × MeetInvariant bs

-- Breaks may be listed for a word exactly where each fits it by itself, in ascending places. All else that `are_listed`
-- tests is true of every word and every break.
abbrev pub ListedWhereEachFits : (B : Type 0) → (B → Break) → Type 0
ListedWhereEachFits B break_of =
    (word : List ℕ) (listed : List B) → length word < 2 ^ 64 → MeetInvariant (map break_of listed)
    → IsTrue (are_listed break_of word listed) ↔ MayBeListed word 0 (map break_of listed)

-- The state of `SegmentsExt`: the segments to come, and the break taken last.
use Rattle.std.specs.Prelude.{◌≡◌, ℕ, ◌||◌, ◌↔◌, Bool, false, List, [], ◌++◌, Option, None, Some, Result, IfOk, IsOk}
use Rattle.std.specs.Cow.{cow_str_bytes, IsBorrowedStr}
use Rattle.std.specs.Option.{is_some}
use Rattle.std.specs.Str.{IsCharBoundary}
use Rattle.std.specs.declared.borrow.CowStr.{CowStr}
use Rattle.hyphenation_breaks.specs.Break.{Break, Change, plain_break, end_of, before_of, after_of}
use Rattle.hyphenation_segments.specs.Fits.{FitsFrom}
use Rattle.hyphenation_segments.specs.ChangedSegments.{made_segments_after}

-- The break taken last, or the start of the text where none was taken.
abbrev pub last_break : Option Break → Break
last_break None = plain_break 0
last_break (Some b) = b

-- The segments to come. The start is where the range of the last break ended; there is none after the last segment.
abbrev pub made_segments_from : List ℕ → Option ℕ → Option Break → List Break → List (List ℕ × Bool)
made_segments_from text None last breaks = []
made_segments_from text (Some start) last breaks = made_segments_after text (last_break last) breaks

-- The breaks to come fit the text after the last break, whose range ends at the start. After the last segment there are
-- none.
abbrev pub FitsAfterLast : List ℕ → Option ℕ → Option Break → List Break → Type 0
FitsAfterLast text None last breaks = breaks ≡ []
FitsAfterLast text (Some start) last breaks =
    (start ≡ end_of (last_break last)) × IsCharBoundary text start
    × FitsFrom text start ((last_break last).place) breaks

-- The change of a break, where there is a break and it has one.
abbrev pub change_if_any : Option Break → Option Change
change_if_any None = None
change_if_any (Some b) = b.change

-- A result is the segment between two changes, either of which may be missing. Without any change it is borrowed, and
-- never an error.
pub record IsSegmentBetween {Z E : Type 0} (last : Option Change) (middle : List ℕ) (next : Option Change)
    (made : Result (CowStr Z) E) : Type 0 where
  pub value : IfOk made (λ segment. cow_str_bytes segment ≡ after_of last ++ middle ++ before_of next)
  pub borrowed : IfOk made (λ segment. IsBorrowedStr segment ↔ (is_some last || is_some next ≡ false))
  pub given : is_some last || is_some next ≡ false → IsOk made

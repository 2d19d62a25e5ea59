-- The segments of a text at breaks that may change it, and how they are made.
use Rattle.std.specs.Prelude.{◌≡◌, ℕ, ◌||◌, ◌↔◌, Bool, false, List, [], ◌∷◌, length, Option, None, Some, MatchOption, Result, Ok, Err, IfOk, IsOk}
use Rattle.std.specs.Cow.{cow_str_bytes, IsBorrowedStr}
use Rattle.std.specs.declared.borrow.CowStr.{CowStr}
use Rattle.hyphenation_breaks.specs.Break.{Break, plain_break, is_changed}
use Rattle.hyphenation_segments.specs.Segments.{segment_between}

-- The segments after a break, each with whether it is made anew: whether a break next to it has a change.
abbrev pub made_segments_after : List ℕ → Break → List Break → List (List ℕ × Bool)
made_segments_after text last [] = (segment_between text last (plain_break (length text)), is_changed last) ∷ []
made_segments_after text last (b ∷ bs) =
    (segment_between text last b, is_changed last || is_changed b) ∷ made_segments_after text b bs

-- All segments of a text, each with whether it is made anew.
abbrev pub made_segments : List ℕ → List Break → List (List ℕ × Bool)
made_segments text breaks = made_segments_after text (plain_break 0) breaks

-- The first segment to come is taken, and returned or replaced by an error. It is borrowed exactly where it is not made
-- anew, and then never an error. At the end `None` is returned, and the end stays.
abbrev pub YieldsMade : {Z E : Type 0} → List (List ℕ × Bool) → Option (Result (CowStr Z) E) → List (List ℕ × Bool)
    → Type 0
YieldsMade old item new =
    MatchOption item ((old ≡ []) × (new ≡ []))
    (λ x.
    (first : List ℕ × Bool) × (old ≡ first ∷ new)
    × IfOk x (λ segment. (cow_str_bytes segment ≡ first.0) × (IsBorrowedStr segment ↔ (first.1 ≡ false)))
    × (first.1 ≡ false → IsOk x))

-- The text of a segment, or `None` where it is an error.
abbrev pub text_if_made : {Z E : Type 0} → Result (CowStr Z) E → Option (List ℕ)
text_if_made (Ok segment) = Some (cow_str_bytes segment)
text_if_made (Err error) = None

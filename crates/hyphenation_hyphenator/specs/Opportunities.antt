-- The places at which words may be broken.
-- Source of odd values, and of exceptions, which come before patterns: F. M. Liang, Word Hy-phen-a-tion by Com-put-er
-- (1983). Source of bounds, soft hyphens and words with capitals: the documentation of the Rust crate `hyphenation`.
use Rattle.std.specs.Prelude.{◌≡◌, ℕ, ◌%◌, ◌==◌, ◌&&◌, nat_le, nat_eq, Bool, if◌then◌else◌, List, [], length, map, filter, Option, None, Result, IfOk, IsTrue}
use Rattle.std.specs.Option.{option_map, option_and_then, option_map_or, unwrap_or}
use Rattle.std.specs.Cmp.Lexicographic.{pointwise}
use Rattle.std.specs.FinMap as finite
use Rattle.std.specs.declared.vec.Vec.{Vec}
use Rattle.hyphenation_breaks.specs.Break.{Break, Change, plain_break, break_at, ascend_on}
use Rattle.hyphenation_breaks.specs.Dictionary.{Contents, Patterns, entries_of_keys}
use Rattle.hyphenation_hyphenator.specs.Boundaries.{boundaries}
use Rattle.hyphenation_hyphenator.specs.Folding.{fold_case, carried_back}
use Rattle.hyphenation_score.specs.Scoring.{places, value_at, winner_at, own_change}
use Rattle.hyphenation_hyphenator.specs.SoftHyphens.{soft_hyphens}

-- The parts of a dictionary that decide where words may be broken: minima, the listed breaks of exceptions, and the
-- breaks that patterns allow.
pub record Rules : Type 0 where
  pub minima : ℕ × ℕ
  pub listed : List ℕ → Option (List Break)
  pub allowed : List ℕ → List Break

-- ---- the rules of a dictionary

-- A value allows a break where it is odd.
abbrev pub is_odd : ℕ → Bool
is_odd value = value % 2 == 1

-- A place is no less than the first bound and no greater than the second.
abbrev pub within : ℕ × ℕ → ℕ → Bool
within bounds place = nat_le bounds.0 place && nat_le place bounds.1

-- An entry of a standard dictionary carries no change.
abbrev pub no_change : {C : Type 0} → C → Option Change
no_change _ = None

-- A listed break of an extended dictionary is a place with a change or none.
abbrev pub own_break : ℕ × Option Change → Break
own_break listed = break_at listed.0 listed.1

-- The break at a place, with the change of the place's winner, or none.
abbrev pub winning_break : {C : Type 0} → (C → Option Change) → Patterns C → List ℕ → ℕ → Break
winning_break change_of keys word place =
    record { place = place; change = option_and_then (λ entry. change_of entry.change) (winner_at keys word place) }

-- A break at each place with an odd value.
unfoldable pub breaks_at_odd_values : {C : Type 0} → (C → Option Change) → Patterns C → List ℕ → List Break
breaks_at_odd_values change_of keys word =
    map (winning_break change_of keys word) (filter (λ place. is_odd (value_at keys word place)) (places word))

-- The rules of a dictionary, by the change that an entry carries and the break that a listing means.
abbrev pub rules_of : {C B : Type 0} → (C → Option Change) → (B → Break) → Contents C B → Rules
rules_of change_of break_of contents = record {
  minima = (contents.left, contents.right);
  listed = λ word. option_map (map break_of) (finite.get contents.exceptions word);
  allowed = breaks_at_odd_values change_of (entries_of_keys contents);
}

-- The rules of a standard dictionary.
abbrev pub standard_rules : {C : Type 0} → Contents C ℕ → Rules
standard_rules contents = rules_of no_change plain_break contents

-- The rules of an extended dictionary.
abbrev pub extended_rules : Contents (Option Change) (ℕ × Option Change) → Rules
extended_rules contents = rules_of own_change own_break contents

-- ---- breaks by rules

-- The breaks whose places are within bounds, in their order.
abbrev pub breaks_within : List Break → ℕ × ℕ → List Break
breaks_within breaks bounds = filter (λ b. within bounds b.place) breaks

-- The breaks by patterns within bounds.
abbrev pub by_patterns : Rules → List ℕ → ℕ × ℕ → List Break
by_patterns rules word bounds = breaks_within (rules.allowed word) bounds

-- The breaks by exception within bounds, or `None` where the word is no exception.
abbrev pub by_exception : Rules → List ℕ → ℕ × ℕ → Option (List Break)
by_exception rules word bounds = option_map (λ listed. breaks_within listed bounds) (rules.listed word)

-- The boundaries of a word by the minima, or `None` where it has too few characters.
abbrev pub boundaries_by : Rules → List ℕ → Option (ℕ × ℕ)
boundaries_by rules word = boundaries rules.minima.0 rules.minima.1 word

-- The breaks by exception within the boundaries, or `None` where the word has no boundaries or is no exception.
abbrev pub exception_within_boundaries : Rules → List ℕ → Option (List Break)
exception_within_boundaries rules word = option_and_then (by_exception rules word) (boundaries_by rules word)

-- The breaks within bounds: only by exception where the word is one, and else by patterns.
abbrev pub opportunities_in : Rules → List ℕ → ℕ × ℕ → List Break
opportunities_in rules word bounds = unwrap_or (by_exception rules word bounds) (by_patterns rules word bounds)

-- The opportunities of a lowercase word: the breaks within its boundaries. There are none where it has no boundaries.
unfoldable pub opportunities : Rules → List ℕ → List Break
opportunities rules word = option_map_or (opportunities_in rules word) (boundaries_by rules word) []

-- A break of the folded word, carried back to the word as written.
abbrev pub break_carried_back : List ℕ → Break → Break
break_carried_back word b = record { place = carried_back word b.place; change = b.change }

-- The breaks of a word as written: where its soft hyphens begin, if it has any; else the breaks of the folded word,
-- carried back.
unfoldable pub breaks_as_written : List ℕ → List Break → List Break
breaks_as_written word folded =
    if length (soft_hyphens word) == 0
    then map (break_carried_back word) folded
    else map plain_break (soft_hyphens word)

-- The breaks of a word as written: all opportunities of the folded word, carried back.
abbrev pub all_breaks_of : Rules → List ℕ → List Break
all_breaks_of rules word = breaks_as_written word (opportunities rules (fold_case word))

-- ---- facts of breaks and rules

-- A result has these breaks, unless it is an error.
abbrev pub HasBreaks : {X Z E : Type 0} → (X → Break) → Result (Vec X Z) E → List Break → Type 0
HasBreaks meaning result breaks = IfOk result (λ found. map meaning found.items ≡ breaks)

-- A result has these breaks or none, unless it is an error.
abbrev pub HasBreaksIfAny : {X Z E : Type 0} → (X → Break) → Result (Option (Vec X Z)) E → Option (List Break) → Type 0
HasBreaksIfAny meaning result breaks = IfOk result (λ found. option_map (λ v. map meaning v.items) found ≡ breaks)

-- The places of the breaks ascend strictly, each on a character boundary of the text. So no break splits a character.
abbrev pub Ascending : List ℕ → List Break → Type 0
Ascending text breaks = IsTrue (ascend_on text 0 (map (λ b. b.place) breaks))

-- The word now has this list, or is no exception where there is no list. All else of the rules is as before.
pub record ListsOnly (old new : Rules) (word : List ℕ) (list : Option (List Break)) : Type 0 where
  pub minima : new.minima ≡ old.minima
  pub listed : (other : List ℕ) → new.listed other ≡ (if pointwise nat_eq word other then list else old.listed other)
  pub allowed : (other : List ℕ) → new.allowed other ≡ old.allowed other

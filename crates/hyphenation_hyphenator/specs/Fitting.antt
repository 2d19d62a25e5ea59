-- Keeping the breaks of a folded word that fit the word as written. A change is written for letters of the folded word,
-- and applies to the same letters as written only where these take the same bytes.
use Rattle.std.specs.Prelude.{◌≡◌, All, ℕ, ◌&&◌, not, nat_le, nat_lt, Bool, if◌then◌else◌, List, [], ◌∷◌, ◌++◌, length, chars}
use Rattle.std.specs.List as lists
use Rattle.std.specs.List.{list_any, list_all, range_with_len}
use Rattle.hyphenation_breaks.specs.Break.{Break, left_of, begin_of, end_of}
use Rattle.hyphenation_hyphenator.specs.Folding.{fold_case, carried_back, changes_length}
use Rattle.hyphenation_hyphenator.specs.Opportunities.{Rules, opportunities, break_carried_back, breaks_as_written}
use Rattle.hyphenation_hyphenator.specs.Places.{place_of_character}

-- A character whose number of bytes the folding changed begins in the folded word at begin or later, and before end.
abbrev pub holds_length_change : List ℕ → ℕ → ℕ → Bool
holds_length_change word begin end =
    list_any (λ j. changes_length word j &&
    (nat_le begin (place_of_character (fold_case word) j) && nat_lt (place_of_character (fold_case word) j) end))
    (range_with_len 0 (length (chars word)))

-- The range of a break lies in the folded word, and the folding changed the number of bytes of no character in it.
abbrev pub range_keeps_lengths : List ℕ → Break → Bool
range_keeps_lengths word b =
    nat_le (left_of b.change) b.place && nat_le (end_of b) (length (fold_case word))
    && not (holds_length_change word (begin_of b) (end_of b))

-- The range of a break begins at or after the end of the range of each other break.
abbrev pub is_after : List Break → Break → Bool
is_after others b = list_all (λ other. nat_le (end_of other) (begin_of b)) others

-- One more break is kept where it passes the test and its range is after those of the breaks kept before it.
abbrev pub keep_break : (Break → Bool) → List Break → Break → List Break
keep_break test kept b = if test b && is_after kept b then kept ++ b ∷ [] else kept

-- The breaks that are kept, decided from the first to the last.
unfoldable pub kept_breaks : (Break → Bool) → List Break → List Break
kept_breaks test breaks = lists.fold (keep_break test) [] breaks

-- The breaks of the folded word that are kept.
unfoldable pub fitted_breaks : List ℕ → List Break → List Break
fitted_breaks word breaks = kept_breaks (range_keeps_lengths word) breaks

-- The breaks of a word as written: the opportunities of the folded word that are kept, carried back.
unfoldable pub fitted_breaks_of : Rules → List ℕ → List Break
fitted_breaks_of rules word = breaks_as_written word (fitted_breaks word (opportunities rules (fold_case word)))

-- The ends of a break's range, carried back, are the ends of the range of the break carried back. So the range has as
-- many bytes in the word as written.
abbrev pub KeepsRange : List ℕ → Break → Type 0
KeepsRange word b =
    (carried_back word (begin_of b) ≡ begin_of (break_carried_back word b))
    × (carried_back word (end_of b) ≡ end_of (break_carried_back word b))

-- The range of each break of the folded word that is kept has as many bytes in the word as written.
abbrev pub KeepRanges : Rules → List ℕ → Type 0
KeepRanges rules word = All (KeepsRange word) (fitted_breaks word (opportunities rules (fold_case word)))

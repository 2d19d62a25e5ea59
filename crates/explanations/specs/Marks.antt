-- The values of a picture: what is at each place of a row.
use Rattle.std.specs.Prelude.{ℕ, ◌-◌, ◌==◌, false, if◌then◌else◌, List, find, Option, Some, None, option_map, slice_get}
use Rattle.hyphenation_breaks.specs.Break.{is_boundary}
use Rattle.hyphenation_breaks.specs.declared.entry.Entry.{Entry}
use Rattle.hyphenation_score.specs.Scoring.{Scored}
use Rattle.explanations.specs.Rows.{PatternRow}
use Rattle.explanations.specs.declared.marks.Mark.{Mark}

-- The value that entries have at a place.
abbrev pub entry_value : {C : Type 0} → List (Entry C) → ℕ → Option ℕ
entry_value entries place = option_map (λ entry. entry.value) (find (λ entry. entry.place == place) entries)

-- The value of a word's place between two characters, by the scores of the places from place 1 on.
abbrev pub score_value : List ℕ → List Scored → ℕ → Option ℕ
score_value word scores place =
    if is_boundary word place
    then (if place == 0 then None else option_map (λ score. score.value) (slice_get scores (place - 1)))
    else None

-- A value of a score.
abbrev pub score_mark : ℕ → Mark
score_mark value = record { value = value; wins = false }

-- A value of a pattern: it is marked where it is the greatest of its place of the word.
abbrev pub pattern_mark : Option ℕ → ℕ → Mark
pattern_mark None value = record { value = value; wins = false }
pattern_mark (Some greatest) value = record { value = value; wins = greatest == value }

-- The value of a row at a place of the frame. Without a pattern it is the greatest value there.
unfoldable pub mark_at : {C : Type 0} → List ℕ → List Scored → Option (PatternRow C) → ℕ → Option Mark
mark_at folded scores None place = option_map score_mark (score_value folded scores (place - 1))
mark_at folded scores (Some row) place =
    option_map (pattern_mark (score_value folded scores (place - 1))) (entry_value row.entries (place - row.start))

-- The facts about a word's breaks as lines for programs. A line has a name and fields, each field after a tab.
use Rattle.std.specs.Prelude.{ℕ, ◌+◌, List, [], ◌∷◌, ◌++◌, codes, Option, Some, None, decimal, slice_range, flat_map}
use Rattle.hyphenation_breaks.specs.Break.{Break, Change}
use Rattle.hyphenation_breaks.specs.declared.entry.Entry.{Entry}
use Rattle.hyphenation_score.specs.Scoring.{Scored}
use Rattle.explanations.specs.Facts.{Facts}
use Rattle.explanations.specs.Fields.{field_text}
use Rattle.explanations.specs.Rows.{PatternRow}
use Rattle.explanations.specs.declared.facts.Decision.{Decision}
use Rattle.explanations.specs.declared.facts.Decision.TheVariants.{SoftHyphens, TooShort, Exception, Patterns}

-- The numbers of a change: the bytes before and after the place, and the breakpoint.
abbrev pub change_numbers : Change → List ℕ
change_numbers change =
    codes ":" ++ (decimal change.left ++ (codes "," ++ (decimal change.right ++ (codes "," ++ (decimal change.breakpoint ++ codes ",")))))

-- A change in a field after its place or value: its numbers and the substitution. Nothing without a change.
abbrev pub change_text : Option Change → List ℕ
change_text None = []
change_text (Some change) = change_numbers change ++ field_text change.substitution

-- A field of a number, in decimal.
abbrev pub number_field : ℕ → List ℕ
number_field number = codes "\t" ++ decimal number

-- A field of a place, with its change.
unfoldable pub place_field : ℕ → Option Change → List ℕ
place_field place change = number_field place ++ change_text change

-- A field of a value at a place, with its change.
unfoldable pub value_field : ℕ → ℕ → Option Change → List ℕ
value_field place value change = number_field place ++ (codes ":" ++ (decimal value ++ change_text change))

-- A field of an entry.
abbrev pub entry_field : {C : Type 0} → (C → Option Change) → Entry C → List ℕ
entry_field change_of entry = value_field entry.place entry.value (change_of entry.change)

-- A line of a name and fields.
abbrev pub named_line : List ℕ → List ℕ → List ℕ
named_line name fields = name ++ (fields ++ codes "\n")

-- A line of a name and one field, which has a text.
unfoldable pub text_line : List ℕ → List ℕ → List ℕ
text_line name field = name ++ (codes "\t" ++ (field_text field ++ codes "\n"))

-- The line of a pattern that occurs in the frame: its start, its number of bytes, its text and its entries.
unfoldable pub pattern_line : {C : Type 0} → (C → Option Change) → List ℕ → PatternRow C → List ℕ
pattern_line change_of framed row =
    codes "pattern" ++ (number_field row.start ++ (number_field row.bytes
    ++ (codes "\t" ++ (field_text (slice_range framed row.start (row.start + row.bytes))
    ++ (flat_map (entry_field change_of) row.entries ++ codes "\n")))))

-- The fields of scores, the first one at this place.
abbrev pub score_fields : ℕ → List Scored → List ℕ
score_fields place [] = []
score_fields place (score ∷ scores) = value_field place score.value score.change ++ score_fields (place + 1) scores

-- The line of the scores of all places, from place 1 on.
unfoldable pub score_line : List Scored → List ℕ
score_line scores = named_line (codes "score") (score_fields 1 scores)

-- A field of a place without a change.
abbrev pub plain_field : ℕ → List ℕ
plain_field place = place_field place None

-- A line of a name and places.
unfoldable pub places_line : List ℕ → List ℕ → List ℕ
places_line name places = named_line name (flat_map plain_field places)

-- The line of the bounds, which has no field without bounds.
abbrev pub bounds_line : Option (ℕ × ℕ) → List ℕ
bounds_line None = places_line (codes "bounds") []
bounds_line (Some bounds) = places_line (codes "bounds") (bounds.0 ∷ bounds.1 ∷ [])

-- A field of a break: its place with its change.
abbrev pub break_field : Break → List ℕ
break_field b = place_field b.place b.change

-- The line of the listed breaks; none if the word is no exception.
unfoldable pub exception_line : Option (List Break) → List ℕ
exception_line None = []
exception_line (Some listed) = named_line (codes "exception") (flat_map break_field listed)

-- The name of the fact that decides.
abbrev pub decision_name : Decision → List ℕ
decision_name SoftHyphens = codes "soft-hyphens"
decision_name TooShort = codes "minima"
decision_name Exception = codes "exception"
decision_name Patterns = codes "patterns"

-- The lines of a word, its patterns and its scores.
unfoldable pub word_lines : {C : Type 0} → (C → Option Change) → Facts C → List ℕ
word_lines change_of facts =
    text_line (codes "word") facts.word ++ (text_line (codes "folded") facts.folded
    ++ (flat_map (pattern_line change_of facts.framed) facts.rows ++ score_line facts.scores))

-- The lines of where the minima, soft hyphens and an exception allow breaks.
unfoldable pub limit_lines : {C : Type 0} → Facts C → List ℕ
limit_lines facts =
    places_line (codes "minima") (facts.minima.0 ∷ facts.minima.1 ∷ []) ++ (bounds_line facts.bounds
    ++ (places_line (codes "soft-hyphens") facts.soft_hyphens ++ exception_line facts.listed))

-- The lines for programs.
abbrev pub lines_of : {C : Type 0} → (C → Option Change) → Facts C → List ℕ
lines_of change_of facts =
    word_lines change_of facts ++ (limit_lines facts
    ++ (text_line (codes "decided-by") (decision_name facts.decision)
    ++ (places_line (codes "breaks") facts.places ++ text_line (codes "hyphenated") facts.hyphenated)))

-- The kind of a dictionary text.
use Rattle.std.specs.Prelude.{◌||◌, ℕ, Bool, List, [], if◌then◌else◌, Option, Some, None, slice_index_or, unwrap_or}
use Rattle.hyphenation_grammar.specs.Form.{head_of}
use Rattle.hyphenation_grammar.specs.Lines.{is_same, lines_of}
use Rattle.hyphenation_grammar.specs.declared.form.Kind.{Kind}
use Rattle.hyphenation_grammar.specs.declared.form.Kind.TheVariants.{Standard, Extended}
use Rattle.hyphenation_grammar.specs.declared.form.Version.TheVariants.{First, Second}

-- The line is line 1 of a text of that kind, of either version.
abbrev pub is_head_of : Kind → List ℕ → Bool
is_head_of kind line = is_same line (head_of kind First) || is_same line (head_of kind Second)

-- The kind that a first line names; none if it is not that of a dictionary text.
abbrev pub kind_by_head : List ℕ → Option Kind
kind_by_head line =
    if is_head_of Standard line then Some Standard else (if is_head_of Extended line then Some Extended else None)

-- The kind that the first line of a text names.
abbrev pub kind_of : List ℕ → Option Kind
kind_of text = kind_by_head (slice_index_or (lines_of text) 0 [])

-- The kind as which a text is read. A text of no kind is read as a standard one, and is refused for its first line.
abbrev pub kind_in : List ℕ → Kind
kind_in text = unwrap_or (kind_of text) Standard

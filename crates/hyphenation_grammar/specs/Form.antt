-- The forms of dictionary texts.
use Rattle.std.specs.Prelude.{ℕ, List, [], codes, if◌then◌else◌, slice_index_or, Option, Some, None}
use Rattle.hyphenation_grammar.specs.Lines.{is_same}
use Rattle.hyphenation_grammar.specs.declared.form.Form.{Form}
use Rattle.hyphenation_grammar.specs.declared.form.Kind.{Kind}
use Rattle.hyphenation_grammar.specs.declared.form.Kind.TheVariants.{Standard, Extended}
use Rattle.hyphenation_grammar.specs.declared.form.Version.{Version}
use Rattle.hyphenation_grammar.specs.declared.form.Version.TheVariants.{First, Second}

-- The kind of a name; none for any other name.
abbrev pub kind_of_name : List ℕ → Option Kind
kind_of_name name =
    if is_same name (codes "standard") then Some Standard
    else (if is_same name (codes "extended") then Some Extended else None)

-- Line 1 of a text, by kind and version.
abbrev pub head_of : Kind → Version → List ℕ
head_of Standard First = codes "hyphenation 1 standard"
head_of Standard Second = codes "hyphenation 2 standard"
head_of Extended First = codes "hyphenation 1 extended"
head_of Extended Second = codes "hyphenation 2 extended"

-- Line 1 of a text of that form.
abbrev pub head_line : Form → List ℕ
head_line form = head_of form.kind form.version

-- The version that a first line names in a text of that kind. Any other line counts as the first version.
abbrev pub version_by : Kind → List ℕ → Version
version_by kind line = if is_same line (head_of kind Second) then Second else First

-- The version that the first of the lines names; the first version if there are no lines.
abbrev pub version_of : Kind → List (List ℕ) → Version
version_of kind lines = version_by kind (slice_index_or lines 0 [])

-- The form of a text of that kind, by its lines.
abbrev pub form_of : Kind → List (List ℕ) → Form
form_of kind lines = record { kind = kind; version = version_of kind lines }

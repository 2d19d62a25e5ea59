-- The values of private structs in the words of the definitions.
use Rattle.std.specs.Prelude.{◌≡◌, ℕ, ◌<◌, ◌++◌, All, fold, List, Option, Some, None, option_map, Bool, Result, Ok, Err}
use Rattle.std.specs.declared.vec.Vec.{Vec}
use Rattle.hyphenation_breaks.specs.declared.entry.Entry.{Entry}
use Rattle.pattern_results.specs.Notes.{Remark, with_remark}
use Rattle.pattern_results.specs.Parts.{SpeltWords}
use Rattle.pattern_results.specs.declared.notes.Note.{Note}
use Rattle.libreoffice_files.specs.LibreOfficeLines as lines
use Rattle.libreoffice_files.specs.LibreOfficeLines.{DicLine}
use Rattle.libreoffice_files.specs.LibreOfficePatterns.{Spelt}
use Rattle.libreoffice_files.specs.LibreOffice as libreoffice
use Rattle.libreoffice_files.specs.Notes as notes
use Rattle.libreoffice_files.specs.declared.dic_notes.LinePattern.{LinePattern}
use Rattle.libreoffice_files.specs.declared.change.PlacedChange.{PlacedChange}
use Rattle.libreoffice_files.specs.declared.dic.Encoded.{Encoded}
use Rattle.libreoffice_files.specs.declared.dic_patterns.Pattern.{Pattern}
use Rattle.libreoffice_files.specs.declared.lines.Line.{Line}
use Rattle.libreoffice_files.specs.declared.lines.FileSettings.{FileSettings}
use Rattle.pattern_results.specs.declared.notes.NoteKind.{NoteKind}

-- A line in the words of the definitions.
abbrev pub line_view : Line → DicLine
line_view line = record { number = line.number; kind = line.kind; text = line.text.now }

-- Settings in the words of the definitions.
abbrev pub settings_view : FileSettings → lines.FileSettings
settings_view settings = record {
  left = option_map (λ text. text.now) settings.left;
  right = option_map (λ text. text.now) settings.right;
  no_hyphen = option_map (λ text. text.now) settings.no_hyphen;
}

-- Bytes with their charset, in the words of the definitions.
abbrev pub encoded_view : Encoded → libreoffice.Encoded
encoded_view coded = record { charset = coded.charset; first = coded.first; bytes = coded.bytes.now }

-- A pattern in the words of the definitions.
abbrev pub spelt_view : Pattern → Spelt
spelt_view pattern = record { values = pattern.values.items; change = pattern.change }

-- A key with its pattern.
abbrev pub keyed_view : {Z : Type 0} → Vec ℕ Z × Pattern → List ℕ × Spelt
keyed_view keyed = (keyed.0.items, spelt_view keyed.1)

-- A key with its pattern, on a line.
abbrev pub on_line : {Z : Type 0} → ℕ → Vec ℕ Z × Pattern → notes.LinePattern
on_line line keyed = record { key = keyed.0.items; spelt = spelt_view keyed.1; line = line }

-- Notes get remarks.
abbrev pub AddsRemarks : List Note → List Note → List Remark → Type 0
AddsRemarks old new remarks = new ≡ fold with_remark old remarks

-- A pattern on a line, in the words of the definitions.
abbrev pub as_on_line : LinePattern → notes.LinePattern
as_on_line one = record { key = one.key.items; spelt = spelt_view one.pattern; line = one.line }

-- The change of a pattern, if it can be carried.
abbrev pub change_kept : Result (PlacedChange × Bool) NoteKind → Option PlacedChange
change_kept (Ok found) = Some found.0
change_kept (Err what) = None

-- The values are below 255.
abbrev pub has_small_values : Spelt → Type 0
has_small_values spelt = All (λ v. v.value < 255) spelt.values

-- Keys with their entries, after those that are there.
abbrev pub with_keys : {C B : Type 0} → SpeltWords C B → List (List ℕ × List (Entry C)) → SpeltWords C B
with_keys before keys = record { patterns = before.patterns ++ keys; exceptions = before.exceptions }

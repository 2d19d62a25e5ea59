-- The notes on files: what each remark on a line adds to them.
use Rattle.std.specs.Prelude.{ℕ, ◌+◌, ◌-◌, ◌^◌, ◌==◌, ◌&&◌, Bool, if◌then◌else◌, List, [], ◌∷◌, ◌++◌, Option, Some, None, fold, min, nat_lt, position, slice_index_or, slice_set}
use denote.Enum.Bare.{sameb}
use Rattle.pattern_results.specs.contracts.notes.NoteKind.{the_type}
use Rattle.pattern_results.specs.declared.notes.LineRef.{LineRef}
use Rattle.pattern_results.specs.declared.notes.Note.{Note}
use Rattle.pattern_results.specs.declared.notes.NoteKind.{NoteKind}

-- Whether two remarks are of one kind.
unfoldable pub is_same_kind : NoteKind → NoteKind → Bool
is_same_kind = sameb the_type

-- A remark: its kind, and the line that it is made on.
pub record Remark : Type 0 where
  pub kind : NoteKind
  pub at : LineRef

-- The first line of a note and of one remark more: the least one in the file of the note.
abbrev pub earlier_line : LineRef → LineRef → LineRef
earlier_line first at = if at.file == first.file && nat_lt at.line first.line then at else first

-- The note of the first remark of its kind.
abbrev pub first_note : Remark → Note
first_note remark = record { kind = remark.kind; first = remark.at; times = 1 }

-- A note after one remark more of its kind. Its count stays at the greatest number of 64 bits.
abbrev pub counted_note : Remark → Note → Note
counted_note remark note = record {
  kind = note.kind;
  first = earlier_line note.first remark.at;
  times = min (note.times + 1) (2 ^ 64 - 1);
}

-- Notes after one remark more, by the place of the note of its kind. Where there is none, its note comes last.
abbrev pub noted_at : List Note → Remark → Option ℕ → List Note
noted_at notes remark None = notes ++ first_note remark ∷ []
noted_at notes remark (Some place) =
    slice_set notes place (counted_note remark (slice_index_or notes place (first_note remark)))

-- Notes after one remark more.
abbrev pub with_remark : List Note → Remark → List Note
with_remark notes remark = noted_at notes remark (position (λ note. is_same_kind note.kind remark.kind) notes)

-- The notes of remarks, in the order in which they are made.
abbrev pub notes_of : List Remark → List Note
notes_of remarks = fold with_remark [] remarks

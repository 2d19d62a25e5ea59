-- The messages of the faults of files, and of the remarks on them.
use Rattle.std.specs.Prelude.{ℕ, List, codes}
use Rattle.pattern_results.specs.declared.errors.FileCause.{FileCause}
use Rattle.pattern_results.specs.declared.errors.FileCause.TheVariants as fault
use Rattle.pattern_results.specs.declared.notes.NoteKind.{NoteKind}
use Rattle.pattern_results.specs.declared.notes.NoteKind.TheVariants as note

-- The message of each fault.
abbrev pub fault_message : FileCause → List ℕ
fault_message fault.Command = codes "a TeX command or group within patterns or exceptions"
fault_message fault.Caret = codes "^, a character of a font's encoding: take the file in UTF-8"
fault_message fault.Symbol = codes "a sign that stands in no pattern or exception"
fault_message fault.TwoInOnePlace = codes "two digits or two hyphens in one place"
fault_message fault.NoLetters = codes "a pattern without letters"
fault_message fault.NotUtf8 = codes "not UTF-8"
fault_message fault.Input = codes "\\input: give the files that have the patterns themselves"
fault_message fault.Unclosed = codes "the group of patterns or exceptions that begins here is not closed"
fault_message fault.Charset = codes "no charset that is known here"
fault_message fault.NotInCharset = codes "a byte that stands for no character in the charset of line 1"
fault_message fault.Minimum = codes "not a minimum, which is a number from 0 to 255"
fault_message fault.Nothing = codes "no pattern and no exception in the file"

-- The message of each remark.
abbrev pub note_message : NoteKind → List ℕ
note_message note.Setting = codes "a setting that a dictionary text can't say, left out"
note_message note.NoLevels =
    codes "no NEXTLEVEL: the breaks that LibreOffice itself adds at - and ' are not there"
note_message note.TwoLevels =
    codes "two levels, joined: LibreOffice hyphenates parts of compounds apart, so its breaks may differ"
note_message note.NoMinima = codes "no minima in the file: 2 and 2, as LibreOffice takes them"
note_message note.NoHyphen = codes "NOHYPHEN: said by patterns with the value 8 at both sides"
note_message note.NoCharset =
    codes "no charset on line 1: read as ISO8859-1, as in LibreOffice, and line 1 as any other"
note_message note.HidesValue =
    codes "a pattern that hides a shorter one from LibreOffice, so its breaks may differ"
note_message note.ChangeForbidden = codes "a pattern with a change: a standard dictionary forbids that break"
note_message note.ChangeNumber = codes "a change with a bad number, left out with its pattern"
note_message note.ChangeParts = codes "a change with a wrong number of parts, left out with its pattern"
note_message note.ChangeWithoutEquals = codes "a change without exactly one =, left out with its pattern"
note_message note.ChangePastKey = codes "a change past the pattern's letters, left out with its pattern"
note_message note.ChangeWithoutValue = codes "a change with no odd value in its range, left out with its pattern"
note_message note.ChangeOfSeveral = codes "a change with several odd values in its range: it goes to one of them"
note_message note.TwoValues = codes "two values in one place: the last is taken"
note_message note.NoLetters = codes "a pattern without letters, left out"
note_message note.NoValue = codes "a pattern without values, kept; it bears on nothing"
note_message note.Repeated = codes "a repeated pattern: the last is taken"
note_message note.Capital = codes "a pattern or an exception with capitals: read in small letters"
note_message note.ExceptionRepeated = codes "a repeated exception: the last is taken"

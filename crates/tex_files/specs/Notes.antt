-- The remarks on the words of files, and the notes that they give.
use Rattle.std.specs.Prelude.{ℕ, ◌+◌, ◌==◌, Bool, true, false, not, List, [], ◌∷◌, ◌++◌, filter, length, map}
use Rattle.std.specs.List.{flat_map, list_any}
use Rattle.std.specs.Str.{bytes_eq}
use Rattle.pattern_results.specs.Notes.{Remark, notes_of}
use Rattle.pattern_results.specs.declared.notes.LineRef.{LineRef}
use Rattle.pattern_results.specs.declared.notes.Note.{Note}
use Rattle.pattern_results.specs.declared.notes.NoteKind.{NoteKind}
use Rattle.pattern_results.specs.declared.notes.NoteKind.TheVariants.{Capital, ExceptionRepeated, NoValue, Repeated}
use Rattle.tex_files.specs.Converting.{words_of}
use Rattle.tex_files.specs.Groups.{GroupWord}
use Rattle.tex_files.specs.Spelling.{folded_text, says_place}
use Rattle.tex_files.specs.declared.group.File.{File}
use Rattle.tex_files.specs.declared.group.Group.{Group}
use Rattle.tex_files.specs.declared.group.Group.TheVariants.{Exceptions, Patterns}

-- A word of a file, and the number of its file, counted from 0.
pub record FileWord : Type 0 where
  pub file : ℕ
  pub word : GroupWord

-- The words of files, of which the first one has that number.
abbrev pub words_from : ℕ → List File → List FileWord
words_from number [] = []
words_from number (file ∷ files) =
    map (λ word. record { file = number; word = word }) (words_of file.form file.bytes.now)
    ++ words_from (number + 1) files

-- The letters of a word, in small letters: all but its digits or hyphens.
abbrev pub letters_in : GroupWord → List ℕ
letters_in word = filter (λ b. not (says_place word.group b)) (folded_text word.text)

-- Letters, if they are of a word of the group that is asked for.
abbrev pub if_of : Group → Group → List ℕ → List (List ℕ)
if_of Patterns Patterns letters = letters ∷ []
if_of Patterns Exceptions letters = []
if_of Exceptions Patterns letters = []
if_of Exceptions Exceptions letters = letters ∷ []

-- The letters of each word of a group.
abbrev pub all_letters : Group → List FileWord → List (List ℕ)
all_letters group words = flat_map (λ one. if_of group one.word.group (letters_in one.word)) words

-- Whether texts have a text among them.
abbrev pub is_among : List (List ℕ) → List ℕ → Bool
is_among texts text = list_any (λ one. bytes_eq one text) texts

-- A remark, if there is cause for it.
abbrev pub remark_if : Bool → NoteKind → LineRef → List Remark
remark_if true kind at = record { kind = kind; at = at } ∷ []
remark_if false kind at = []

-- The remarks on a word of a group: a pattern may be without values; the letters of either may have come before in their
-- group.
abbrev pub group_remarks : Group → Bool → LineRef → Bool → List Remark
group_remarks Patterns without_values at repeated = remark_if without_values NoValue at ++ remark_if repeated Repeated at
group_remarks Exceptions without_values at repeated = remark_if repeated ExceptionRepeated at

-- The remarks on a word of a line, by whether its letters came before in its group. The first one may be on capitals.
abbrev pub remarks_on : LineRef → GroupWord → Bool → List Remark
remarks_on at word repeated =
    remark_if (not (bytes_eq (folded_text word.text) word.text)) Capital at
    ++ group_remarks word.group (length (letters_in word) == length (folded_text word.text)) at repeated

-- The remarks on words that come after others. Those are given from the last to the first.
abbrev pub remarks_after : List FileWord → List FileWord → List Remark
remarks_after before [] = []
remarks_after before (one ∷ words) =
    remarks_on (record { file = one.file; line = one.word.line }) one.word
    (is_among (all_letters one.word.group before) (letters_in one.word))
    ++ remarks_after (one ∷ before) words

-- The notes on files.
abbrev pub notes_of_files : List File → List Note
notes_of_files files = notes_of (remarks_after [] (words_from 0 files))

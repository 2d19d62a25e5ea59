-- Sets of texts that came before, and words with their files.
use Rattle.std.specs.Prelude.{◌≡◌, ℕ, Bool, List, ◌++◌, fold, is_some}
use Rattle.std.specs.Global.{Vec}
use Rattle.std.specs.HashMap.{HashMap, get_by}
use Rattle.std.specs.Str.{bytes_eq}
use Rattle.pattern_results.specs.Notes.{Remark, with_remark}
use Rattle.pattern_results.specs.declared.notes.Note.{Note}
use Rattle.tex_files.specs.Notes.{FileWord, if_of, is_among, letters_in}
use Rattle.tex_files.specs.Private.Views.{word_view}
use Rattle.tex_files.specs.declared.group.Group.{Group}
use Rattle.tex_files.specs.declared.group.Group.TheVariants.{Exceptions, Patterns}
use Rattle.tex_files.specs.declared.group.Word.{Word}
use Rattle.tex_files.specs.declared.word_notes.SeenWords.{SeenWords}

-- Whether a set of texts has a text.
abbrev pub has_text : {S : Type 0} → HashMap (Vec ℕ) (Unit {0}) S → List ℕ → Bool
has_text texts text = is_some (get_by (λ k. bytes_eq text k.items) texts)

-- The texts of a set are those of a list, in whatever order.
abbrev pub AreTexts : {S : Type 0} → HashMap (Vec ℕ) (Unit {0}) S → List (List ℕ) → Type 0
AreTexts texts known = (text : Vec ℕ) → has_text texts text.items ≡ is_among known text.items

-- Letters are added to a set of texts, if they are of the group that the set is for.
abbrev pub AddsTo : {S : Type 0} → Group → HashMap (Vec ℕ) (Unit {0}) S → HashMap (Vec ℕ) (Unit {0}) S → Group → List ℕ
    → Type 0
AddsTo of old new group letters = (known : List (List ℕ)) → AreTexts old known
    → AreTexts new (if_of of group letters ++ known)

-- The notes get remarks, which are a function of whether these letters of a group came before in their group.
abbrev pub GetRemarks : SeenWords → Group → List ℕ → List Note → List Note → (Bool → List Remark) → Type 0
GetRemarks seen group letters old new remarks = (known : Group → List (List ℕ)) → AreTexts seen.keys (known Patterns)
    → AreTexts seen.exceptions (known Exceptions)
    → new ≡ fold with_remark old (remarks (is_among (known group) letters))

-- The letters of a word.
abbrev pub letters_by : Word → List ℕ
letters_by word = letters_in (word_view word)

-- A word with its file, in the words of the definitions.
abbrev pub file_word : ℕ × Word → FileWord
file_word pair = record { file = pair.0; word = word_view pair.1 }

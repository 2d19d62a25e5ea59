-- The notes on pages: on languages without a dictionary of their own, and on rests that are not read.
use Rattle.std.specs.Prelude.{ℕ, ◌+◌, ◌==◌, Bool, true, false, List, [], ◌∷◌, ◌++◌, codes, map, if◌then◌else◌, slice_index_or, Option, Some, None}
use Rattle.std.specs.Fmt.{decimal}
use Rattle.std.specs.List.{flat_map, list_all, list_any}
use Rattle.std.specs.Str.{bytes_eq}
use Rattle.any_dictionary.specs.Dictionaries.{language_by}
use Rattle.any_dictionary.specs.declared.AnyDictionary.{AnyDictionary}
use Rattle.command_line.specs.Inputs.{is_standard_input}
use Rattle.html_pieces.specs.Languages.{languages_of}
use Rattle.hyphenation_html.specs.Languages.{best_of, coded}
use Rattle.hyphenation_html.specs.Unread.{unread_line}
use Rattle.hyphenation_html.specs.declared.languages.LanguageDictionary.{LanguageDictionary}
use Rattle.hyphenation_text.specs.declared.settings.Settings.{Settings}
use Rattle.language_search.specs.Tags.{codes_of, underscore}
use Rattle.html_command.specs.Varieties.{are_other_varieties}
use Rattle.html_command.specs.declared.notes.Note.{Note}
use Rattle.html_command.specs.declared.notes.Note.TheVariants.{NoDictionary, NoCode, NoLanguage, OtherVariety, LeftAlone}
use Rattle.html_command.specs.declared.notes.PageNote.{PageNote}

-- The result of a page: its text, and the notes on it.
pub record MarkedPage : Type 0 where
  pub text : List ℕ
  pub notes : List Note

-- ---- notes on languages

-- The note on a language without a dictionary, by the codes of its tag. The first one, which is the longest, names it.
abbrev pub note_by_codes : List (List ℕ) → Note
note_by_codes [] = NoCode
note_by_codes (code ∷ more) = NoDictionary code

-- The note on a language without a dictionary, by its tag. A page names no language by a tag with an underscore.
abbrev pub note_without : List ℕ → Note
note_without tag = if list_any (λ byte. byte == underscore) tag then NoCode else note_by_codes (codes_of tag)

-- The note on a language of these codes, which a dictionary of that code serves: the dictionary is one of another variety.
abbrev pub variety_note : List (List ℕ) → List ℕ → Option Note
variety_note [] dictionary = None
variety_note (code ∷ more) dictionary =
    if are_other_varieties code dictionary then Some (OtherVariety code dictionary) else None

-- The note on the language of a tag, by the dictionary that serves it, if one does. The first of the tag's codes names it, and
-- the code that the dictionary's text names is the dictionary's.
abbrev pub note_by : List ℕ → Option (List ℕ × AnyDictionary) → Option Note
note_by tag None = Some (note_without tag)
note_by tag (Some one) = variety_note (codes_of tag) (language_by one.1)

-- The note on the language of a tag where there are these dictionaries. An empty tag is that of no language.
abbrev pub language_note : List LanguageDictionary → List ℕ → Option Note
language_note dictionaries [] = None
language_note dictionaries (byte ∷ bytes) = note_by (byte ∷ bytes) (best_of (byte ∷ bytes) (map coded dictionaries))

-- Two notes are on the same language.
abbrev pub is_on_same : Note → Note → Bool
is_on_same (NoDictionary code) (NoDictionary other) = bytes_eq code other
is_on_same (OtherVariety code dictionary) (OtherVariety other its) = bytes_eq code other
is_on_same NoCode NoCode = true
is_on_same _ _ = false

-- Some notes with one more, if it is not there yet.
abbrev pub with_new : List Note → Note → List Note
with_new notes note = if list_any (λ one. is_on_same one note) notes then notes else notes ++ note ∷ []

-- Some notes with one more, if there is one, and it is not there yet.
abbrev pub with_note : List Note → Option Note → List Note
with_note notes None = notes
with_note notes (Some note) = with_new notes note

-- Some notes with those on the languages of some tags.
abbrev pub with_languages : List LanguageDictionary → List Note → List (List ℕ) → List Note
with_languages dictionaries notes [] = notes
with_languages dictionaries notes (tag ∷ tags) =
    with_languages dictionaries (with_note notes (language_note dictionaries tag)) tags

-- A tag is empty: it is that of no language.
abbrev pub is_empty_tag : List ℕ → Bool
is_empty_tag [] = true
is_empty_tag (byte ∷ bytes) = false

-- The notes on the languages of some tags: on each that has no dictionary of its own, once. If all tags are empty there is one, too.
abbrev pub language_notes : List LanguageDictionary → List (List ℕ) → List Note
language_notes dictionaries tags =
    if list_all is_empty_tag tags then NoLanguage ∷ [] else with_languages dictionaries [] tags

-- ---- notes on a page

-- The note of a line from which on a page is left alone, if there is one.
abbrev pub note_of_line : Option ℕ → List Note
note_of_line None = []
note_of_line (Some line) = LeftAlone line ∷ []

-- The note that a page with these dictionaries is not read to its end. Without any dictionary there is none.
abbrev pub unread_note : List LanguageDictionary → List ℕ → Settings → List ℕ → List Note
unread_note [] language settings page = []
unread_note (one ∷ more) language settings page = note_of_line (unread_line settings language page)

-- The notes on a page with these dictionaries and settings: on the language that the arguments name for it and on those
-- that it names, and from which line on it is left alone.
abbrev pub notes_on : List LanguageDictionary → List ℕ → Settings → List ℕ → List Note
notes_on dictionaries language settings page =
    language_notes dictionaries (language ∷ languages_of page) ++ unread_note dictionaries language settings page

-- The notes that a page gets: none where the arguments ask for none.
abbrev pub notes_told : Bool → List Note → List Note
notes_told quiet notes = if quiet then [] else notes

-- The notes on the page of a number.
abbrev pub notes_at : ℕ → List Note → List PageNote
notes_at page notes = map (λ note. record { page = page; note = note }) notes

-- The notes on pages, from one of a number on.
abbrev pub notes_from : ℕ → List MarkedPage → List PageNote
notes_from page [] = []
notes_from page (marked ∷ more) = notes_at page marked.notes ++ notes_from (page + 1) more

-- The notes on pages, which are counted from 0.
abbrev pub notes_of : List MarkedPage → List PageNote
notes_of pages = notes_from 0 pages

-- The texts of results.
abbrev pub texts_of : List MarkedPage → List (List ℕ)
texts_of pages = map (λ marked. marked.text) pages

-- The words of each note.
abbrev pub words_of : Note → List ℕ
words_of (NoDictionary code) = codes "no dictionary for the language " ++ (code ++ codes ": its text is left alone")
words_of NoCode = codes "a language of the page is no code, such as en-gb: its text is left alone"
words_of NoLanguage = codes "the page names no language, so nothing is changed; --lang names it"
words_of (OtherVariety code dictionary) = code ++ (codes " is hyphenated by the dictionary " ++ dictionary)
words_of (LeftAlone line) =
    codes "line " ++ (decimal line ++ codes ": left alone from here on, since parsers may read it in different ways")

-- The line of a note on the page of a name. Standard input is not named.
abbrev pub line_on : List ℕ → List ℕ → List ℕ → List ℕ
line_on program name words =
    if is_standard_input name then program ++ (codes ": note: " ++ (words ++ codes "\n"))
    else program ++ (codes ": note: " ++ (name ++ (codes ": " ++ (words ++ codes "\n"))))

-- The line of a note on one of the pages of these names.
abbrev pub note_line : List ℕ → List (List ℕ) → PageNote → List ℕ
note_line program names note = line_on program (slice_index_or names note.page []) (words_of note.note)

-- All notes, each in its line.
abbrev pub notes_text : List ℕ → List (List ℕ) → List PageNote → List ℕ
notes_text program names notes = flat_map (note_line program names) notes

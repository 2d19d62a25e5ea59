-- The output and the statuses of the program `hyphenate-convert`.
use Rattle.std.specs.Prelude.{◌≡◌, ◌≢◌, ◌⊎◌, ℕ, Bool, true, false, List, [], Option, Some, None, IfSome, map, slice_index_or}
use Rattle.std.specs.Borrow.{Bor}
use Rattle.std.specs.Io.KnownBytes.{Appends}
use Rattle.std.specs.List.{AllZip}
use Rattle.named_files.specs.Files.{known_bytes}
use Rattle.hyphenation_breaks.specs.Break.{Break, Change}
use Rattle.hyphenation_breaks.specs.Dictionary.{Contents}
use Rattle.hyphenation_grammar.specs.Reading.{no_payload, change_as_payload, place_as_listing, break_as_listing}
use Rattle.hyphenation_grammar.specs.declared.form.Kind.{Kind}
use Rattle.hyphenation_grammar.specs.declared.form.Kind.TheVariants.{Standard, Extended}
use Rattle.hyphenation_writer.specs.Canonical.{standard_text, extended_text}
use Rattle.libreoffice_files.specs.LibreOffice.{contents_of_dic}
use Rattle.libreoffice_files.specs.Notes.{notes_of_dic}
use Rattle.pattern_results.specs.declared.notes.Note.{Note}
use Rattle.tex_files.specs.Converting.{contents_of_files}
use Rattle.tex_files.specs.Heads.{minima_for}
use Rattle.tex_files.specs.Notes.{notes_of_files}
use Rattle.tex_files.specs.declared.group.File.{File}
use Rattle.convert_command.specs.Arguments.{ParsedArgs, ParsesAs, is_dic_alone, known_form}

-- The dictionary is of that language, and has each minimum that is given.
abbrev pub IsFor : {C B : Type 0} → List ℕ → Option ℕ → Option ℕ → Contents C B → Type 0
IsFor code left right dictionary = (dictionary.language ≡ code) × IfSome left (λ given. dictionary.left ≡ given)
    × IfSome right (λ given. dictionary.right ≡ given)

-- These are the bytes of a file, where that is known. It is not known that there is no such file.
abbrev pub AreBytesOf : Option (Option (List ℕ)) → List ℕ → Type 0
AreBytesOf file bytes = (file ≢ Some None) × IfSome (known_bytes file) (λ known. bytes ≡ known)

-- These are the bytes of the files of paths, in their order.
abbrev pub AreBytesAt : (List ℕ → Option (Option (List ℕ))) → List (List ℕ) → List (List ℕ) → Type 0
AreBytesAt bytes_of paths all = AllZip (λ path bytes. AreBytesOf (bytes_of path) bytes) paths all

-- These are files of TeX and plain ones at paths, in their order. Each has its bytes, and the form that the ending of its path
-- names.
pub record AreFilesAt (paths all : List (List ℕ)) (files : List File) : Type 0 where
  pub bytes : map (λ file. file.bytes.now) files ≡ all
  pub forms : map (λ file. file.form) files ≡ map known_form paths

-- A dictionary is that of files with these paths and bytes. It is of a .dic, which is the only file, or of files of TeX and
-- plain ones, in their order. A minimum that is not given is the one of the .dic, or of the first file whose head has it.
abbrev pub IsMadeOf : {C B : Type 0} → (C → Option Change) → (Option Change → C) → (Break → B) → Bool → List ℕ
    → Option ℕ → Option ℕ → List (List ℕ) → List (List ℕ) → Contents C B → Type 0
IsMadeOf change_of payload_of listing_of true code left right paths all dictionary =
    dictionary ≡ contents_of_dic change_of payload_of code left right (slice_index_or all 0 [])
IsMadeOf change_of payload_of listing_of false code left right paths all dictionary =
    (files : List File) × (least_left : ℕ) × (least_right : ℕ) × AreFilesAt paths all files
    × (minima_for left right files ≡ Some (least_left, least_right))
    × (dictionary ≡ contents_of_files payload_of listing_of code least_left least_right files)

-- The notes are exactly those on files with these paths and bytes: on a .dic, which is the only file, or on files of TeX and plain
-- ones, in their order.
abbrev pub AreNotesOf : {C : Type 0} → (C → Option Change) → (Option Change → C) → Bool → Option ℕ → Option ℕ
    → List (List ℕ) → List (List ℕ) → List Note → Type 0
AreNotesOf change_of payload_of true left right paths all notes =
    notes ≡ notes_of_dic change_of payload_of left right (slice_index_or all 0 [])
AreNotesOf change_of payload_of false left right paths all notes =
    (files : List File) × AreFilesAt paths all files × (notes ≡ notes_of_files files)

-- The notes are those for a dictionary of that kind.
abbrev pub AreNotesBy : Kind → Bool → Option ℕ → Option ℕ → List (List ℕ) → List (List ℕ) → List Note → Type 0
AreNotesBy Standard is_dic left right paths all notes =
    AreNotesOf {C = Unit {0}} (λ _. None) no_payload is_dic left right paths all notes
AreNotesBy Extended is_dic left right paths all notes =
    AreNotesOf change_as_payload change_as_payload is_dic left right paths all notes

-- The canonical text of the dictionary of that kind, language and minima, which files with these paths and bytes make, was
-- appended.
abbrev pub Writes : Kind → Bool → List ℕ → Option ℕ → Option ℕ → List (List ℕ) → List (List ℕ) → Option (List ℕ)
    → Option (List ℕ) → Type 0
Writes Standard is_dic code left right paths all old new = (dictionary : Contents (Unit {0}) ℕ)
    × IsFor code left right dictionary
    × IsMadeOf (λ _. None) no_payload place_as_listing is_dic code left right paths all dictionary
    × Appends old new (standard_text dictionary)
Writes Extended is_dic code left right paths all old new = (dictionary : Contents (Option Change) (ℕ × Option Change))
    × IsFor code left right dictionary
    × IsMadeOf change_as_payload change_as_payload break_as_listing is_dic code left right paths all dictionary
    × Appends old new (extended_text dictionary)

-- The canonical text of the dictionary that parsed arguments ask for was appended: it is of the bytes of their files.
abbrev pub WritesParsed : {W : Type 0} → ParsedArgs → Bool → (List ℕ → Option (Option (List ℕ))) → (W → Option (List ℕ))
    → W → W → Type 0
WritesParsed parsed is_dic bytes_of contents old new = (all : List (List ℕ)) × AreBytesAt bytes_of parsed.paths all
    × Writes parsed.kind is_dic parsed.code parsed.left parsed.right parsed.paths all (contents old) (contents new)

-- The canonical text of the dictionary that the arguments ask for was appended.
abbrev pub WritesFor : {W : Type 0} → List (Bor (List ℕ)) → (List ℕ → Option (Option (List ℕ))) → (W → Option (List ℕ))
    → W → W → Type 0
WritesFor args bytes_of contents old new = (parsed : ParsedArgs) × ParsesAs args parsed
    × WritesParsed parsed (is_dic_alone parsed.paths) bytes_of contents old new

-- The statuses.
-- 0: done. 2: the arguments have no form, or the minima are missing. 3: a file can't be opened, read or understood.
-- 5: the result can't be written. 6: memory was refused.
abbrev pub IsExitStatus : ℕ → Type 0
IsExitStatus status = (status ≡ 0) ⊎ (status ≡ 2) ⊎ (status ≡ 3) ⊎ (status ≡ 5) ⊎ (status ≡ 6)

-- Files together: the dictionary that they make, or their first fault.
use Rattle.std.specs.Prelude.{ℕ, ◌+◌, List, [], ◌∷◌, ◌++◌, Option, Some, None, option_map}
use Rattle.std.specs.Option.{option_or}
use Rattle.std.specs.List.{filter_map}
use Rattle.hyphenation_breaks.specs.Break.{Break, Change}
use Rattle.hyphenation_breaks.specs.Dictionary.{Contents}
use Rattle.pattern_results.specs.Parts.{SpeltWords, nothing_spelt, contents_made}
use Rattle.tex_files.specs.Groups.{GroupWord, groups, plain_words, pieces_of}
use Rattle.tex_files.specs.Spelling.{word_cause, pattern_in, exception_in}
use Rattle.pattern_results.specs.declared.errors.FileCause.{FileCause}
use Rattle.pattern_results.specs.declared.errors.FileCause.TheVariants.{Nothing}
use Rattle.tex_files.specs.declared.group.FileForm.{FileForm}
use Rattle.tex_files.specs.declared.group.FileForm.TheVariants.{Tex, Plain}
use Rattle.tex_files.specs.declared.group.File.{File}
use Rattle.tex_files.specs.declared.group.Group.TheVariants.{Exceptions}

-- The words of a file's groups, up to the first fault of a group.
abbrev pub words_of : FileForm → List ℕ → List GroupWord
words_of Tex bytes = (groups (pieces_of bytes)).words
words_of (Plain group) bytes = plain_words group (pieces_of bytes)

-- The first fault of a file's groups: the line and the cause.
abbrev pub group_fault : FileForm → List ℕ → Option (ℕ × FileCause)
group_fault Tex bytes = (groups (pieces_of bytes)).fault
group_fault (Plain group) bytes = None

-- The keys and the words that words of groups spell.
abbrev pub words_spelt : {C B : Type 0} → (Option Change → C) → (Break → B) → List GroupWord → SpeltWords C B
words_spelt payload_of listing_of words = record {
  patterns = filter_map (λ w. pattern_in payload_of w.group w.text) words;
  exceptions = filter_map (λ w. exception_in listing_of w.group w.text) words;
}

-- The keys and words of one file, and then those of another.
abbrev pub one_after_other : {C B : Type 0} → SpeltWords C B → SpeltWords C B → SpeltWords C B
one_after_other first more = record {
  patterns = first.patterns ++ more.patterns;
  exceptions = first.exceptions ++ more.exceptions;
}

-- The first word that fails a test: its line, and that test.
abbrev pub first_fault : List GroupWord → Option (ℕ × FileCause)
first_fault [] = None
first_fault (word ∷ words) =
    option_or (option_map (λ cause. (word.line, cause)) (word_cause word.group word.text)) (first_fault words)

-- A file without a pattern and without an exception is faulty, except a plain file of exceptions: a language may have
-- none.
abbrev pub empty_fault : FileForm → List GroupWord → Option (ℕ × FileCause)
empty_fault (Plain Exceptions) words = None
empty_fault form [] = Some (1, Nothing)
empty_fault form (word ∷ words) = None

-- A file's first fault: that of a word of its groups, or else of the groups, or else that it has no words.
abbrev pub file_fault : FileForm → List ℕ → Option (ℕ × FileCause)
file_fault form bytes =
    option_or (option_or (first_fault (words_of form bytes)) (group_fault form bytes))
    (empty_fault form (words_of form bytes))

-- The first fault of files: the number of the file, the line and the cause.
abbrev pub fault_from : ℕ → List File → Option (ℕ × (ℕ × FileCause))
fault_from number [] = None
fault_from number (file ∷ files) =
    option_or (option_map (λ fault. (number, fault)) (file_fault file.form file.bytes.now))
    (fault_from (number + 1) files)

-- The keys and words of files, one file after the other.
abbrev pub spelt_in : {C B : Type 0} → (Option Change → C) → (Break → B) → List File → SpeltWords C B
spelt_in payload_of listing_of [] = nothing_spelt
spelt_in payload_of listing_of (file ∷ files) =
    one_after_other (words_spelt payload_of listing_of (words_of file.form file.bytes.now))
    (spelt_in payload_of listing_of files)

-- The dictionary of files.
abbrev pub contents_of_files : {C B : Type 0} → (Option Change → C) → (Break → B) → List ℕ → ℕ → ℕ → List File
    → Contents C B
contents_of_files payload_of listing_of language left right files =
    contents_made language left right (spelt_in payload_of listing_of files)

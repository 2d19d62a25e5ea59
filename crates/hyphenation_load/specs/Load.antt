-- The results of loading a dictionary, and the errors of writing one.
use Rattle.std.specs.Prelude.{◌≡◌, ◌≢◌, ℕ, List, [], Option, None, Some, Result, Ok, Err, IfSome, MatchResult, slice_index_or, unwrap_or, ⊤}
use Rattle.std.specs.Io.KnownBytes.{Appends}
use Rattle.std.specs.IoError.{error_kind}
use Rattle.std.specs.declared.io.ErrorKind.TheVariants.{NotFound, OutOfMemory}
use Rattle.hyphenation_grammar.specs.Lines.{lines_of, language_of}
use Rattle.hyphenation_grammar.specs.declared.Cause.{Cause}
use Rattle.hyphenation_grammar.specs.declared.Error.{Error}
use Rattle.hyphenation_grammar.specs.declared.Error.TheVariants.{Deserialization, IO, LanguageMismatch, Memory}

-- The code that line 2 of a text names, whatever its kind; empty if it names none.
abbrev pub language_of_text : List ℕ → List ℕ
language_of_text bytes = unwrap_or (language_of (slice_index_or (lines_of bytes) 1 [])) []

-- The error is the one that a text gives: its first faulty line with the cause. No language is asked for, so there is no
-- mismatch. Errors of memory and I/O say nothing of the text.
abbrev pub IsLoadError : Option (ℕ × Cause) → Error → Type 0
IsLoadError refusal (Deserialization line cause) = refusal ≡ Some (line, cause)
IsLoadError refusal (LanguageMismatch expected found) = ⊥
IsLoadError refusal (IO e) = ⊤
IsLoadError refusal (Memory e) = ⊤

-- Loading a text returns its dictionary exactly where it is accepted, else an error of loading.
abbrev pub Loads : {D : Type 0} → Option (ℕ × Cause) → D → Result D Error → Type 0
Loads refusal contents result =
    MatchResult result (λ dictionary. (refusal ≡ None) × (dictionary ≡ contents)) (IsLoadError refusal)

-- The text is accepted, and of the asked language.
abbrev pub IsAcceptedIn : Option (ℕ × Cause) → List ℕ → List ℕ → Type 0
IsAcceptedIn refusal asked language = (refusal ≡ None) × (language ≡ asked)

-- The error is the one that a text of this language gives where one is asked for. A refused text gives its first faulty
-- line with the cause. An accepted one gives both codes, if they differ.
abbrev pub IsLoadErrorIn : Option (ℕ × Cause) → List ℕ → List ℕ → Error → Type 0
IsLoadErrorIn refusal asked language (Deserialization line cause) = refusal ≡ Some (line, cause)
IsLoadErrorIn refusal asked language (LanguageMismatch expected found) =
    (refusal ≡ None) × (language ≡ found) × (expected ≡ asked) × (found ≢ asked)
IsLoadErrorIn refusal asked language (IO e) = ⊤
IsLoadErrorIn refusal asked language (Memory e) = ⊤

-- Loading in a language returns the dictionary exactly where the text is accepted and of that language, else an error of
-- loading. The language of a text is that of its dictionary.
abbrev pub LoadsIn : {D : Type 0} → (List ℕ → Option (ℕ × Cause)) → (List ℕ → D) → (D → List ℕ) → List ℕ → List ℕ
    → Result D Error → Type 0
LoadsIn refusal contents language asked bytes result =
    MatchResult result
    (λ dictionary. (refusal bytes ≡ None) × (dictionary ≡ contents bytes) × (language (contents bytes) ≡ asked))
    (IsLoadErrorIn (refusal bytes) asked (language (contents bytes)))

-- The result is the error that there is no such file.
abbrev pub IsNotThere : {D : Type 0} → Result D Error → Type 0
IsNotThere (Err (IO e)) = error_kind e ≡ NotFound
IsNotThere _ = ⊥

-- The result is not the error that there is no such file.
abbrev pub IsNotMissing : {D : Type 0} → Result D Error → Type 0
IsNotMissing (Err (IO e)) = error_kind e ≢ NotFound
IsNotMissing _ = ⊤

-- Loading the file at a path, of which this is known: its bytes, that there is no such file, or nothing.
abbrev pub LoadsFile : {D : Type 0} → (List ℕ → Option (ℕ × Cause)) → (List ℕ → D) → (D → List ℕ) → List ℕ
    → Option (Option (List ℕ)) → Result D Error → Type 0
LoadsFile refusal contents language asked None result = ⊤
LoadsFile refusal contents language asked (Some None) result = IsNotThere result
LoadsFile refusal contents language asked (Some (Some bytes)) result = LoadsIn refusal contents language asked bytes result

-- Loading a path fails by I/O or for memory, or returns what the bytes of some file give, if they are known.
abbrev pub LoadsSomeFile : {F D : Type 0} → (F → Option (List ℕ)) → (List ℕ → Option (ℕ × Cause)) → (List ℕ → D)
    → (D → List ℕ) → List ℕ → Result D Error → Type 0
LoadsSomeFile remaining refusal contents language asked (Err (IO e)) = ⊤
LoadsSomeFile remaining refusal contents language asked (Err (Memory e)) = ⊤
LoadsSomeFile {F} remaining refusal contents language asked result =
    (file : F) × IfSome (remaining file) (λ bytes. LoadsIn refusal contents language asked bytes result)

-- Whatever was read, a dictionary is of the asked language, and a mismatch names that language and another one.
abbrev pub RespectsLanguage : {D : Type 0} → (D → List ℕ) → List ℕ → Result D Error → Type 0
RespectsLanguage language asked (Ok dictionary) = language dictionary ≡ asked
RespectsLanguage language asked (Err (LanguageMismatch expected found)) = (expected ≡ asked) × (found ≢ asked)
RespectsLanguage language asked (Err _) = ⊤

-- No language is asked for, so there is no mismatch.
abbrev pub HasNoMismatch : {D : Type 0} → Result D Error → Type 0
HasNoMismatch (Err (LanguageMismatch expected found)) = ⊥
HasNoMismatch _ = ⊤

-- The result is no I/O error.
abbrev pub IsNotIo : {D : Type 0} → Result D Error → Type 0
IsNotIo (Err (IO e)) = ⊥
IsNotIo _ = ⊤

-- An I/O error is never of the kind OutOfMemory.
abbrev pub IsNotOutOfMemory : Error → Type 0
IsNotOutOfMemory (IO e) = error_kind e ≢ OutOfMemory
IsNotOutOfMemory _ = ⊤

-- An error of reading as one of loading: memory was refused, or an I/O error of another kind.
abbrev pub IsReadError : Error → Type 0
IsReadError (IO e) = error_kind e ≢ OutOfMemory
IsReadError (Memory e) = ⊤
IsReadError _ = ⊥

-- A text was appended to the contents of a writer, if these are known.
abbrev pub AppendsTo : {W : Type 0} → (W → Option (List ℕ)) → W → W → List ℕ → Type 0
AppendsTo contents old new text = Appends (contents old) (contents new) text

-- If memory was refused, this holds.
abbrev pub IfMemory : {X : Type 0} → Result X Error → Type 0 → Type 0
IfMemory (Err (Memory e)) P = P
IfMemory _ P = ⊤

-- Writing fails by I/O, or because memory was refused.
abbrev pub IsWriteError : Error → Type 0
IsWriteError (IO e) = ⊤
IsWriteError (Memory e) = ⊤
IsWriteError _ = ⊥

-- Loading by the path of a file and in a language, from what is known of each step.
use Rattle.std.proofs.Common.{◌≡◌, ℕ, List, Option, None, Some, Result, Ok, Err, IfOk, IfErr, IfSome, IsErrAnd, MatchResult, OnOk, refl, subst, sym, ap, ◌∙◌, alloc_error, ◌≢◌}
use Rattle.std.specs.IoError.{error_kind}
use Rattle.std.specs.declared.io.Error.{Error as ReadError}
use Rattle.std.specs.declared.io.ErrorKind.TheVariants.{NotFound, OutOfMemory}
use Rattle.hyphenation_breaks.specs.Dictionary.{Contents}
use Rattle.hyphenation_grammar.specs.declared.Cause.{Cause}
use Rattle.hyphenation_grammar.specs.declared.Error.{Error}
use Rattle.hyphenation_grammar.specs.declared.Error.TheVariants.{Deserialization, IO, LanguageMismatch, Memory}
use Rattle.named_files.specs.Files.{known_bytes}
use Rattle.hyphenation_load.specs.Load.{Loads, LoadsIn, LoadsFile, LoadsSomeFile, IsNotMissing, IsNotThere, RespectsLanguage, HasNoMismatch, IsNotOutOfMemory, IsReadError}
use Rattle.hyphenation_load.specs.Private.Load.{ChecksLanguage}

-- An error as a result.
abbrev failure : (D : Type 0) → Error → Result D Error
failure D e = Err e

-- The error that there is no such file is that of any result.
missing : (F D : Type 0) (e : Error) → IsNotThere (failure F e) → IsNotThere (failure D e)
missing F D (Deserialization line cause) h = absurd h
missing F D (IO x) h = h
missing F D (LanguageMismatch expected found) h = absurd h
missing F D (Memory x) h = absurd h

not_opened : (F : Type 0) {D : Type 0} (refusal : List ℕ → Option (ℕ × Cause)) (contents : List ℕ → D) (language : D → List ℕ) (asked : List ℕ) (known : Option (Option (List ℕ))) (e : Error)
    → (known ≡ Some None → IsNotThere (failure F e)) → IsReadError e → LoadsFile refusal contents language asked known (failure D e)
not_opened F refusal contents language asked None e absent read = tt
not_opened F {D} refusal contents language asked (Some None) e absent read = missing F D e (absent refl)
not_opened F refusal contents language asked (Some (Some bytes)) (Deserialization line cause) absent read = absurd read
not_opened F refusal contents language asked (Some (Some bytes)) (IO x) absent read = tt
not_opened F refusal contents language asked (Some (Some bytes)) (LanguageMismatch expected found) absent read = absurd read
not_opened F refusal contents language asked (Some (Some bytes)) (Memory x) absent read = tt

-- A file that could not be opened gives the error of opening it. The type of the files is that of `remaining`.
pub file_not_opened : {F D : Type 0} (remaining : F → Option (List ℕ)) (refusal : List ℕ → Option (ℕ × Cause)) (contents : List ℕ → D) (language : D → List ℕ) (asked : List ℕ) (known : Option (Option (List ℕ))) (e : Error) (result : Result D Error)
    → result ≡ Err e → (known ≡ Some None → IsNotThere (failure F e)) → IsReadError e → LoadsFile refusal contents language asked known result
file_not_opened {F} remaining refusal contents language asked known e result is absent read =
    subst (λ r. LoadsFile refusal contents language asked known r) (sym is) (not_opened F refusal contents language asked known e absent read)

of_no_file : {F D : Type 0} (remaining : F → Option (List ℕ)) (refusal : List ℕ → Option (ℕ × Cause)) (contents : List ℕ → D) (language : D → List ℕ) (asked : List ℕ) (e : Error)
    → IsReadError e → LoadsSomeFile remaining refusal contents language asked (failure D e)
of_no_file remaining refusal contents language asked (Deserialization line cause) read = absurd read
of_no_file remaining refusal contents language asked (IO x) read = tt
of_no_file remaining refusal contents language asked (LanguageMismatch expected found) read = absurd read
of_no_file remaining refusal contents language asked (Memory x) read = tt

pub some_file_not_opened : {F D : Type 0} (remaining : F → Option (List ℕ)) (refusal : List ℕ → Option (ℕ × Cause)) (contents : List ℕ → D) (language : D → List ℕ) (asked : List ℕ) (e : Error) (result : Result D Error)
    → result ≡ Err e → IsReadError e → LoadsSomeFile remaining refusal contents language asked result
some_file_not_opened remaining refusal contents language asked e result is read =
    subst (λ r. LoadsSomeFile remaining refusal contents language asked r) (sym is) (of_no_file remaining refusal contents language asked e read)

no_mismatch : {D : Type 0} (language : D → List ℕ) (asked : List ℕ) (e : Error) → HasNoMismatch (failure D e) → RespectsLanguage language asked (failure D e)
no_mismatch language asked (Deserialization line cause) h = tt
no_mismatch language asked (IO x) h = tt
no_mismatch language asked (LanguageMismatch expected found) h = absurd h
no_mismatch language asked (Memory x) h = tt

-- An error that is no mismatch respects the asked language.
pub respects_without_mismatch : {D : Type 0} (language : D → List ℕ) (asked : List ℕ) (e : Error) (result : Result D Error) → result ≡ Err e → HasNoMismatch (failure D e) → RespectsLanguage language asked result
respects_without_mismatch language asked e result is h = subst (λ r. RespectsLanguage language asked r) (sym is) (no_mismatch language asked e h)

read_error_no_mismatch : (D : Type 0) (e : Error) → IsReadError e → HasNoMismatch (failure D e)
read_error_no_mismatch D (Deserialization line cause) read = tt
read_error_no_mismatch D (IO x) read = tt
read_error_no_mismatch D (LanguageMismatch expected found) read = absurd read
read_error_no_mismatch D (Memory x) read = tt

pub respects_when_not_opened : {D : Type 0} (language : D → List ℕ) (asked : List ℕ) (e : Error) (result : Result D Error) → result ≡ Err e → IsReadError e → RespectsLanguage language asked result
respects_when_not_opened {D} language asked e result is read = respects_without_mismatch language asked e result is (read_error_no_mismatch D e read)

pub read_error_not_out_of_memory : (e : Error) → IsReadError e → IsNotOutOfMemory e
read_error_not_out_of_memory (Deserialization line cause) read = absurd read
read_error_not_out_of_memory (IO x) read = read
read_error_not_out_of_memory (LanguageMismatch expected found) read = absurd read
read_error_not_out_of_memory (Memory x) read = tt

pub error_not_out_of_memory : {D : Type 0} (e : Error) (result : Result D Error) → result ≡ Err e → IsNotOutOfMemory e → IfErr result IsNotOutOfMemory
error_not_out_of_memory e result is h = subst (λ r. IfErr r IsNotOutOfMemory) (sym is) h

-- An opened file gives what its bytes give.
pub file_opened : {D : Type 0} (refusal : List ℕ → Option (ℕ × Cause)) (contents : List ℕ → D) (language : D → List ℕ) (asked : List ℕ) (known : Option (Option (List ℕ))) (left : Option (List ℕ)) (result : Result D Error)
    → IfSome (known_bytes known) (λ bytes. left ≡ Some bytes) → (known ≡ Some None → ⊥) → IfSome left (λ bytes. LoadsIn refusal contents language asked bytes result)
    → LoadsFile refusal contents language asked known result
file_opened refusal contents language asked None left result held absent loaded = tt
file_opened refusal contents language asked (Some None) left result held absent loaded = absurd (absent refl)
file_opened refusal contents language asked (Some (Some bytes)) left result held absent loaded =
    subst (λ found. IfSome found (λ b. LoadsIn refusal contents language asked b result)) held loaded

pub some_file_opened : {F D : Type 0} (remaining : F → Option (List ℕ)) (refusal : List ℕ → Option (ℕ × Cause)) (contents : List ℕ → D) (language : D → List ℕ) (asked : List ℕ) (file : F) (result : Result D Error)
    → IfSome (remaining file) (λ bytes. LoadsIn refusal contents language asked bytes result) → LoadsSomeFile remaining refusal contents language asked result
some_file_opened remaining refusal contents language asked file (Ok dictionary) loaded = (file, loaded)
some_file_opened remaining refusal contents language asked file (Err (Deserialization line cause)) loaded = (file, loaded)
some_file_opened remaining refusal contents language asked file (Err (IO x)) loaded = tt
some_file_opened remaining refusal contents language asked file (Err (LanguageMismatch expected found)) loaded = (file, loaded)
some_file_opened remaining refusal contents language asked file (Err (Memory x)) loaded = tt

-- An error of loading in any language is one of loading in the asked one.
failed : {D : Type 0} (refusal : List ℕ → Option (ℕ × Cause)) (contents : List ℕ → D) (language : D → List ℕ) (asked bytes : List ℕ) (e : Error)
    → Loads (refusal bytes) (contents bytes) (failure D e) → LoadsIn refusal contents language asked bytes (failure D e)
failed refusal contents language asked bytes (Deserialization line cause) h = h
failed refusal contents language asked bytes (IO x) h = tt
failed refusal contents language asked bytes (LanguageMismatch expected found) h = absurd h
failed refusal contents language asked bytes (Memory x) h = tt

pub failed_as_left : {C B : Type 0} (refusal : List ℕ → Option (ℕ × Cause)) (contents : List ℕ → Contents C B) (asked : List ℕ) (left : Option (List ℕ)) (e : Error) (result : Result (Contents C B) Error)
    → result ≡ Err e → IfSome left (λ bytes. Loads (refusal bytes) (contents bytes) (failure (Contents C B) e))
    → IfSome left (λ bytes. LoadsIn refusal contents (λ (d : Contents C B). d.language) asked bytes result)
failed_as_left refusal contents asked None e result is h = tt
failed_as_left {C} {B} refusal contents asked (Some bytes) e result is h =
    subst (λ r. LoadsIn refusal contents (λ (d : Contents C B). d.language) asked bytes r) (sym is) (failed refusal contents (λ (d : Contents C B). d.language) asked bytes e h)

-- A dictionary that was loaded is the result where its language is the asked one.
checked : {C B : Type 0} (refusal : List ℕ → Option (ℕ × Cause)) (contents : List ℕ → Contents C B) (asked bytes : List ℕ) (dictionary : Contents C B) (result : Result (Contents C B) Error)
    → (refusal bytes ≡ None) × (dictionary ≡ contents bytes) → ChecksLanguage asked dictionary result → LoadsIn refusal contents (λ (d : Contents C B). d.language) asked bytes result
checked {C} {B} refusal contents asked bytes dictionary (Ok given) loaded h = (loaded.0, h.0 ∙ loaded.1, ap (λ (d : Contents C B). d.language) (sym loaded.1) ∙ h.1)
checked refusal contents asked bytes dictionary (Err (Deserialization line cause)) loaded h = absurd h
checked refusal contents asked bytes dictionary (Err (IO x)) loaded h = absurd h
checked {C} {B} refusal contents asked bytes dictionary (Err (LanguageMismatch expected found)) loaded h =
    (loaded.0, ap (λ (d : Contents C B). d.language) (sym loaded.1) ∙ sym h.1, h.0, h.2)
checked refusal contents asked bytes dictionary (Err (Memory x)) loaded h = absurd h

pub checked_as_left : {C B : Type 0} (refusal : List ℕ → Option (ℕ × Cause)) (contents : List ℕ → Contents C B) (asked : List ℕ) (left : Option (List ℕ)) (dictionary : Contents C B) (result : Result (Contents C B) Error)
    → IfSome left (λ bytes. (refusal bytes ≡ None) × (dictionary ≡ contents bytes)) → ChecksLanguage asked dictionary result
    → IfSome left (λ bytes. LoadsIn refusal contents (λ (d : Contents C B). d.language) asked bytes result)
checked_as_left refusal contents asked None dictionary result loaded h = tt
checked_as_left refusal contents asked (Some bytes) dictionary result loaded h = checked refusal contents asked bytes dictionary result loaded h

pub checked_language : {C B : Type 0} (asked : List ℕ) (dictionary : Contents C B) (result : Result (Contents C B) Error) → ChecksLanguage asked dictionary result
    → RespectsLanguage (λ (d : Contents C B). d.language) asked result
checked_language {C} {B} asked dictionary (Ok given) h = ap (λ (d : Contents C B). d.language) h.0 ∙ h.1
checked_language asked dictionary (Err (Deserialization line cause)) h = absurd h
checked_language asked dictionary (Err (IO x)) h = absurd h
checked_language asked dictionary (Err (LanguageMismatch expected found)) h = (h.0, h.2)
checked_language asked dictionary (Err (Memory x)) h = absurd h

pub checked_not_out_of_memory : {C B : Type 0} (asked : List ℕ) (dictionary : Contents C B) (result : Result (Contents C B) Error) → ChecksLanguage asked dictionary result → IfErr result IsNotOutOfMemory
checked_not_out_of_memory asked dictionary (Ok given) h = tt
checked_not_out_of_memory asked dictionary (Err (Deserialization line cause)) h = tt
checked_not_out_of_memory asked dictionary (Err (IO x)) h = absurd h
checked_not_out_of_memory asked dictionary (Err (LanguageMismatch expected found)) h = tt
checked_not_out_of_memory asked dictionary (Err (Memory x)) h = tt

pub read_before : {D : Type 0} (result : Result D Error) (end : Type 0) → end → OnOk result end
read_before (Ok x) end h = h
read_before (Err e) end h = tt

pub not_read : {D : Type 0} (e : Error) (result : Result D Error) (end : Type 0) → result ≡ Err e → OnOk result end
not_read e result end is = subst (λ r. OnOk r end) (sym is) tt

-- The error of loading that an error of opening gives.
abbrev pub IsErrorOf : ReadError → Error → Type 0
IsErrorOf e error =
    (error_kind e ≡ OutOfMemory → error ≡ Memory alloc_error) × (error_kind e ≢ OutOfMemory → error ≡ IO e) × IsReadError error

-- Opening, with its error as one of loading.
abbrev pub IsOpened : {F : Type 0} → Result F ReadError → Result F Error → Type 0
IsOpened opened result = MatchResult opened (λ file. result ≡ Ok file) (λ e. IsErrAnd result (IsErrorOf e))

pub opened_by : {F : Type 0} (opened : Result F ReadError) (result : Result F Error) (P : ReadError → Error → Type 0) → MatchResult opened (λ file. result ≡ Ok file) (λ e. IsErrAnd result (P e))
    → ((e : ReadError) (error : Error) → P e error → IsErrorOf e error) → IsOpened opened result
opened_by (Ok file) result P h tells = h
opened_by (Err e) (Ok file) P h tells = absurd h
opened_by (Err e) (Err error) P h tells = tells e error h

pub bytes_of_opened : {F : Type 0} (remaining : F → Option (List ℕ)) (opened : Result F ReadError) (result : Result F Error) (known : Option (List ℕ)) → IsOpened opened result
    → IfOk opened (λ file. IfSome known (λ bytes. remaining file ≡ Some bytes)) → IfOk result (λ file. IfSome known (λ bytes. remaining file ≡ Some bytes))
bytes_of_opened remaining (Ok file) result known is h = subst (λ r. IfOk r (λ f. IfSome known (λ bytes. remaining f ≡ Some bytes))) (sym is) h
bytes_of_opened remaining (Err e) (Ok file) known is h = absurd is
bytes_of_opened remaining (Err e) (Err error) known is h = tt

absent_error : (F : Type 0) (e : ReadError) (error : Error) → IsErrorOf e error → error_kind e ≡ NotFound → IsNotThere (failure F error)
absent_error F e error is h =
    let apart : error_kind e ≢ OutOfMemory = λ kind. let same = sym h ∙ kind in absurd cc in
    subst (λ x. IsNotThere (failure F x)) (sym (is.1 apart)) h

pub absent_when_opened : {F : Type 0} (opened : Result F ReadError) (result : Result F Error) → IsOpened opened result
    → MatchResult opened (λ _. ⊥) (λ e. error_kind e ≡ NotFound) → IsNotThere result
absent_when_opened (Ok file) result is h = absurd h
absent_when_opened (Err e) (Ok file) is h = absurd is
absent_when_opened {F} (Err e) (Err error) is h = absent_error F e error is h

-- The error is an I/O error of the kind NotFound.
abbrev IsAbsence : Error → Type 0
IsAbsence (IO e) = error_kind e ≡ NotFound
IsAbsence _ = ⊥

no_absence : (e : ReadError) (error : Error) → IsErrorOf e error → error_kind e ≢ NotFound → IsAbsence error → ⊥
no_absence e error is other h =
    let apart : error_kind e ≢ OutOfMemory = λ kind. subst IsAbsence (is.0 kind) h in
    other (subst IsAbsence (is.1 apart) h)

present_error : (F : Type 0) (e : ReadError) (error : Error) → IsErrorOf e error → error_kind e ≢ NotFound → IsNotMissing (failure F error)
present_error F e (Deserialization line cause) is other = tt
present_error F e (IO x) is other = no_absence e (IO x) is other
present_error F e (LanguageMismatch expected found) is other = tt
present_error F e (Memory x) is other = tt

pub present_when_opened : {F : Type 0} (opened : Result F ReadError) (result : Result F Error) (known : Option (List ℕ)) → IsOpened opened result
    → IfErr opened (λ e. IfSome known (λ _. error_kind e ≢ NotFound)) → IfSome known (λ _. IsNotMissing result)
present_when_opened opened result None is h = tt
present_when_opened (Ok file) result (Some bytes) is h = subst IsNotMissing (sym is) tt
present_when_opened (Err e) (Ok file) (Some bytes) is h = tt
present_when_opened {F} (Err e) (Err error) (Some bytes) is h = present_error F e error is h

pub error_of_opened : {F : Type 0} (opened : Result F ReadError) (result : Result F Error) → IsOpened opened result → IfErr result IsReadError
error_of_opened (Ok file) result is = subst (λ r. IfErr r IsReadError) (sym is) tt
error_of_opened (Err e) (Ok file) is = tt
error_of_opened (Err e) (Err error) is = is.2

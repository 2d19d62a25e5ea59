-- Loading by the bytes that were read is loading by those that the reader had left.
use Rattle.std.specs.Prelude.{⊤}
use Rattle.std.proofs.Common.{◌≡◌, ◌≢◌, ℕ, List, Option, None, Some, Result, Ok, Err, IfOk, IfErr, IfSome, OnOk, subst, sym, alloc_error}
use Rattle.std.specs.IoError.{error_kind}
use Rattle.std.specs.declared.io.Error.{Error as ReadError}
use Rattle.std.specs.declared.io.ErrorKind.TheVariants.{OutOfMemory}
use Rattle.hyphenation_grammar.specs.declared.Cause.{Cause}
use Rattle.hyphenation_grammar.specs.declared.Error.{Error}
use Rattle.hyphenation_grammar.specs.declared.Error.TheVariants.{Deserialization, IO, LanguageMismatch, Memory}
use Rattle.hyphenation_reader.specs.declared.reader.Refusal.{Refusal}
use Rattle.hyphenation_reader.specs.declared.reader.Refusal.TheVariants.{Memory as NoMemory, Fault}
use Rattle.hyphenation_reader.specs.Refusals.{IsRefusal}
use Rattle.hyphenation_load.specs.Load.{Loads, IsLoadError, HasNoMismatch, IsNotIo, IsNotOutOfMemory}
use Rattle.hyphenation_load.specs.Private.Load.{error_of}

-- The result is an error that says nothing of a text.
abbrev IsOfNoText : {D : Type 0} → Result D Error → Type 0
IsOfNoText (Err (IO e)) = ⊤
IsOfNoText (Err (Memory e)) = ⊤
IsOfNoText _ = ⊥

-- An error of reading gives no other result.
not_otherwise : {D : Type 0} (e : ReadError) (result : Result D Error) → (error_kind e ≡ OutOfMemory → result ≡ Err (Memory alloc_error)) → (error_kind e ≢ OutOfMemory → result ≡ Err (IO e)) → (IsOfNoText result → ⊥) → ⊥
not_otherwise e result memory io other =
    other (subst IsOfNoText (sym (io (λ kind. other (subst IsOfNoText (sym (memory kind)) tt)))) tt)

-- An error of reading says nothing of a text.
of_error : {D : Type 0} (refusal : Option (ℕ × Cause)) (contents : D) (e : ReadError) (result : Result D Error) → (error_kind e ≡ OutOfMemory → result ≡ Err (Memory alloc_error)) → (error_kind e ≢ OutOfMemory → result ≡ Err (IO e)) → Loads refusal contents result
of_error refusal contents e (Ok dictionary) memory io = absurd (not_otherwise e (Ok dictionary) memory io (λ x. x))
of_error refusal contents e (Err (Deserialization line cause)) memory io = absurd (not_otherwise e (Err (Deserialization line cause)) memory io (λ x. x))
of_error refusal contents e (Err (IO x)) memory io = tt
of_error refusal contents e (Err (LanguageMismatch expected found)) memory io = absurd (not_otherwise e (Err (LanguageMismatch expected found)) memory io (λ x. x))
of_error refusal contents e (Err (Memory x)) memory io = tt

pub loaded_as_left : {V D : Type 0} (items : V → List ℕ) (refusal : List ℕ → Option (ℕ × Cause)) (contents : List ℕ → D) (left : Option (List ℕ)) (read : Result V ReadError) (result : Result D Error)
    → IfOk read (λ v. IfSome left (λ bytes. items v ≡ bytes))
    → IfOk read (λ v. Loads (refusal (items v)) (contents (items v)) result)
    → IfErr read (λ e. error_kind e ≡ OutOfMemory → result ≡ Err (Memory alloc_error))
    → IfErr read (λ e. error_kind e ≢ OutOfMemory → result ≡ Err (IO e))
    → IfSome left (λ bytes. Loads (refusal bytes) (contents bytes) result)
loaded_as_left items refusal contents None read result is loaded memory io = tt
loaded_as_left items refusal contents (Some bytes) (Ok v) result is loaded memory io = subst (λ b. Loads (refusal b) (contents b) result) is loaded
loaded_as_left items refusal contents (Some bytes) (Err e) result is loaded memory io = of_error (refusal bytes) (contents bytes) e result memory io

-- A dictionary is given only by bytes that were read.
pub read_to_end : {V D : Type 0} (read : Result V ReadError) (result : Result D Error) (end : Type 0) → OnOk read end
    → IfErr read (λ e. error_kind e ≡ OutOfMemory → result ≡ Err (Memory alloc_error)) → IfErr read (λ e. error_kind e ≢ OutOfMemory → result ≡ Err (IO e)) → OnOk result end
read_to_end (Ok v) (Ok dictionary) end h memory io = h
read_to_end (Err e) (Ok dictionary) end h memory io = absurd (not_otherwise e (Ok dictionary) memory io (λ x. x))
read_to_end read (Err e) end h memory io = tt

-- No language is asked for.
pub never_mismatched : {V D : Type 0} (refusal : V → Option (ℕ × Cause)) (contents : V → D) (read : Result V ReadError) (result : Result D Error)
    → IfOk read (λ v. Loads (refusal v) (contents v) result)
    → IfErr read (λ e. error_kind e ≡ OutOfMemory → result ≡ Err (Memory alloc_error))
    → IfErr read (λ e. error_kind e ≢ OutOfMemory → result ≡ Err (IO e)) → HasNoMismatch result
never_mismatched refusal contents read (Ok dictionary) loaded memory io = tt
never_mismatched refusal contents read (Err (Deserialization line cause)) loaded memory io = tt
never_mismatched refusal contents read (Err (IO x)) loaded memory io = tt
never_mismatched refusal contents read (Err (Memory x)) loaded memory io = tt
never_mismatched refusal contents (Ok v) (Err (LanguageMismatch expected found)) loaded memory io = absurd loaded
never_mismatched refusal contents (Err e) (Err (LanguageMismatch expected found)) loaded memory io =
    absurd (not_otherwise e (Err (LanguageMismatch expected found)) memory io (λ x. x))

-- The result is an I/O error of the kind OutOfMemory.
abbrev IsIoOutOfMemory : {D : Type 0} → Result D Error → Type 0
IsIoOutOfMemory (Err (IO e)) = error_kind e ≡ OutOfMemory
IsIoOutOfMemory _ = ⊥

never_io_out_of_memory : {D : Type 0} (e : ReadError) (result : Result D Error) → (error_kind e ≡ OutOfMemory → result ≡ Err (Memory alloc_error)) → (error_kind e ≢ OutOfMemory → result ≡ Err (IO e)) → IsIoOutOfMemory result → ⊥
never_io_out_of_memory e result memory io h =
    let apart : error_kind e ≢ OutOfMemory = λ kind. subst IsIoOutOfMemory (memory kind) h in
    apart (subst IsIoOutOfMemory (io apart) h)

-- Memory that was refused is no I/O error.
pub never_out_of_memory : {V D : Type 0} (read : Result V ReadError) (result : Result D Error) → IfOk read (λ _. IsNotIo result)
    → IfErr read (λ e. error_kind e ≡ OutOfMemory → result ≡ Err (Memory alloc_error)) → IfErr read (λ e. error_kind e ≢ OutOfMemory → result ≡ Err (IO e)) → IfErr result IsNotOutOfMemory
never_out_of_memory read (Ok dictionary) none memory io = tt
never_out_of_memory read (Err (Deserialization line cause)) none memory io = tt
never_out_of_memory read (Err (LanguageMismatch expected found)) none memory io = tt
never_out_of_memory read (Err (Memory x)) none memory io = tt
never_out_of_memory (Ok v) (Err (IO x)) none memory io = absurd none
never_out_of_memory (Err e) (Err (IO x)) none memory io = never_io_out_of_memory e (Err (IO x)) memory io

-- A refused text gives its fault, or says that memory was refused.
pub refused : (refusal : Option (ℕ × Cause)) (given : Refusal) (e : Error) → e ≡ error_of given → IsRefusal given refusal → IsLoadError refusal e
refused refusal NoMemory e is h = subst (IsLoadError refusal) (sym is) tt
refused refusal (Fault line cause) e is h = subst (IsLoadError refusal) (sym is) h

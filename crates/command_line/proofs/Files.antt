-- Files that are there, or not, and the first of several that is.
use Rattle.std.proofs.Common.{Global, ◌≡◌, ◌≢◌, ℕ, suc, zero, ◌+◌, ◌<◌, List, [], ◌∷◌, ◌++◌, length, map, take, drop, get_or, refl, sym, ap, subst, ◌∙◌, inl, inr}
use Rattle.std.specs.Prelude.{◌⊎◌, Option, None, Some, IfErr, IfSome, Result, Err, Ok, true, false, if◌then◌else◌}
use Rattle.std.specs.String.{string_bytes}
use Rattle.std.specs.declared.string.String.{String}
use Rattle.std.proofs.lemmas.List.{map_push, take_more}
use Rattle.std.specs.declared.io.ErrorKind.{ErrorKind}
use Rattle.std.specs.declared.io.ErrorKind.TheVariants.{NotFound}
use Rattle.named_files.specs.Files.{known_bytes}
use Rattle.any_dictionary.specs.declared.AnyDictionary.{AnyDictionary}
use Rattle.language_search.specs.Paths.{paths_of}
use Rattle.command_line.specs.Dictionaries.{KnownFiles, is_path, paths_for, IsOfFile, IsOfFileIfThere, IsOfFirst, IsOfArgument, IsFailureOf, IsFirstFailureOf, IsRefusedAmong, IsRefusedFile, IsRefusedFirst}
use Rattle.hyphenation_grammar.specs.declared.Error.{Error}
use Rattle.hyphenation_grammar.specs.declared.Error.TheVariants.{Deserialization, IO, LanguageMismatch, Memory}
use Rattle.hyphenation_load.specs.Load.{HasNoMismatch}
use Rattle.command_line.specs.Private.Failures.{IsMismatch, IsMissing}
use Rattle.command_line.specs.declared.failure.Failure.{Failure}
use Rattle.command_line.specs.declared.failure.Failure.TheVariants as failed

none_known : (known : Option (List ℕ)) (kind : ErrorKind) → IfSome known (λ _. kind ≢ NotFound) → kind ≡ NotFound → known ≡ None
none_known None kind h e = refl
none_known (Some bytes) kind h e = absurd (h e)

-- A file that is not found is not known to be there.
pub not_there : (file : Option (Option (List ℕ))) (kind : ErrorKind) → IfSome (known_bytes file) (λ _. kind ≢ NotFound) → kind ≡ NotFound
    → known_bytes file ≡ None
not_there file kind h e = none_known (known_bytes file) kind h e

last_there : (bytes_of : List ℕ → Option (Option (List ℕ))) (path : List ℕ) (found : Option AnyDictionary)
    → IsOfFileIfThere (bytes_of path) found → IsOfFirst bytes_of (path ∷ []) found
last_there bytes_of path None h = inr (h, refl)
last_there bytes_of path (Some dictionary) h = inl (dictionary, refl, h)

-- Where none of some files is there, the first of more is the first of all.
pub none_then : (bytes_of : List ℕ → Option (Option (List ℕ))) (paths more : List (List ℕ)) (found : Option AnyDictionary)
    → IsOfFirst bytes_of paths None → IsOfFirst bytes_of more found → IsOfFirst bytes_of (paths ++ more) found
none_then bytes_of [] more found none first = first
none_then bytes_of (path ∷ paths) more found (inl (dictionary, e, h)) first = absurd (cc e)
none_then bytes_of (path ∷ paths) more found (inr (absent, none)) first = inr (absent, none_then bytes_of paths more found none first)

-- A first file is so before more of them.
pub some_stays : (bytes_of : List ℕ → Option (Option (List ℕ))) (paths more : List (List ℕ)) (dictionary : AnyDictionary)
    → IsOfFirst bytes_of paths (Some dictionary) → IsOfFirst bytes_of (paths ++ more) (Some dictionary)
some_stays bytes_of [] more dictionary e = absurd (cc e)
some_stays bytes_of (path ∷ paths) more dictionary (inl h) = inl h
some_stays bytes_of (path ∷ paths) more dictionary (inr (absent, h)) = inr (absent, some_stays bytes_of paths more dictionary h)

abbrev paths_to : List (String Global) → ℕ → List (List ℕ)
paths_to paths i = map string_bytes (take i paths)

paths_more : (paths : List (String Global)) (i : ℕ) (d : String Global) → i < length paths
    → paths_to paths (i + 1) ≡ paths_to paths i ++ string_bytes (get_or paths i d) ∷ []
paths_more paths i d lt = ap (map string_bytes) (take_more paths i d lt) ∙ map_push string_bytes (take i paths) (get_or paths i d)

-- The file of one path more is not there, or it is the first one.
pub one_more_path : (bytes_of : List ℕ → Option (Option (List ℕ))) (paths : List (String Global)) (i : ℕ) (path : String Global)
    (found : Option AnyDictionary) → i < length paths → path ≡ get_or paths i path → IsOfFirst bytes_of (paths_to paths i) None
    → IsOfFileIfThere (bytes_of (string_bytes path)) found → IsOfFirst bytes_of (paths_to paths (i + 1)) found
one_more_path bytes_of paths i path found lt is none h =
    let more : paths_to paths (i + 1) ≡ paths_to paths i ++ string_bytes path ∷ [] =
    paths_more paths i path lt ∙ ap (λ x. paths_to paths i ++ string_bytes x ∷ []) (sym is) in
    subst (λ all. IsOfFirst bytes_of all found) (sym more)
    (none_then bytes_of (paths_to paths i) (string_bytes path ∷ []) found none (last_there bytes_of (string_bytes path) found h))

paths_apart : (paths : List (String Global)) (i : ℕ) → map string_bytes paths ≡ paths_to paths i ++ map string_bytes (drop i paths)
paths_apart paths zero = refl
paths_apart [] (suc i) = refl
paths_apart (path ∷ paths) (suc i) = ap (λ all. string_bytes path ∷ all) (paths_apart paths i)

-- A first file is so before the paths that are left.
pub found_before_others : (bytes_of : List ℕ → Option (Option (List ℕ))) (paths : List (String Global)) (i : ℕ) (dictionary : AnyDictionary)
    → IsOfFirst bytes_of (paths_to paths (i + 1)) (Some dictionary) → IsOfFirst bytes_of (map string_bytes paths) (Some dictionary)
found_before_others bytes_of paths i dictionary h =
    subst (λ all. IsOfFirst bytes_of all (Some dictionary)) (sym (paths_apart paths (i + 1)))
    (some_stays bytes_of (paths_to paths (i + 1)) (map string_bytes (drop (i + 1) paths)) dictionary h)

-- A call that failed did not find that there is no file.
pub not_absent : (P : Type 0) (result : Result (Option AnyDictionary) Failure) (failure : Failure)
    → result ≡ Err failure → (P → result ≡ Ok None) → P → ⊥
not_absent P result failure e none p = absurd (cc (sym e ∙ none p))

-- A dictionary that is loaded in no language is refused for no mismatch.
pub no_mismatch : {D : Type 0} (result : Result D Error) (cause : Error) → result ≡ Err cause → HasNoMismatch result → IsMismatch cause → ⊥
no_mismatch result (LanguageMismatch expected found) e h is = subst (λ r. HasNoMismatch r) e h
no_mismatch result (IO x) e h is = is
no_mismatch result (Memory x) e h is = is
no_mismatch result (Deserialization line cause) e h is = is

-- ---- the first file that is refused

memory_at : (file : Option (Option (List ℕ))) (path : List ℕ) (Later : Type 0) → Later
    → ((file ≢ Some None) × IsRefusedFile file path failed.Memory) ⊎ ((known_bytes file ≡ None) × Later)
memory_at None path Later h = inl ((λ e. absurd (cc e)), tt)
memory_at (Some None) path Later h = inr (refl, h)
memory_at (Some (Some bytes)) path Later h = inl ((λ e. absurd (cc e)), tt)

-- Memory may be refused at any files.
pub memory_first : (bytes_of : KnownFiles) (paths : List (List ℕ)) → IsRefusedFirst bytes_of paths failed.Memory
memory_first bytes_of [] = refl
memory_first bytes_of (path ∷ paths) = memory_at (bytes_of path) path (IsRefusedFirst bytes_of paths failed.Memory) (memory_first bytes_of paths)

-- Where none of some files is there, the first refusal of more is the first of all.
first_then : (bytes_of : KnownFiles) (paths more : List (List ℕ)) (failure : Failure)
    → IsOfFirst bytes_of paths None → IsRefusedFirst bytes_of more failure → IsRefusedFirst bytes_of (paths ++ more) failure
first_then bytes_of [] more failure none first = first
first_then bytes_of (path ∷ paths) more failure (inl (dictionary, e, h)) first = absurd (cc e)
first_then bytes_of (path ∷ paths) more failure (inr (absent, none)) first = inr (absent, first_then bytes_of paths more failure none first)

-- A first refusal is so before more files.
first_stays : (bytes_of : KnownFiles) (paths more : List (List ℕ)) (failure : Failure)
    → IsRefusedFirst bytes_of paths failure → IsRefusedFirst bytes_of (paths ++ more) failure
first_stays bytes_of [] more failure e = subst (λ f. IsRefusedFirst bytes_of more f) (sym e) (memory_first bytes_of more)
first_stays bytes_of (path ∷ paths) more failure (inl h) = inl h
first_stays bytes_of (path ∷ paths) more failure (inr (absent, h)) = inr (absent, first_stays bytes_of paths more failure h)

-- Where none of the files before is there, a refusal is the first of all.
pub refused_before_others : (bytes_of : KnownFiles) (paths : List (String Global)) (i : ℕ) (path : String Global) (failure : Failure)
    → i < length paths → path ≡ get_or paths i path → IsOfFirst bytes_of (paths_to paths i) None
    → (bytes_of (string_bytes path) ≢ Some None) → IsRefusedFile (bytes_of (string_bytes path)) (string_bytes path) failure
    → IsRefusedFirst bytes_of (map string_bytes paths) failure
refused_before_others bytes_of paths i path failure lt is none there h =
    let more : paths_to paths (i + 1) ≡ paths_to paths i ++ string_bytes path ∷ [] =
    paths_more paths i path lt ∙ ap (λ x. paths_to paths i ++ string_bytes x ∷ []) (sym is) in
    subst (λ all. IsRefusedFirst bytes_of all failure) (sym (paths_apart paths (i + 1)))
    (first_stays bytes_of (paths_to paths (i + 1)) (map string_bytes (drop (i + 1) paths)) failure
    (subst (λ all. IsRefusedFirst bytes_of all failure) (sym more)
    (first_then bytes_of (paths_to paths i) (string_bytes path ∷ []) failure none (inl (there, h)))))

-- A first refusal among the files of an argument is the first failure of the argument.
pub first_of_argument : (bytes_of : KnownFiles) (folders : List (List ℕ)) (argument : List ℕ) (paths : List (List ℕ)) (failure : Failure)
    → paths ≡ paths_for folders argument → IsRefusedFirst bytes_of paths failure → IsFirstFailureOf bytes_of folders argument failure
first_of_argument bytes_of folders argument paths (failed.NoDictionary language) e h = tt
first_of_argument bytes_of folders argument paths (failed.Dictionary path cause) e h = subst (λ all. IsRefusedFirst bytes_of all (failed.Dictionary path cause)) e h
first_of_argument bytes_of folders argument paths (failed.Exceptions list refusal) e h = subst (λ all. IsRefusedFirst bytes_of all (failed.Exceptions list refusal)) e h
first_of_argument bytes_of folders argument paths (failed.Refused input cause) e h = subst (λ all. IsRefusedFirst bytes_of all (failed.Refused input cause)) e h
first_of_argument bytes_of folders argument paths (failed.Reading input) e h = subst (λ all. IsRefusedFirst bytes_of all (failed.Reading input)) e h
first_of_argument bytes_of folders argument paths (failed.Writing output) e h = subst (λ all. IsRefusedFirst bytes_of all (failed.Writing output)) e h
first_of_argument bytes_of folders argument paths failed.Output e h = subst (λ all. IsRefusedFirst bytes_of all failed.Output) e h
first_of_argument bytes_of folders argument paths failed.Memory e h = subst (λ all. IsRefusedFirst bytes_of all failed.Memory) e h

-- Without a dictionary the first failure of an argument is none of a file.
pub first_of_missing : (bytes_of : KnownFiles) (folders : List (List ℕ)) (argument : List ℕ) (failure : Failure)
    → IsMissing argument failure → IsFirstFailureOf bytes_of folders argument failure
first_of_missing bytes_of folders argument (failed.NoDictionary language) h = tt
first_of_missing bytes_of folders argument failed.Memory h = memory_first bytes_of (paths_for folders argument)
first_of_missing bytes_of folders argument (failed.Dictionary path cause) h = absurd h
first_of_missing bytes_of folders argument (failed.Exceptions list refusal) h = absurd h
first_of_missing bytes_of folders argument (failed.Refused input cause) h = absurd h
first_of_missing bytes_of folders argument (failed.Reading input) h = absurd h
first_of_missing bytes_of folders argument (failed.Writing output) h = absurd h
first_of_missing bytes_of folders argument failed.Output h = absurd h

-- ---- the dictionary of an argument

-- The dictionary of the file at a path is that of the argument.
pub of_path : (bytes_of : KnownFiles) (folders : List (List ℕ)) (argument : List ℕ) → is_path argument ≡ true → (dictionary : AnyDictionary)
    → IsOfFile (bytes_of argument) dictionary → IsOfArgument bytes_of folders argument dictionary
of_path bytes_of folders argument e dictionary h =
    subst (λ paths. IsOfFirst bytes_of paths (Some dictionary))
    (sym (ap (λ b. if b then argument ∷ [] else paths_of folders argument) e)) (inl (dictionary, refl, h))

-- A tag is looked for at the paths of its language.
pub paths_of_tag : (folders : List (List ℕ)) (argument : List ℕ) → is_path argument ≡ false → paths_of folders argument ≡ paths_for folders argument
paths_of_tag folders argument e = sym (ap (λ b. if b then argument ∷ [] else paths_of folders argument) e)

-- A file that is refused among those of an argument is the failure of the argument.
pub refused_among : (bytes_of : KnownFiles) (folders : List (List ℕ)) (argument : List ℕ) (paths : List (List ℕ)) (failure : Failure)
    → paths ≡ paths_for folders argument → IsRefusedAmong bytes_of paths failure → IsFailureOf bytes_of folders argument failure
refused_among bytes_of folders argument paths (failed.NoDictionary language) e (path, there, none) = absurd none
refused_among bytes_of folders argument paths (failed.Dictionary path cause) e h = subst (λ all. IsRefusedAmong bytes_of all (failed.Dictionary path cause)) e h
refused_among bytes_of folders argument paths (failed.Exceptions list refusal) e h = subst (λ all. IsRefusedAmong bytes_of all (failed.Exceptions list refusal)) e h
refused_among bytes_of folders argument paths (failed.Refused input cause) e h = subst (λ all. IsRefusedAmong bytes_of all (failed.Refused input cause)) e h
refused_among bytes_of folders argument paths (failed.Reading input) e h = subst (λ all. IsRefusedAmong bytes_of all (failed.Reading input)) e h
refused_among bytes_of folders argument paths (failed.Writing output) e h = subst (λ all. IsRefusedAmong bytes_of all (failed.Writing output)) e h
refused_among bytes_of folders argument paths failed.Output e h = subst (λ all. IsRefusedAmong bytes_of all failed.Output) e h
refused_among bytes_of folders argument paths failed.Memory e h = tt

-- An error is what its failure is.
pub is_error : {D : Type 0} (P : Failure → Type 0) (result : Result D Failure) (failure : Failure) → result ≡ Err failure → P failure → IfErr result P
is_error P result failure e h = subst (λ r. IfErr r P) (sym e) h

-- The failures of dictionaries.
use Rattle.std.proofs.Common.{Global, ◌≡◌, ℕ, ◌<◌, List, [], ◌∷◌, length, map, get_or, refl, sym, ap, subst, inl, inr, ◌∙◌}
use Rattle.std.specs.Prelude.{Contains, Err, IfErr, None, Option, Result, Some}
use Rattle.std.specs.declared.string.String.{String}
use Rattle.std.proofs.lemmas.List.{get_or-map, length-map}
use Rattle.std.proofs.lemmas.List.Elements.{Contains-get_or}
use Rattle.any_dictionary.specs.declared.AnyDictionary.{AnyDictionary}
use Rattle.command_line.specs.Adjustments.{Adjustments, IsFailureOfAdjusting, IsRefusedFirstList, IsRefusedIfGiven, IsRefusedList}
use Rattle.command_line.specs.Dictionaries.{KnownFiles, IsOfFile, IsOfFirst, IsRefusedAmong, IsRefusedFile}
use Rattle.command_line.specs.declared.failure.Failure.{Failure}
use Rattle.command_line.specs.declared.failure.Failure.TheVariants as failed
use Rattle.command_line.specs.declared.failure.ListRefusal.{ListRefusal}
use Rattle.hyphenation_breaks.specs.Language.{IsCode}
use Rattle.language_search.specs.Paths.{exception_paths_of_code, paths_of_code}
use Rattle.html_command.specs.Arguments.{ParsedOptions}
use Rattle.html_command.specs.Dictionaries.{IsFailureOfFound, IsPathFor, IsRefusedFor, folders_for}
use Rattle.html_command.specs.Private.Requests.{parsed_dictionary}
use Rattle.html_command.specs.Private.Runs.{IsRefusedAt, IsRefusedFound, IsRefusedGiven}
use Rattle.html_command.specs.declared.request.GivenDictionary.{GivenDictionary}

-- ---- failures over lists of exceptions

of_list : (P : Failure → Type 0) → ((list : String Global) (refusal : ListRefusal) → P (failed.Exceptions list refusal)) → P failed.Memory
    → (file : Option (Option (List ℕ))) (path : List ℕ) (failure : Failure) → IsRefusedList file path failure → P failure
of_list P refused memory file path (failed.Exceptions list refusal) is = refused list refusal
of_list P refused memory file path failed.Memory is = memory
of_list P refused memory file path (failed.Dictionary named cause) is = absurd is
of_list P refused memory file path (failed.NoDictionary language) is = absurd is
of_list P refused memory file path (failed.Refused input cause) is = absurd is
of_list P refused memory file path (failed.Reading input) is = absurd is
of_list P refused memory file path (failed.Writing output) is = absurd is
of_list P refused memory file path failed.Output is = absurd is

of_first : (P : Failure → Type 0) → ((list : String Global) (refusal : ListRefusal) → P (failed.Exceptions list refusal)) → P failed.Memory
    → (bytes_of : KnownFiles) (paths : List (List ℕ)) (failure : Failure) → IsRefusedFirstList bytes_of paths failure → P failure
of_first P refused memory bytes_of [] failure is = absurd is
of_first P refused memory bytes_of (path ∷ paths) failure (inl is) = of_list P refused memory (bytes_of path) path failure is.1
of_first P refused memory bytes_of (path ∷ paths) failure (inr is) = of_first P refused memory bytes_of paths failure is.1

of_list_given : (P : Failure → Type 0) → ((list : String Global) (refusal : ListRefusal) → P (failed.Exceptions list refusal)) → P failed.Memory
    → (bytes_of : KnownFiles) (path : Option (List ℕ)) (failure : Failure) → IsRefusedIfGiven bytes_of path failure → P failure
of_list_given P refused memory bytes_of None failure is = absurd is
of_list_given P refused memory bytes_of (Some path) failure is = of_list P refused memory (bytes_of path) path failure is

-- A failure of adjustments is the refusal of a list, or memory was refused.
of_adjusting : (P : Failure → Type 0) → ((list : String Global) (refusal : ListRefusal) → P (failed.Exceptions list refusal)) → P failed.Memory
    → (bytes_of : KnownFiles) (paths : List (List ℕ)) (adjustments : Adjustments) (old : AnyDictionary) (failure : Failure)
    → IsFailureOfAdjusting bytes_of paths adjustments old failure → P failure
of_adjusting P refused memory bytes_of paths adjustments old failure (inl is) = of_first P refused memory bytes_of paths failure is
of_adjusting P refused memory bytes_of paths adjustments old failure (inr is) = of_list_given P refused memory bytes_of adjustments.exceptions failure is.2

-- ---- paths that are given

abbrev path_of : GivenDictionary → List ℕ
path_of given = given.path.now

has_path : (given : List GivenDictionary) (i : ℕ) (one : GivenDictionary) → i < length given → one ≡ get_or given i one → Contains (map path_of given) (path_of one)
has_path given i one lt is =
    subst (λ (path : List ℕ). Contains (map path_of given) path)
    (get_or-map path_of given i one (path_of one) lt ∙ ap path_of (sym is))
    (Contains-get_or (map path_of given) i (path_of one) (subst (λ (n : ℕ). i < n) (sym (length-map given path_of)) lt))

-- ---- a dictionary at a path

-- Its file is refused.
pub at_path : (bytes_of : KnownFiles) (adjustments : Adjustments) (path : List ℕ) (failure : Failure)
    → IsRefusedFile (bytes_of path) path failure → IsRefusedAt bytes_of adjustments path failure
at_path bytes_of adjustments path failed.Memory is = tt
at_path bytes_of adjustments path (failed.Dictionary named cause) is = is
at_path bytes_of adjustments path (failed.Exceptions list refusal) is = absurd is
at_path bytes_of adjustments path failed.Output is = absurd is
at_path bytes_of adjustments path (failed.NoDictionary language) is = absurd is
at_path bytes_of adjustments path (failed.Refused input cause) is = absurd is
at_path bytes_of adjustments path (failed.Reading input) is = absurd is
at_path bytes_of adjustments path (failed.Writing output) is = absurd is

-- The list that it gets is refused.
pub list_at_path : (bytes_of : KnownFiles) (adjustments : Adjustments) (path : List ℕ) (named : AnyDictionary) (failure : Failure)
    → IsOfFile (bytes_of path) named → IsFailureOfAdjusting bytes_of [] adjustments named failure → IsRefusedAt bytes_of adjustments path failure
list_at_path bytes_of adjustments path named failure loaded is =
    of_adjusting (λ (f : Failure). IsFailureOfAdjusting bytes_of [] adjustments named f → IsRefusedAt bytes_of adjustments path f)
    (λ list refusal fails. (named, loaded, fails)) (λ fails. tt) bytes_of [] adjustments named failure is is

-- A dictionary that the arguments give is refused, or its list.
pub given_is_refused : (bytes_of : KnownFiles) (adjustments : Adjustments) (given : List GivenDictionary) (i : ℕ) (one : GivenDictionary) (failure : Failure) → i < length given
    → one ≡ get_or given i one → IsRefusedAt bytes_of adjustments one.path.now failure → IsRefusedGiven bytes_of adjustments (map (λ one. one.path.now) given) failure
given_is_refused bytes_of adjustments given i one failed.Memory lt at is = tt
given_is_refused bytes_of adjustments given i one (failed.Dictionary named cause) lt at is = (one.path.now, has_path given i one lt at, is)
given_is_refused bytes_of adjustments given i one (failed.Exceptions list refusal) lt at is = (one.path.now, has_path given i one lt at, is)
given_is_refused bytes_of adjustments given i one failed.Output lt at is = absurd is
given_is_refused bytes_of adjustments given i one (failed.NoDictionary language) lt at is = absurd is
given_is_refused bytes_of adjustments given i one (failed.Refused input cause) lt at is = absurd is
given_is_refused bytes_of adjustments given i one (failed.Reading input) lt at is = absurd is
given_is_refused bytes_of adjustments given i one (failed.Writing output) lt at is = absurd is

-- ---- a dictionary of a code

-- A file that folders have for a code is refused.
pub found_is_refused : (bytes_of : KnownFiles) (folders : List (List ℕ)) (adjustments : Adjustments) (code : List ℕ) (failure : Failure) → IsCode code
    → IsRefusedAmong bytes_of (paths_of_code folders code) failure → IsRefusedFound bytes_of folders adjustments failure
found_is_refused bytes_of folders adjustments code failed.Memory is among = tt
found_is_refused bytes_of folders adjustments code (failed.Dictionary named cause) is among = (code, is, among)
found_is_refused bytes_of folders adjustments code (failed.Exceptions list refusal) is among = absurd among.2
found_is_refused bytes_of folders adjustments code failed.Output is among = absurd among.2
found_is_refused bytes_of folders adjustments code (failed.NoDictionary language) is among = absurd among.2
found_is_refused bytes_of folders adjustments code (failed.Refused input cause) is among = absurd among.2
found_is_refused bytes_of folders adjustments code (failed.Reading input) is among = absurd among.2
found_is_refused bytes_of folders adjustments code (failed.Writing output) is among = absurd among.2

-- A list that its dictionary gets is refused.
pub list_is_refused : (bytes_of : KnownFiles) (folders : List (List ℕ)) (adjustments : Adjustments) (code : List ℕ) (named : AnyDictionary) (failure : Failure) → IsCode code
    → IsOfFirst bytes_of (paths_of_code folders code) (Some named) → IsFailureOfAdjusting bytes_of (exception_paths_of_code folders code) adjustments named failure
    → IsRefusedFound bytes_of folders adjustments failure
list_is_refused bytes_of folders adjustments code named failure is first fails =
    of_adjusting
    (λ (f : Failure). IsFailureOfAdjusting bytes_of (exception_paths_of_code folders code) adjustments named f → IsRefusedFound bytes_of folders adjustments f)
    (λ list refusal of_lists. (code, is, (named, first, of_lists))) (λ of_lists. tt)
    bytes_of (exception_paths_of_code folders code) adjustments named failure fails fails

pub list_is_refused_so : {A : Type 0} (bytes_of : KnownFiles) (folders : List (List ℕ)) (adjustments : Adjustments) (code : List ℕ) (paths lists : List (List ℕ))
    (found : Option AnyDictionary) (named : AnyDictionary) (error returned : Failure) (result : Result A Failure) → IsCode code
    → paths ≡ paths_of_code folders code → lists ≡ exception_paths_of_code folders code → found ≡ Some named → IsOfFirst bytes_of paths found
    → IsFailureOfAdjusting bytes_of lists adjustments named error → result ≡ Err returned → returned ≡ error → IfErr result (IsRefusedFound bytes_of folders adjustments)
list_is_refused_so {A} bytes_of folders adjustments code paths lists found named error returned result is_code of_code of_lists is first fails gives same =
    let at : IsOfFirst bytes_of paths (Some named) = subst (λ (f : Option AnyDictionary). IsOfFirst bytes_of paths f) is first in
    let so : IsRefusedFound bytes_of folders adjustments error =
    list_is_refused bytes_of folders adjustments code named error is_code
    (subst (λ (ps : List (List ℕ)). IsOfFirst bytes_of ps (Some named)) of_code at)
    (subst (λ (ls : List (List ℕ)). IsFailureOfAdjusting bytes_of ls adjustments named error) of_lists fails) in
    subst (λ (r : Result A Failure). IfErr r (IsRefusedFound bytes_of folders adjustments)) (sym gives)
    (subst (λ (e : Failure). IsRefusedFound bytes_of folders adjustments e) (sym same) so)

-- ---- the dictionaries of a run

paths_of_parsed : (given : List GivenDictionary) → map path_of given ≡ map (λ one. one.1) (map parsed_dictionary given)
paths_of_parsed [] = refl
paths_of_parsed (one ∷ given) = ap (λ (paths : List (List ℕ)). path_of one ∷ paths) (paths_of_parsed given)

-- So is one of the dictionaries of a run.
pub of_given : (bytes_of : KnownFiles) (options : ParsedOptions) (usual : List (List ℕ)) (given : List GivenDictionary) (failure : Failure)
    → options.given ≡ map parsed_dictionary given → IsRefusedGiven bytes_of options.adjustments (map (λ one. one.path.now) given) failure → IsRefusedFor bytes_of options usual failure
of_given bytes_of options usual given failed.Memory are among = tt
of_given bytes_of options usual given (failed.Dictionary named cause) are among = (
  among.0,
  inl (subst (λ (paths : List (List ℕ)). Contains paths among.0) (paths_of_parsed given ∙ ap (λ (all : List (List ℕ × List ℕ)). map (λ one. one.1) all) (sym are)) among.1),
  among.2,
)
of_given bytes_of options usual given failed.Output are among = absurd among.2
of_given bytes_of options usual given (failed.NoDictionary language) are among = absurd among.2
of_given bytes_of options usual given (failed.Exceptions list refusal) are among = inl (
  among.0,
  subst (λ (paths : List (List ℕ)). Contains paths among.0) (paths_of_parsed given ∙ ap (λ (all : List (List ℕ × List ℕ)). map (λ one. one.1) all) (sym are)) among.1,
  among.2,
)
of_given bytes_of options usual given (failed.Refused input cause) are among = absurd among.2
of_given bytes_of options usual given (failed.Reading input) are among = absurd among.2
of_given bytes_of options usual given (failed.Writing output) are among = absurd among.2

pub of_given_so : {A : Type 0} (bytes_of : KnownFiles) (options : ParsedOptions) (usual : List (List ℕ)) (given : List GivenDictionary) (error returned : Failure) (result : Result A Failure)
    → options.given ≡ map parsed_dictionary given → IsRefusedGiven bytes_of options.adjustments (map (λ one. one.path.now) given) error → result ≡ Err returned → returned ≡ error
    → IfErr result (IsRefusedFor bytes_of options usual)
of_given_so {A} bytes_of options usual given error returned result are among gives same =
    subst (λ (r : Result A Failure). IfErr r (IsRefusedFor bytes_of options usual)) (sym gives)
    (subst (λ (e : Failure). IsRefusedFor bytes_of options usual e) (sym same) (of_given bytes_of options usual given error are among))

pub of_found : (bytes_of : KnownFiles) (options : ParsedOptions) (usual folders : List (List ℕ)) (failure : Failure) → folders ≡ folders_for options usual
    → IsRefusedFound bytes_of folders options.adjustments failure → IsRefusedFor bytes_of options usual failure
of_found bytes_of options usual folders failed.Memory are found = tt
of_found bytes_of options usual folders (failed.Dictionary named cause) are found = (
  found.2.0,
  subst (λ (in_folders : List (List ℕ)). IsPathFor options.given in_folders found.2.0) are (inr (found.0, found.1, found.2.1)),
  found.2.2,
)
of_found bytes_of options usual folders failed.Output are found = absurd found.2.2
of_found bytes_of options usual folders (failed.NoDictionary language) are found = absurd found.2.2
of_found bytes_of options usual folders (failed.Exceptions list refusal) are found =
    inr (subst (λ (in_folders : List (List ℕ)). IsFailureOfFound bytes_of in_folders options.adjustments (failed.Exceptions list refusal)) are found)
of_found bytes_of options usual folders (failed.Refused input cause) are found = absurd found.2.2
of_found bytes_of options usual folders (failed.Reading input) are found = absurd found.2.2
of_found bytes_of options usual folders (failed.Writing output) are found = absurd found.2.2

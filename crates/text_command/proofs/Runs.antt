-- The failures of a run.
use Rattle.std.proofs.Common.{◌≡◌, ◌⊎◌, ◌++◌, ◌∙◌, ℕ, List, [], ◌∷◌, Option, append-nil, length, map, refl, sym, inl, inr}
use Rattle.any_dictionary.specs.declared.AnyDictionary.{AnyDictionary}
use Rattle.command_line.specs.Adjustments.{IsAdjustedOf, IsFailureOfAdjusted}
use Rattle.command_line.specs.Dictionaries.{KnownFiles}
use Rattle.command_line.specs.Failures.{status_of}
use Rattle.command_line.specs.Inputs.{IsFailureOfInput}
use Rattle.command_line.specs.declared.failure.Failure.{Failure}
use Rattle.command_line.specs.declared.failure.Failure.TheVariants as failed
use Rattle.text_results.specs.Files.{WrittenFiles}
use Rattle.text_results.specs.Texts.{IsFailureAmong, left_after}
use Rattle.text_results.specs.Written.{IsFailureFor}
use Rattle.text_command.specs.Arguments.{ParsedArgs, ParsedOptions}
use Rattle.text_command.specs.Private.Runs.{AreResultsBy, BeforeReading}
use Rattle.text_command.specs.Written.{AreResults, IsFailureBefore, results_of}

not_among : (bytes_of : KnownFiles) (left : Option (List ℕ)) (names : List (List ℕ)) (failure : Failure)
    → (failure ≡ failed.Memory → ⊥) → ((l : Option (List ℕ)) (name : List ℕ) → IsFailureOfInput bytes_of l name failure → ⊥)
    → IsFailureAmong bytes_of left names failure → ⊥
not_among bytes_of left [] failure other never among = other among
not_among bytes_of left (name ∷ names) failure other never (inl fails) = never left name fails
not_among bytes_of left (name ∷ names) failure other never (inr (read, among)) =
    not_among bytes_of (left_after left name) names failure other never among

-- Memory may always be refused.
pub memory_among : (bytes_of : KnownFiles) (left : Option (List ℕ)) (names : List (List ℕ)) → IsFailureAmong bytes_of left names failed.Memory
memory_among bytes_of left [] = refl
memory_among bytes_of left (name ∷ names) = inl tt

-- A failure of a text is one of the program.
pub text_fails : (args : ParsedArgs) (dictionary : AnyDictionary) (bytes_of : KnownFiles) (folders : List (List ℕ)) (left : Option (List ℕ)) (failure : Failure)
    → IsAdjustedOf bytes_of folders args.dictionary args.adjustments dictionary → IsFailureAmong bytes_of left args.inputs failure
    → IsFailureBefore args bytes_of folders left failure
text_fails args dictionary bytes_of folders left (failed.Refused input cause) named among = (dictionary, named, among)
text_fails args dictionary bytes_of folders left (failed.Reading input) named among = (dictionary, named, among)
text_fails args dictionary bytes_of folders left failed.Memory named among = tt
text_fails args dictionary bytes_of folders left (failed.Dictionary path cause) named among = absurd (not_among bytes_of left args.inputs _ (λ same. absurd cc) (λ l n never. never) among)
text_fails args dictionary bytes_of folders left (failed.NoDictionary language) named among = absurd (not_among bytes_of left args.inputs _ (λ same. absurd cc) (λ l n never. never) among)
text_fails args dictionary bytes_of folders left (failed.Exceptions list refusal) named among = absurd (not_among bytes_of left args.inputs _ (λ same. absurd cc) (λ l n never. never) among)
text_fails args dictionary bytes_of folders left (failed.Writing output) named among = absurd (not_among bytes_of left args.inputs _ (λ same. absurd cc) (λ l n never. never) among)
text_fails args dictionary bytes_of folders left failed.Output named among = absurd (not_among bytes_of left args.inputs _ (λ same. absurd cc) (λ l n never. never) among)

-- So is one of the dictionary.
pub dictionary_fails : (args : ParsedArgs) (bytes_of : KnownFiles) (folders : List (List ℕ)) (left : Option (List ℕ)) (failure : Failure)
    → IsFailureOfAdjusted bytes_of folders args.dictionary args.adjustments failure → IsFailureBefore args bytes_of folders left failure
dictionary_fails args bytes_of folders left (failed.Dictionary path cause) fails = fails
dictionary_fails args bytes_of folders left (failed.NoDictionary language) fails = fails
dictionary_fails args bytes_of folders left (failed.Exceptions list refusal) fails = fails
dictionary_fails args bytes_of folders left failed.Memory fails = tt
dictionary_fails args bytes_of folders left (failed.Refused input cause) fails = absurd fails.2
dictionary_fails args bytes_of folders left (failed.Reading input) fails = absurd fails.2
dictionary_fails args bytes_of folders left (failed.Writing output) fails = absurd fails.2
dictionary_fails args bytes_of folders left failed.Output fails = absurd fails.2

-- A failure of a text comes after the dictionary.
pub after_dictionary : (P : Type 0) (bytes_of : KnownFiles) (left : Option (List ℕ)) (names : List (List ℕ)) (failure : Failure)
    → IsFailureAmong bytes_of left names failure → BeforeReading P failure
after_dictionary P bytes_of left names (failed.Dictionary path cause) among = absurd (not_among bytes_of left names _ (λ same. absurd cc) (λ l n never. never) among)
after_dictionary P bytes_of left names (failed.NoDictionary language) among = absurd (not_among bytes_of left names _ (λ same. absurd cc) (λ l n never. never) among)
after_dictionary P bytes_of left names (failed.Exceptions list refusal) among = absurd (not_among bytes_of left names _ (λ same. absurd cc) (λ l n never. never) among)
after_dictionary P bytes_of left names (failed.Refused input cause) among = tt
after_dictionary P bytes_of left names (failed.Reading input) among = tt
after_dictionary P bytes_of left names (failed.Writing output) among = tt
after_dictionary P bytes_of left names failed.Output among = tt
after_dictionary P bytes_of left names failed.Memory among = tt

pub before_reading : (P : Type 0) (failure : Failure) → P → BeforeReading P failure
before_reading P (failed.Dictionary path cause) p = p
before_reading P (failed.NoDictionary language) p = p
before_reading P (failed.Exceptions list refusal) p = p
before_reading P (failed.Refused input cause) p = tt
before_reading P (failed.Reading input) p = tt
before_reading P (failed.Writing output) p = tt
before_reading P failed.Output p = tt
before_reading P failed.Memory p = tt

-- Results by the dictionary of arguments are their results.
pub results_are : (args : ParsedArgs) (dictionary : AnyDictionary) (bytes_of : KnownFiles) (folders : List (List ℕ)) (left : Option (List ℕ)) (results : List (List ℕ))
    → IsAdjustedOf bytes_of folders args.dictionary args.adjustments dictionary → AreResultsBy args dictionary bytes_of left results
    → AreResults args bytes_of folders left results
results_are args dictionary bytes_of folders left results named by =
    record { dictionary = dictionary; named = named; texts = by.0; read = by.1; each = by.2 }

-- A failure before anything is written.
pub fails_before : {S : Type 0} (args : ParsedArgs) (bytes_of : KnownFiles) (folders : List (List ℕ)) (left : Option (List ℕ))
    (written : S → Option WrittenFiles) (store : S) (failure : Failure)
    → IsFailureBefore args bytes_of folders left failure
    → IsFailureFor (AreResults args bytes_of folders left) (IsFailureBefore args bytes_of folders left) args.options.target args.inputs written store store failure
fails_before args bytes_of folders left written store failure fails = inl (fails, refl)

-- Status 3 is for dictionaries.
pub by_status : (P : Type 0) (failure : Failure) → BeforeReading P failure → status_of failure ≡ 3 → P
by_status P (failed.Dictionary path cause) before three = before
by_status P (failed.NoDictionary language) before three = before
by_status P (failed.Exceptions list refusal) before three = before
by_status P (failed.Refused input cause) before three = absurd cc
by_status P (failed.Reading input) before three = absurd cc
by_status P (failed.Writing output) before three = absurd cc
by_status P failed.Output before three = absurd cc
by_status P failed.Memory before three = absurd cc

-- ---- results

-- Where the names or the texts are at their end, all results are there.
pub results_end : {N T : Type 0} (name_of : N → List ℕ) (text_of : T → List ℕ) (options : ParsedOptions) (dictionary : AnyDictionary)
    (results whole : List (List ℕ)) (names : List N) (texts : List T)
    → results ++ results_of options dictionary (map name_of names) (map text_of texts) ≡ whole
    → (length names ≡ 0) ⊎ (length texts ≡ 0) → results ≡ whole
results_end name_of text_of options dictionary results whole [] texts told ends = sym (append-nil results) ∙ told
results_end name_of text_of options dictionary results whole (name ∷ names) [] told ends = sym (append-nil results) ∙ told
results_end name_of text_of options dictionary results whole (name ∷ names) (text ∷ texts) told (inl none) = absurd cc
results_end name_of text_of options dictionary results whole (name ∷ names) (text ∷ texts) told (inr none) = absurd cc

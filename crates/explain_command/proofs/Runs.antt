-- How a run fails over its words.
use Rattle.std.proofs.Common.{◌≡◌, ℕ, List, Option, sym, subst, inl, inr}
use Rattle.std.specs.Prelude.{Result, Err, IfErr}
use Rattle.std.specs.Borrow.{Bor}
use Rattle.hyphenation_breaks.specs.Borrowed.{texts_now}
use Rattle.any_dictionary.specs.declared.AnyDictionary.{AnyDictionary}
use Rattle.command_line.specs.Adjustments.{IsAdjustedOf}
use Rattle.command_line.specs.Dictionaries.{KnownFiles}
use Rattle.command_line.specs.declared.failure.Failure.{Failure}
use Rattle.explain_command.specs.Arguments.{ParsedArgs}
use Rattle.explain_command.specs.Endings.{IsFailureFor, IsFailureOfWords}

pub words_fail : {X : Type 0} (parsed : ParsedArgs) (dictionary : AnyDictionary) (bytes_of : KnownFiles) (folders : List (Bor (List ℕ))) (left : Option (List ℕ))
    (words : List (List ℕ)) (failure returned : Failure) (result : Result X Failure) → IsAdjustedOf bytes_of (texts_now folders) parsed.dictionary parsed.adjustments dictionary
    → words ≡ parsed.words → IsFailureOfWords bytes_of left words failure → result ≡ Err returned → returned ≡ failure
    → IfErr result (IsFailureFor parsed bytes_of folders left)
words_fail parsed dictionary bytes_of folders left words failure returned result named given fails is same =
    subst (λ r. IfErr r (IsFailureFor parsed bytes_of folders left)) (sym is)
    (subst (λ f. IsFailureFor parsed bytes_of folders left f) (sym same)
    (inr (inl (dictionary, named, subst (λ w. IsFailureOfWords bytes_of left w failure) given fails))))

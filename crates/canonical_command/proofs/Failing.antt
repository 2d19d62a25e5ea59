-- Why standard input gave no dictionary.
use Rattle.std.proofs.Common.{◌≡◌, ℕ, List, Err, Option, Some, None, subst, sym}
use Rattle.std.specs.Prelude.{IfSome, Result}
use Rattle.any_dictionary.specs.Dictionaries.{refusal_by_head}
use Rattle.hyphenation_grammar.specs.declared.Cause.{Cause}
use Rattle.hyphenation_grammar.specs.declared.Error.{Error}
use Rattle.hyphenation_grammar.specs.declared.Error.TheVariants.{Deserialization, IO, LanguageMismatch, Memory}
use Rattle.hyphenation_load.specs.Load.{HasNoMismatch, Loads}
use Rattle.command_line.specs.declared.failure.Failure.{Failure}
use Rattle.command_line.specs.declared.failure.Failure.TheVariants as failed
use Rattle.canonical_command.specs.Canonical.{IsFailureOfInput}
use Rattle.canonical_command.specs.Private.Refusals.{IsRefusalOf}

known_line : {D : Type 0} (left : Option (List ℕ)) (contents : List ℕ → D) (result : Result D Error) (line : ℕ) (why : Cause) → result ≡ Err (Deserialization line why)
    → IfSome left (λ bytes. Loads (refusal_by_head bytes) (contents bytes) result) → IfSome left (λ bytes. refusal_by_head bytes ≡ Some (line, why))
known_line None contents result line why is loaded = tt
known_line (Some bytes) contents result line why is loaded = subst (λ r. Loads (refusal_by_head bytes) (contents bytes) r) is loaded

-- The failure of standard input, by the error of loading.
pub input_fails : {D : Type 0} (left : Option (List ℕ)) (contents : List ℕ → D) (result : Result D Error) (cause : Error) (failure : Failure) → result ≡ Err cause
    → HasNoMismatch result → IfSome left (λ bytes. Loads (refusal_by_head bytes) (contents bytes) result) → IsRefusalOf cause failure → IsFailureOfInput left failure
input_fails left contents result (Memory e) failure is fine loaded refusal = subst (λ f. IsFailureOfInput left f) (sym refusal) tt
input_fails left contents result (LanguageMismatch expected found) failure is fine loaded refusal = absurd (subst (λ r. HasNoMismatch r) is fine)
input_fails left contents result (IO e) (failed.Reading input) is fine loaded refusal = refusal
input_fails left contents result (IO e) failed.Memory is fine loaded refusal = tt
input_fails left contents result (IO e) (failed.Dictionary path cause) is fine loaded refusal = absurd refusal
input_fails left contents result (IO e) (failed.NoDictionary language) is fine loaded refusal = absurd refusal
input_fails left contents result (IO e) (failed.Exceptions path cause) is fine loaded refusal = absurd refusal
input_fails left contents result (IO e) (failed.Refused input cause) is fine loaded refusal = absurd refusal
input_fails left contents result (IO e) (failed.Writing output) is fine loaded refusal = absurd refusal
input_fails left contents result (IO e) failed.Output is fine loaded refusal = absurd refusal
input_fails left contents result (Deserialization line why) (failed.Dictionary path cause) is fine loaded (named, same) =
    subst (λ c. IsFailureOfInput left (failed.Dictionary path c)) (sym same) (named, known_line left contents result line why is loaded)
input_fails left contents result (Deserialization line why) failed.Memory is fine loaded refusal = tt
input_fails left contents result (Deserialization line why) (failed.NoDictionary language) is fine loaded refusal = absurd refusal
input_fails left contents result (Deserialization line why) (failed.Exceptions path cause) is fine loaded refusal = absurd refusal
input_fails left contents result (Deserialization line why) (failed.Refused input cause) is fine loaded refusal = absurd refusal
input_fails left contents result (Deserialization line why) (failed.Reading input) is fine loaded refusal = absurd refusal
input_fails left contents result (Deserialization line why) (failed.Writing output) is fine loaded refusal = absurd refusal
input_fails left contents result (Deserialization line why) failed.Output is fine loaded refusal = absurd refusal

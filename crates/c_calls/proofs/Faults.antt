-- The fault of one file.
use Rattle.std.proofs.Common.{◌≡◌, ℕ, List, ap, rules}
use Rattle.std.specs.Prelude.{Option, None, Some, option_map}
use Rattle.pattern_results.specs.Errors.{IsConvertError}
use Rattle.pattern_results.specs.declared.errors.FileCause.{FileCause}
use Rattle.pattern_results.specs.declared.errors.ConvertError.{ConvertError}
use Rattle.pattern_results.specs.declared.errors.ConvertError.TheVariants.{Memory, Fault}
use Rattle.c_calls.specs.Patterns.{failure_of, IsFailure}

-- the fault of a list of one file is the fault of the file
pub fault_alone : (fault : Option (ℕ × FileCause)) (file line : ℕ) (cause : FileCause)
    → option_map {U = ℕ × (ℕ × FileCause)} (λ f. (0, f)) fault ≡ Some (file, (line, cause)) → fault ≡ Some (line, cause)
fault_alone (Some x) file line cause e = ap (λ (found : Option (ℕ × (ℕ × FileCause))). option_map {U = ℕ × FileCause} (λ f. f.1) found) e
fault_alone None file line cause e = search rules

-- the error of one file is the failure of the call that loads it
pub failure_given : (error : ConvertError) (language : List ℕ) (fault : Option (ℕ × FileCause))
    → IsConvertError error (option_map {U = ℕ × (ℕ × FileCause)} (λ f. (0, f)) fault) → IsFailure (failure_of error) language fault
failure_given Memory language fault refused = tt
failure_given (Fault file line cause) language fault refused = fault_alone fault file line cause refused

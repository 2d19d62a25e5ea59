-- The dictionary that was loaded, if its language is the asked one, or the error of loading it is the result.
use Rattle.std.proofs.Common.{◌≡◌, Err, rules}
use Rattle.hyphenation_load.proofs.Opening.{failed_as_left, respects_without_mismatch, error_not_out_of_memory, checked_as_left, checked_language, checked_not_out_of_memory, read_before, not_read}
use Rattle.hyphenation_load.proofs.ExtendedLoad.from_reader.Goals as goal

pub returns-in_err-any_from_reader-clause-loaded : goal.returns-in_err-any_from_reader-clause-loaded
returns-in_err-any_from_reader-clause-loaded g c =
    failed_as_left _ _ _ _ c.in_err-any_from_reader.field-0.0 c.from_residual.result (search rules) c.in_err-any_from_reader.ensures.loaded

pub returns-in_err-any_from_reader-clause-read_to_end : goal.returns-in_err-any_from_reader-clause-read_to_end
returns-in_err-any_from_reader-clause-read_to_end g c = not_read c.in_err-any_from_reader.field-0.0 c.from_residual.result _ (search rules)

pub returns-in_err-any_from_reader-clause-in_language : goal.returns-in_err-any_from_reader-clause-in_language
returns-in_err-any_from_reader-clause-in_language g c =
    respects_without_mismatch _ _ c.in_err-any_from_reader.field-0.0 c.from_residual.result (search rules) c.in_err-any_from_reader.ensures.no_mismatch

pub returns-in_err-any_from_reader-clause-not_out_of_memory : goal.returns-in_err-any_from_reader-clause-not_out_of_memory
returns-in_err-any_from_reader-clause-not_out_of_memory g c =
    error_not_out_of_memory c.in_err-any_from_reader.field-0.0 c.from_residual.result (search rules) c.in_err-any_from_reader.ensures.not_out_of_memory

pub returns-clause-loaded : goal.returns-clause-loaded
returns-clause-loaded g c =
    checked_as_left _ _ _ _ c.in_ok-any_from_reader.field-0 c.of_language.result c.in_ok-any_from_reader.ensures.loaded c.of_language.ensures

pub returns-clause-read_to_end : goal.returns-clause-read_to_end
returns-clause-read_to_end g c = read_before c.of_language.result _ c.in_ok-any_from_reader.ensures.read_to_end

pub returns-clause-in_language : goal.returns-clause-in_language
returns-clause-in_language g c = checked_language _ c.in_ok-any_from_reader.field-0 c.of_language.result c.of_language.ensures

pub returns-clause-not_out_of_memory : goal.returns-clause-not_out_of_memory
returns-clause-not_out_of_memory g c = checked_not_out_of_memory _ c.in_ok-any_from_reader.field-0 c.of_language.result c.of_language.ensures

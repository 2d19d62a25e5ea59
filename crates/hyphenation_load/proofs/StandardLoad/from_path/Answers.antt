-- The result is what the opened file gives, or the error of opening it.
use Rattle.std.proofs.Common.{◌≡◌, Err, rules}
use Rattle.hyphenation_breaks.specs.Dictionary.{Contents}
use Rattle.hyphenation_load.proofs.Opening.{file_not_opened, some_file_not_opened, respects_when_not_opened, read_error_not_out_of_memory, error_not_out_of_memory, file_opened, some_file_opened}
use Rattle.hyphenation_load.proofs.StandardLoad.from_path.Goals as goal

pub returns-in_err-file-clause-of_file : goal.returns-in_err-file-clause-of_file
returns-in_err-file-clause-of_file g c =
    file_not_opened g.F.File.Read.remaining _ _ (λ (d : Contents _ _). d.language) c.args.lang _ c.in_err-file.field-0.0 c.from_residual.result (search rules) c.in_err-file.ensures.absent c.in_err-file.ensures.read_error

pub returns-in_err-file-clause-of_some_file : goal.returns-in_err-file-clause-of_some_file
returns-in_err-file-clause-of_some_file g c =
    some_file_not_opened _ _ _ (λ (d : Contents _ _). d.language) c.args.lang c.in_err-file.field-0.0 c.from_residual.result (search rules) c.in_err-file.ensures.read_error

pub returns-in_err-file-clause-in_language : goal.returns-in_err-file-clause-in_language
returns-in_err-file-clause-in_language g c =
    respects_when_not_opened _ _ c.in_err-file.field-0.0 c.from_residual.result (search rules) c.in_err-file.ensures.read_error

pub returns-in_err-file-clause-not_out_of_memory : goal.returns-in_err-file-clause-not_out_of_memory
returns-in_err-file-clause-not_out_of_memory g c =
    error_not_out_of_memory c.in_err-file.field-0.0 c.from_residual.result (search rules) (read_error_not_out_of_memory c.in_err-file.field-0.0 c.in_err-file.ensures.read_error)

pub returns-clause-of_file : goal.returns-clause-of_file
returns-clause-of_file g c =
    file_opened _ _ (λ (d : Contents _ _). d.language) c.args.lang _ _ c.from_reader.result c.in_ok-file.ensures.bytes c.in_ok-file.ensures.absent c.from_reader.ensures.loaded

pub returns-clause-of_some_file : goal.returns-clause-of_some_file
returns-clause-of_some_file g c =
    some_file_opened _ _ _ (λ (d : Contents _ _). d.language) c.args.lang c.in_ok-file.file c.from_reader.result c.from_reader.ensures.loaded

pub returns-clause-in_language : goal.returns-clause-in_language
returns-clause-in_language g c = c.from_reader.ensures.in_language

pub returns-clause-not_out_of_memory : goal.returns-clause-not_out_of_memory
returns-clause-not_out_of_memory g c = c.from_reader.ensures.not_out_of_memory

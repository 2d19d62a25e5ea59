-- Opening a file, with its error as one of loading.
use Rattle.std.proofs.Common.{rules}
use Rattle.hyphenation_load.proofs.Opening.{opened_by, bytes_of_opened, absent_when_opened, present_when_opened, error_of_opened}
use Rattle.hyphenation_load.proofs.open_dictionary.Goals as goal

pub returns-clause-bytes : goal.returns-clause-bytes
returns-clause-bytes g c =
    bytes_of_opened g.F.File.Read.remaining c.open.result c.map_err.result _ (opened_by c.open.result c.map_err.result _ c.map_err.ensures.cases (λ e error p. (search rules, search rules, search rules))) c.open.ensures.bytes

pub returns-clause-absent : goal.returns-clause-absent
returns-clause-absent g c = λ none.
    absent_when_opened c.open.result c.map_err.result (opened_by c.open.result c.map_err.result _ c.map_err.ensures.cases (λ e error p. (search rules, search rules, search rules))) (c.open.ensures.absent none)

pub returns-clause-present : goal.returns-clause-present
returns-clause-present g c =
    present_when_opened c.open.result c.map_err.result _ (opened_by c.open.result c.map_err.result _ c.map_err.ensures.cases (λ e error p. (search rules, search rules, search rules))) c.open.ensures.present

pub returns-clause-read_error : goal.returns-clause-read_error
returns-clause-read_error g c = error_of_opened c.open.result c.map_err.result (opened_by c.open.result c.map_err.result _ c.map_err.ensures.cases (λ e error p. (search rules, search rules, search rules)))

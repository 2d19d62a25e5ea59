use Rattle.std.proofs.Common.{◌∙◌, ap, map}
use Rattle.std.proofs.lemmas.Result.{err_from_is_err_and}
use Rattle.std.specs.String.{string_bytes}
use Rattle.command_line.specs.Adjustments.{as_adjustments}
use Rattle.hyphenation_breaks.specs.Borrowed.{texts_now}
use Rattle.html_command.proofs.Loaded.{first_adjusted}
use Rattle.html_command.proofs.Refused.{list_is_refused_so}
use Rattle.html_command.proofs.dictionaries.load_code.Goals as goal

pub returns-in_err-dictionary-clause-failure : goal.returns-in_err-dictionary-clause-failure
returns-in_err-dictionary-clause-failure g c =
    let p = err_from_is_err_and c.from_residual-in_err-dictionary.result c.from_residual-in_err-dictionary.ensures.1 in
    list_is_refused_so (g.F.NamedFiles.bytes c.args.files.now) (texts_now c.args.folders.now) (as_adjustments c.args.adjustments.now) c.args.language.now (map string_bytes c.deref.result.now) (map string_bytes c.deref-2.result.now)
    c.in_ok-named.field-0 c.in-Some.named c.in_err-dictionary.field-0.0 p.0 c.from_residual-in_err-dictionary.result c.invariant.ensures
    (ap (map string_bytes) c.deref.ensures.value ∙ c.in_ok-paths.ensures) (ap (map string_bytes) c.deref-2.ensures.value ∙ c.in_ok-lists.ensures)
    c.in-Some.is c.in_ok-named.ensures.found c.in_err-dictionary.ensures.failure p.1 p.2

pub returns-clause-first : goal.returns-clause-first
returns-clause-first g c =
    first_adjusted (g.F.NamedFiles.bytes c.args.files.now) (texts_now c.args.folders.now) (as_adjustments c.args.adjustments.now) c.args.language.now (map string_bytes c.deref.result.now) (map string_bytes c.deref-2.result.now)
    c.in_ok-named.field-0 c.in-Some.named c.in_ok-dictionary.dictionary c.in_ok-with_code.field-0.dictionary
    (ap (map string_bytes) c.deref.ensures.value ∙ c.in_ok-paths.ensures) (ap (map string_bytes) c.deref-2.ensures.value ∙ c.in_ok-lists.ensures)
    c.in-Some.is c.in_ok-named.ensures.found c.in_ok-dictionary.ensures.adjusted c.in_ok-with_code.ensures.dictionary

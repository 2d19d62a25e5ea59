use Rattle.std.proofs.Common.{◌≡◌, ◌∙◌, ap, length, subst, IfOk, arith}
use Rattle.libhyphen_files.specs.Files.{Rules}
use Rattle.libhyphen_files.proofs.FilesLemmas.{texts, loaded_none, loaded_some}
use Rattle.libhyphen_files.proofs.file.load.Goals as goal

pub returns : goal.returns
returns c =
    subst (λ (x : Rules). IfOk c.dictionary_of_lines-in-len1-up.result (λ dictionary. dictionary ≡ x))
    (loaded_some c.args.bytes.now c.as_slice.result.now _ c.charset_of.result.now (ap texts c.as_slice.ensures.value ∙ c.in_ok-lines.ensures) c.in-len1-up.len_at_least c.charset_of.ensures)
    c.dictionary_of_lines-in-len1-up.ensures

pub returns-in-empty : goal.returns-in-empty
returns-in-empty c =
    let none : length c.as_slice.result.now ≡ 0 = omega arith in
    subst (λ (x : Rules). IfOk c.dictionary_of_lines.result (λ dictionary. dictionary ≡ x))
    (loaded_none c.args.bytes.now c.as_slice.result.now (ap texts c.as_slice.ensures.value ∙ c.in_ok-lines.ensures) none)
    c.dictionary_of_lines.ensures

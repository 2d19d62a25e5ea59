use Rattle.std.proofs.Common.{◌≡◌, List, ℕ, IsFalse, false, not, ap, sym, ◌∙◌, subst, arith}
use Rattle.hyphenation_reader.specs.Edits.{is_good_edit}
use Rattle.any_dictionary.specs.Dictionaries.{kind_by}
use Rattle.c_calls.specs.Contents.{dictionary_of}
use Rattle.c_calls.proofs.edits.edit.Goals as goal

pub returns-in-Ok-false : goal.returns-in-Ok-false
returns-in-Ok-false c =
    let no : c.in-Ok-false.field-0 ≡ false = grind (arith, c.in-Ok-false.field-0-test) in (
      c.in-Ok.ensures.cases.1,
      subst (λ (edit : List ℕ). IsFalse (is_good_edit (kind_by (dictionary_of c.args.loaded.now)) edit)) c.in-Ok.ensures.cases.0 (sym c.in-Ok-false.ensures.good ∙ no),
      c.in-Ok-false.ensures.refused (ap not no),
    )

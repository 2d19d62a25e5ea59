use Rattle.hyphenation_reader.specs.Edits.{form_in}
use Rattle.hyphenation_reader.proofs.EditsLemmas.{only_item}
use Rattle.hyphenation_reader.proofs.edits.four_tests_judge_an_exception.Goals as goal

pub returns : goal.returns
returns c = λ kind version exception utf8. only_item (form_in kind version) exception utf8

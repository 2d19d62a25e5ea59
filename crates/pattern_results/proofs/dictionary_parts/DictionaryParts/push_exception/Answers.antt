use Rattle.std.proofs.Common.{arith}
use Rattle.std.proofs.lemmas.Grind.{common_steps}
use Rattle.pattern_results.proofs.dictionary_parts.DictionaryParts.push_exception.Goals as goal

pub returns-in_err-push-clause-appended : goal.returns-in_err-push-clause-appended
returns-in_err-push-clause-appended g c = grind (arith, common_steps)

pub returns-in_err-push-clause-unchanged_on_error : goal.returns-in_err-push-clause-unchanged_on_error
returns-in_err-push-clause-unchanged_on_error g c = grind (arith, common_steps)

pub returns-clause-appended : goal.returns-clause-appended
returns-clause-appended g c = grind (arith, common_steps)

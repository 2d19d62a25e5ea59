use Rattle.std.proofs.Common.{ap, length}
use Rattle.hyphenation_breaks.specs.Dictionary.{entries_of_keys}
use Rattle.hyphenation_trie.specs.Trie.{entries_of_key}
use Rattle.explanations.proofs.RowsSoFar.{known_occurrences, known_look_ups}
use Rattle.explanations.proofs.pattern_rows.rows.Goals as goal

pub returns-clause-rows : goal.returns-clause-rows
returns-clause-rows g c =
    known_occurrences (entries_of_keys c.args.dictionary.now) (entries_of_key c.automaton_of.result.now) c.args.framed.now c.as_bytes.result.now c.rows_in.result c.automaton_of.ensures.known c.as_bytes.ensures.value c.rows_in.ensures.rows

pub returns-clause-look_ups : goal.returns-clause-look_ups
returns-clause-look_ups g c =
    known_look_ups (entries_of_keys c.args.dictionary.now) (entries_of_key c.automaton_of.result.now) _ _ _ _ c.automaton_of.ensures.known (ap length c.as_bytes.ensures.value) c.rows_in.ensures.look_ups

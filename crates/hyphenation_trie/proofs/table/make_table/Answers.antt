use Rattle.std.proofs.Common.{ℕ, List, subst}
use Rattle.hyphenation_trie.specs.Private.Known.{AreKnown}
use Rattle.hyphenation_trie.specs.Steps.{AreSteps}
use Rattle.hyphenation_trie.specs.declared.table.Table.{Table}
use Rattle.hyphenation_trie.proofs.TableMade.{row_texts, table_is}
use Rattle.hyphenation_trie.proofs.table.make_table.Goals as goal

pub returns : goal.returns
returns g c =
    let rank = g.C.Payload.rank_of in
    let tree = c.args.automaton.now in
    let known_of = c.in-Some.known in
    let table : Table = record { steps = c.in-Some-2.steps; vectors = known_of.vectors; counts = known_of.counts } in
    let known : AreKnown rank tree known_of.numbers.items table.vectors.items table.counts.items = rw c.in-Some.is at c.in_ok-known.ensures in
    let made : AreSteps tree c.deref.result.now table.steps = rw c.in-Some-2.is at c.in_ok-steps.ensures in
    let steps : AreSteps tree known_of.numbers.items table.steps = subst (λ (numbers : List ℕ). AreSteps tree numbers table.steps) c.deref.ensures.value made in
    (row_texts tree steps.0, steps.1, table_is rank tree c.invariant.ensures known_of.numbers.items steps.0 steps.1 table known steps.2)

use Rattle.std.proofs.Common.{ℕ, List}
use Rattle.hyphenation_trie.specs.Private.Known.{AreClasses}
use Rattle.hyphenation_trie.specs.Steps.{AreRows}
use Rattle.hyphenation_trie.specs.declared.table.steps.Steps.{Steps}
use Rattle.hyphenation_trie.proofs.table.steps.steps_of.Goals as goal

pub returns : goal.returns
returns g c =
    let tree = c.args.automaton.now in
    let quarter : ℕ = c.in-Some.found.1 in
    let steps : Steps = record { cells = c.in-Some-2.cells; split = c.split_of-split.result; classes = c.in-Some.found.0 } in
    let classes : AreClasses tree.texts steps.classes quarter = c.in-Some.ensures in
    let made : (rows : List ℕ) × AreRows tree c.args.numbers.now steps.classes quarter steps.split steps.cells.items rows = rw c.in-Some-2.is at c.in_ok-cells.ensures in
    (made.0, quarter, record { classes = classes.all; below = classes.below; split = c.split_of-split.ensures.split; cells = made.1 })

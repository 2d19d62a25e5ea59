use Rattle.std.proofs.Common.{◌≡◌, ◌*◌, ℕ, length, sym, ap, subst, ◌∙◌, arith}
use Rattle.hyphenation_trie.specs.Private.Known.{AreClasses}
use Rattle.hyphenation_trie.specs.Steps.{AreRows}
use Rattle.hyphenation_trie.proofs.table.rows.cells_of.Goals as goal

pub cells_by_depth-requires-clause-parts : goal.cells_by_depth-requires-clause-parts
cells_by_depth-requires-clause-parts g c =
    let nodes = c.in_ok-rows.rows.nodes in
    let quarter : ℕ = c.args.quarter in
    let view = sym c.automaton.view_is in
    let nodes_are = ap (λ t. length t.texts) view in
    let count : c.len.result * quarter ≡ length nodes.items * quarter = ap (λ (n : ℕ). n * quarter) (c.len.ensures ∙ nodes.ok.0) in
    record {
      rows = c.in_ok-rows.ensures;
      classes_of = subst (λ t. AreClasses t.texts c.args.classes.now quarter) view c.requires.classes;
      nodes_of = c.requires.nodes ∙ nodes_are;
      few = λ j lt. c.requires.few j (omega (arith, lt, nodes_are));
      split_of = c.requires.split;
      places = omega (arith, count, c.saturating_mul-places.ensures);
    }

pub returns : goal.returns
returns g c =
    let nodes = c.in_ok-rows.rows.nodes.items in
    (nodes, subst (λ t. AreRows t c.args.numbers.now c.args.classes.now c.args.quarter c.args.split c.in_ok-cells.cells.items nodes) c.automaton.view_is c.in_ok-cells.ensures)

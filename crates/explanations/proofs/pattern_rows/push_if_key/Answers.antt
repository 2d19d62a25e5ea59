use Rattle.std.proofs.Common.{◌∙◌, ap, sym, refl, map}
use Rattle.hyphenation_trie.specs.Trie.{entries_of_key}
use Rattle.explanations.specs.Rows.{row_of}
use Rattle.explanations.proofs.RowsSoFar.{no_row, pushed_row}
use Rattle.explanations.proofs.Prefixes.{other_report}
use Rattle.explanations.proofs.pattern_rows.push_if_key.Goals as goal

pub returns-then-report-node-clause-rows : goal.returns-then-report-node-clause-rows
returns-then-report-node-clause-rows g c =
    let tree = c.args.automaton.now in
    no_row (entries_of_key tree) c.args.framed.now c.args.start c.args.at (map row_of c.args.rows.now.items) c.requires.so_far
    (ap (entries_of_key tree) (sym c.requires.text) ∙ other_report tree c.invariant.ensures c.args.node c.report.result c.requires.node c.if-report-node.true c.report.ensures)

pub returns-clause-rows : goal.returns-clause-rows
returns-clause-rows g c =
    let keys = entries_of_key c.args.automaton.now in
    pushed_row keys c.args.framed.now c.args.start c.args.at c.args.rows.now.items c.push.new.self.items _ c.in_ok-push.ensures.items c.requires.so_far c.requires.begun c.requires.within refl refl
    (ap keys (sym c.requires.text) ∙ sym c.entries-entries.ensures.entries)

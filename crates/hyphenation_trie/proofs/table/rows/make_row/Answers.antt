use Rattle.std.proofs.Common.{length, arith}
use Rattle.hyphenation_trie.proofs.TableRows.{row_copied}
use Rattle.hyphenation_trie.proofs.table.rows.make_row.Goals as goal

pub returns-clause-made : goal.returns-clause-made
returns-clause-made g c =
    let rows = c.args.rows.now in
    row_copied c.args.trie.now rows.nodes.items rows.of.items c.args.numbers.now c.args.classes.now c.args.quarter c.args.split (length rows.nodes.items) c.args.from c.args.to _ c.args.cells.now.items _ _
    c.requires.parts.classes_of c.requires.count c.requires.from c.requires.to (omega arith) c.copy_within.ensures.items c.set_children.ensures.made

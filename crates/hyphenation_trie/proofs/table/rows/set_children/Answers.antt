use Rattle.std.proofs.Common.{◌≡◌, ◌+◌, ◌*◌, ◌^◌, ◌++◌, [], ◌∷◌, ℕ, List, slice_index, set, sym, ap, subst, ◌∙◌, arith}
use Rattle.std.proofs.lemmas.List.{length-set}
use Rattle.hyphenation_trie.specs.Trie.{node_text}
use Rattle.hyphenation_trie.specs.Private.TableRows.{cell_of, IsMadeOf}
use Rattle.hyphenation_trie.proofs.TableRows.{made_more, read_row}
use Rattle.hyphenation_trie.proofs.TrieNodes.{last_same}
use Rattle.hyphenation_trie.proofs.Siblings.{above_zero}
use Rattle.hyphenation_trie.proofs.table.rows.set_children.Goals as goal

pub loop-child-preserved : goal.loop-child-preserved
loop-child-preserved g c =
    let tree = c.args.trie.now in
    let nodes = c.args.rows.now.nodes.items in
    let of = c.args.rows.now.of.items in
    let numbers = c.args.numbers.now in
    let classes = c.args.classes.now in
    let quarter : ℕ = c.args.quarter in
    let split = c.args.split in
    let parts = c.requires.parts in
    let row : ℕ = c.args.row in
    let node : ℕ = slice_index nodes row in
    let cells = c.loop-child.cells.items in
    let child : ℕ = c.loop-child.child in
    let next : ℕ = c.child_before-child.result in
    let byte : ℕ = c.from-byte.result.1 in
    let at : ℕ = row * quarter * 4 + slice_index classes byte in
    let inv = c.loop-child.invariant in
    let here = inv.child (above_zero child c.loop-child-test.true) in
    let text = c.from-byte.ensures.text in
    let same = last_same (node_text tree node) (node_text tree c.from-byte.result.0) here.1 byte (sym here.2 ∙ text) in
    let is : node_text tree child ≡ node_text tree node ++ byte ∷ [] = text ∙ ap (λ (t : List ℕ). t ++ byte ∷ []) (sym same.0) in
    let last = c.child_before-child.ensures node byte (parts.rows.rows.within row c.requires.row) is in
    let own = (read_row tree nodes of parts.rows child c.index-in-loop-child.result.now here.0 c.index-in-loop-child.ensures).0 in
    let cell : c.cell.result ≡ cell_of of numbers quarter split child = c.cell.ensures ∙ ap (λ (x : ℕ). slice_index numbers child * 2 ^ split.place_bits + x * quarter) own in
    let more = made_more tree nodes of numbers classes quarter split row child next byte c.args.cells.now.items cells parts.classes_of (inv.count ∙ c.requires.count) c.requires.row here.0 (omega arith) is last inv.made in
    record {
      count = length-set cells at c.cell.result ∙ inv.count;
      child = λ pos. let w = last.within pos in (omega (arith, w.0, here.0), w.1, w.2);
      made = subst (λ (x : ℕ). IsMadeOf tree nodes of numbers classes quarter split next row row c.args.cells.now.items (set cells at x)) (sym cell) more;
    }

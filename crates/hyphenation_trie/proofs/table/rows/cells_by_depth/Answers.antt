use Rattle.std.proofs.Common.{◌≡◌, ◌+◌, ◌*◌, ◌<◌, ℕ, List, length, drop, slice_index, sym, ap, subst, ◌∙◌, arith}
use Rattle.std.proofs.lemmas.List.{get_or_default}
use Rattle.hyphenation_trie.specs.Trie.{node_text}
use Rattle.hyphenation_trie.specs.Links.{IsLongest}
use Rattle.hyphenation_trie.specs.Private.TableRows.{IsMadeOf}
use Rattle.hyphenation_trie.proofs.ChainsGrow.{zero_read}
use Rattle.hyphenation_trie.proofs.TableRows.{AreRight, read_row, right_start, right_more, right_less, right_all}
use Rattle.hyphenation_trie.proofs.table.rows.cells_by_depth.Goals.{then-index-node, else-index-node}
use Rattle.hyphenation_trie.proofs.table.rows.cells_by_depth.Goals as goal

pub loop-node-init : goal.loop-node-init
loop-node-init g c =
    let trie = c.args.trie.now in
    let rows = c.args.rows.now in
    let numbers = c.args.numbers.now in
    let classes = c.args.classes.now in
    let quarter : ℕ = c.args.quarter in
    let split = c.args.split in
    let cells = c.in_ok-cells.cells.items in
    let new = c.set_children.new.cells.items in
    let zeros = c.in_ok-cells.ensures.items_if_clones_equal (λ y e. e) in
    let made = subst (λ t. IsMadeOf t.tree rows.nodes.items rows.of.items numbers classes quarter split 0 0 0 cells new) c.trie.view_is c.set_children.ensures.made in
    let rows_count : c.len.result * quarter ≡ length rows.nodes.items * quarter = ap (λ (n : ℕ). n * quarter) (c.len.ensures ∙ rows.nodes.ok.0) in
    record {
      count = omega (arith, c.set_children.ensures.count, c.in_ok-cells.ensures.len, c.in_ok-cells.cells.ok.0, rows_count);
      right = right_start trie c.invariant.ensures c.requires.linked c.args.order.now c.requires.order rows.nodes.items rows.of.items numbers classes quarter split c.requires.parts cells new c.requires.root
          (λ k. ap (λ (xs : List ℕ). slice_index xs k) zeros ∙ zero_read _ k) made;
    }

pub index-requires-in-loop-node : goal.index-requires-in-loop-node
index-requires-in-loop-node g c =
    let rows = c.args.rows.now in
    let node : ℕ = slice_index c.args.order.now c.loop-node.node-index in
    omega (arith, (read_row c.args.trie.now.tree rows.nodes.items rows.of.items c.requires.parts.rows node c.index.result.now (c.requires.order.within c.loop-node.node-index (omega arith)).1 c.index.ensures).1, rows.nodes.ok.0)

pub make_row-requires-clause-to : goal.make_row-requires-clause-to
make_row-requires-clause-to g c =
    let rows = c.args.rows.now in
    let node : ℕ = slice_index c.args.order.now c.loop-node.node-index in
    (read_row c.args.trie.now.tree rows.nodes.items rows.of.items c.requires.parts.rows node c.index.result.now (c.requires.order.within c.loop-node.node-index (omega arith)).1 c.index.ensures).1

pub make_row-requires-clause-from : goal.make_row-requires-clause-from
make_row-requires-clause-from g c =
    let rows = c.args.rows.now in
    let node : ℕ = slice_index c.args.order.now c.loop-node.node-index in
    let longest = (c.requires.linked node (c.requires.order.within c.loop-node.node-index (omega arith)).1).link in
    let link = ap (λ x. x.link) c.links-link.ensures in
    (read_row c.args.trie.now.tree rows.nodes.items rows.of.items c.requires.parts.rows c.links-link.result.link c.index-then-index-node.result.now (omega (arith, link, longest.within)) c.index-then-index-node.ensures).1

pub loop-node-preserved : goal.loop-node-preserved
loop-node-preserved g c =
    let trie = c.args.trie.now in
    let tree = trie.tree in
    let order = c.args.order.now in
    let nodes = c.args.rows.now.nodes.items in
    let of = c.args.rows.now.of.items in
    let numbers = c.args.numbers.now in
    let classes = c.args.classes.now in
    let quarter : ℕ = c.args.quarter in
    let split = c.args.split in
    let parts = c.requires.parts in
    let at : ℕ = c.loop-node.node-index in
    let node : ℕ = slice_index order at in
    let cells = c.loop-node.cells.items in
    let inv = c.loop-node.invariant in
    let lt : at < length order = omega arith in
    let within = c.requires.order.within at lt in
    let row : ℕ = c.index.result.now in
    let read = read_row tree nodes of parts.rows node row within.1 c.index.ensures in
    let found : c.index-in-loop-node.result.now ≡ slice_index nodes row = c.index-in-loop-node.ensures ∙ get_or_default nodes row c.index-in-loop-node.result.now 0 read.1 in
    elim c.if-index-node.branch [
      | then-index-node w ↦
          let link : ℕ = w.links-link.result.link in
          let from : ℕ = w.index-then-index-node.result.now in
          let longest : IsLongest tree.texts (drop 1 (node_text tree node)) link = subst (λ x. IsLongest tree.texts (drop 1 (node_text tree node)) x.link) (sym w.links-link.ensures) (c.requires.linked node within.1).link in
          let new = w.make_row.new.cells.items in
          let made = subst (λ t. IsMadeOf t.tree nodes of numbers classes quarter split 0 from row cells new) c.trie.view_is w.make_row.ensures.made in
          let items : c.if-index-node.cells.items ≡ new = ap (λ v. v.items) w.cells-is in
          let next = right_more trie c.invariant.ensures c.requires.linked order c.requires.order nodes of numbers classes quarter split parts at link from row cells new lt read.1 (sym found ∙ w.if-index-node.true) longest
          (read_row tree nodes of parts.rows link from longest.within w.index-then-index-node.ensures).0 made inv.right in
          record {
            count = ap length items ∙ w.make_row.ensures.count ∙ inv.count;
            right = subst (λ (xs : List ℕ). AreRight tree order nodes numbers classes quarter split (at + 1) xs) (sym items) next;
          }
      | else-index-node w ↦
          let items : c.if-index-node.cells.items ≡ cells = ap (λ v. v.items) w.cells-is in
          let next = right_less trie c.invariant.ensures c.requires.linked order c.requires.order nodes of numbers classes quarter split parts at cells
          (λ e. w.if-index-node.false (found ∙ ap (λ (r : ℕ). slice_index nodes r) read.0 ∙ e)) inv.right in
          record {
            count = ap length items ∙ inv.count;
            right = subst (λ (xs : List ℕ). AreRight tree order nodes numbers classes quarter split (at + 1) xs) (sym items) next;
          }
    ]

pub returns : goal.returns
returns g c =
    let rows = c.args.rows.now in
    let inv = c.loop-node.invariant in
    right_all c.args.trie.now c.invariant.ensures c.requires.linked c.args.order.now c.requires.order rows.nodes.items rows.of.items c.args.numbers.now c.args.classes.now c.args.quarter c.args.split c.requires.parts
    c.loop-node.node-index c.loop-node.cells.items (omega arith) (omega (arith, inv.count)) inv.right

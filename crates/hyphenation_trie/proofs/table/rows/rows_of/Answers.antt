use Rattle.std.proofs.Common.{◌≡◌, ◌+◌, ◌<◌, ℕ, List, false, length, drop, slice_index, set, sym, ap, subst, ◌∙◌, arith}
use Rattle.std.specs.Prelude.{slice_index_or}
use Rattle.std.proofs.lemmas.List.{get_or_default}
use Rattle.hyphenation_trie.specs.Trie.{node_text}
use Rattle.hyphenation_trie.specs.Links.{IsLongest}
use Rattle.hyphenation_trie.proofs.TableRows.{AreNumbered, numbered_start, numbered_leaf, numbered_again, numbered_all}
use Rattle.hyphenation_trie.proofs.table.rows.rows_of.Goals.{then-not-inner-at, else-not-inner-at}
use Rattle.hyphenation_trie.proofs.table.rows.rows_of.Goals as goal

pub loop-node-preserved : goal.loop-node-preserved
loop-node-preserved g c =
    let tree = c.args.trie.now.tree in
    let trie = c.invariant.ensures in
    let order = c.args.order.now in
    let marks = c.args.inner.now in
    let nodes = c.in_ok-nodes.field-0.nodes.items in
    let of = c.loop-node.of.items in
    let at : ℕ = c.loop-node.node-index in
    let node : ℕ = slice_index order at in
    let inv = c.loop-node.invariant in
    let by = c.requires.order in
    let lt : at < length order = omega arith in
    let within = by.within at lt in
    elim c.if-not-inner-at.branch [
      | then-not-inner-at w ↦
          let link : ℕ = w.links.result.link in
          let leaf : slice_index_or marks node false ≡ false = w.if-not-inner-at.true in
          let longest : IsLongest tree.texts (drop 1 (node_text tree node)) link = subst (λ x. IsLongest tree.texts (drop 1 (node_text tree node)) x.link) (sym w.links.ensures) (c.requires.linked node within.1).link in
          let read : w.index.result.now ≡ slice_index of link = w.index.ensures ∙ get_or_default of link w.index.result.now 0 (omega (arith, longest.within, inv.rows.rows_of)) in
          let next = numbered_leaf tree trie order marks nodes of at link by c.requires.inner lt leaf longest inv in
          let now : c.if-not-inner-at.of.items ≡ set of node (slice_index of link) = ap (λ v. v.items) w.of-is ∙ ap (λ (x : ℕ). set of node x) read in
          subst (λ (xs : List ℕ). AreNumbered tree order marks nodes xs (at + 1)) (sym now) next
      | else-not-inner-at w ↦
          let next = numbered_again tree order marks nodes of at w.if-not-inner-at.false inv in
          subst (λ (xs : List ℕ). AreNumbered tree order marks nodes xs (at + 1)) (sym (ap (λ v. v.items) w.of-is)) next
    ]

pub returns : goal.returns
returns g c = numbered_all c.args.trie.now.tree c.args.order.now c.args.inner.now c.in_ok-nodes.field-0.nodes.items c.loop-node.of.items c.loop-node.node-index c.requires.order (omega arith) c.loop-node.invariant

pub loop-node-init : goal.loop-node-init
loop-node-init g c = numbered_start c.args.trie.now.tree c.invariant.ensures c.args.order.now c.args.inner.now c.in_ok-nodes.field-0.nodes.items c.in_ok-nodes.field-0.of.items c.requires.inner c.in_ok-nodes.ensures

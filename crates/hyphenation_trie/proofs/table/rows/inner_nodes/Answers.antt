use Rattle.std.proofs.Common.{◌≡◌, ℕ, length, subst, arith}
use Rattle.hyphenation_trie.specs.Private.TableRows.{AreInner}
use Rattle.hyphenation_trie.proofs.TableRows.{marked_more}
use Rattle.hyphenation_trie.proofs.table.rows.inner_nodes.Goals as goal

pub loop-node-preserved : goal.loop-node-preserved
loop-node-preserved g c =
    let from = c.from-parent in
    record {
      within = omega arith;
      inner = marked_more c.args.trie.now.tree c.invariant.ensures c.loop-node.inner.items c.loop-node.node from.result.0 from.result.1 (omega (arith, from.ensures.before)) from.ensures.text c.loop-node.invariant.inner;
    }

pub returns : goal.returns
returns g c =
    let tree = c.args.trie.now.tree in
    let inv = c.loop-node.invariant in
    let all : c.loop-node.node ≡ length tree.texts = omega (arith, inv.within) in
    subst (λ (n : ℕ). AreInner tree c.loop-node.inner.items n) all inv.inner

use Rattle.std.proofs.Common.{◌≡◌, ◌+◌, ◌++◌, [], ◌∷◌, ℕ, List, length, set, sym, ap, subst, subst₂, ◌∙◌, arith}
use Rattle.hyphenation_trie.specs.Private.TableRows.{AreOwnRows}
use Rattle.hyphenation_trie.proofs.TableRows.{own_start, own_more, own_less}
use Rattle.hyphenation_trie.proofs.table.rows.own_rows.Goals.{then-inner-node+in_ok-row+in_ok-number+in_ok-push, else-inner-node}
use Rattle.hyphenation_trie.proofs.table.rows.own_rows.Goals as goal

pub loop-node-preserved : goal.loop-node-preserved
loop-node-preserved c =
    let marks = c.args.inner.now in
    let nodes = c.loop-node.nodes.items in
    let of = c.loop-node.of.items in
    let node : ℕ = c.loop-node.node in
    let inv = c.loop-node.invariant.own in
    elim c.if-inner-node.branch [
      | then-inner-node+in_ok-row+in_ok-number+in_ok-push w ↦
          let next = own_more marks nodes of node (omega arith) (omega arith) w.if-inner-node.true inv in
          let row : w.in_ok-row.row ≡ length nodes = w.in_ok-row.ensures.same_number ∙ w.len.ensures ∙ c.loop-node.nodes.ok.0 in
          let more : c.if-inner-node.nodes.items ≡ nodes ++ node ∷ [] = ap (λ v. v.items) w.nodes-is ∙ w.in_ok-push.ensures.items ∙ ap (λ (x : ℕ). nodes ++ x ∷ []) w.in_ok-number.ensures.same_number in
          let now : c.if-inner-node.of.items ≡ set of node (length nodes) = ap (λ v. v.items) w.of-is ∙ ap (λ (x : ℕ). set of node x) row in
          record { within = omega arith; own = subst₂ (λ (ns os : List ℕ). AreOwnRows marks ns os (node + 1)) (sym more) (sym now) next }
      | else-inner-node w ↦
          let next = own_less marks nodes of node w.if-inner-node.false inv in
          record { within = omega arith; own = subst₂ (λ (ns os : List ℕ). AreOwnRows marks ns os (node + 1)) (sym (ap (λ v. v.items) w.nodes-is)) (sym (ap (λ v. v.items) w.of-is)) next }
    ]

pub returns : goal.returns
returns c =
    let marks = c.args.inner.now in
    let inv = c.loop-node.invariant in
    let all : c.loop-node.node ≡ length marks = omega (arith, inv.within) in
    subst (λ (n : ℕ). AreOwnRows marks c.loop-node.nodes.items c.loop-node.of.items n) all inv.own

pub loop-node-init : goal.loop-node-init
loop-node-init c =
    let zeros = c.in_ok-of.ensures.items_if_clones_equal (λ y e. e) in
    record {
      within = omega (arith, c.requires);
      own = own_start c.args.inner.now c.in_ok-nodes.nodes.items c.in_ok-of.of.items c.in_ok-nodes.ensures zeros (omega (arith, c.in_ok-of.ensures.len, c.in_ok-of.of.ok.0));
    }

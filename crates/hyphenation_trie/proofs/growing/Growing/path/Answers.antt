use Rattle.std.proofs.Common.{◌≡◌, ◌∙◌, ◌++◌, ◌+◌, [], ◌∷◌, List, ℕ, ap, sym, subst, arith, get_or, length}
use Rattle.std.proofs.lemmas.List.{length-append}
use Rattle.hyphenation_trie.specs.Trie.{node_text}
use Rattle.hyphenation_trie.proofs.TrieNodes.{key_at-grows, adds-grows, keeps-grows, front_more}
use Rattle.hyphenation_trie.proofs.Trails.{AreAlong, trail_more}
use Rattle.hyphenation_trie.proofs.growing.Growing.path.Goals as goal

pub returns-in_err-node-clause-keys_stay : goal.returns-in_err-node-clause-keys_stay
returns-in_err-node-clause-keys_stay g c = λ q. key_at-grows c.loop-at.self c.step.new.self _ c.invariant.ensures c.in_err-node.ensures.grows q ∙ c.loop-at.invariant.keys q

pub returns-in_err-node-clause-adds : goal.returns-in_err-node-clause-adds
returns-in_err-node-clause-adds g c =
    let f = front_more c.args.text.now c.loop-at.at (node_text c.loop-at.self c.loop-at.node) c.loop-at.invariant.text (omega arith) in
    adds-grows c.args.self.now c.loop-at.self c.step.new.self _ c.args.text.now c.loop-at.invariant.adds c.in_err-node.ensures.grows f.1

pub returns-in_err-node-clause-nodes : goal.returns-in_err-node-clause-nodes
returns-in_err-node-clause-nodes g c = keeps-grows c.args.self.now c.loop-at.self c.step.new.self _ c.loop-at.invariant.nodes c.in_err-node.ensures.grows

pub returns-in_err-push_both-clause-keys_stay : goal.returns-in_err-push_both-clause-keys_stay
returns-in_err-push_both-clause-keys_stay g c = λ q. key_at-grows c.loop-at.self c.step.new.self _ c.invariant.ensures c.in_ok-node.ensures.grows q ∙ c.loop-at.invariant.keys q

pub returns-in_err-push_both-clause-adds : goal.returns-in_err-push_both-clause-adds
returns-in_err-push_both-clause-adds g c =
    let f = front_more c.args.text.now c.loop-at.at (node_text c.loop-at.self c.loop-at.node) c.loop-at.invariant.text (omega arith) in
    adds-grows c.args.self.now c.loop-at.self c.step.new.self _ c.args.text.now c.loop-at.invariant.adds c.in_ok-node.ensures.grows f.1

pub returns-in_err-push_both-clause-nodes : goal.returns-in_err-push_both-clause-nodes
returns-in_err-push_both-clause-nodes g c = keeps-grows c.args.self.now c.loop-at.self c.step.new.self _ c.loop-at.invariant.nodes c.in_ok-node.ensures.grows

pub loop-at-preserved : goal.loop-at-preserved
loop-at-preserved g c =
    let old = c.loop-at.invariant in
    let t = c.step.new.self in
    let child = c.in_ok-node.ensures.child in
    let grows = c.in_ok-node.ensures.grows in
    let byte = get_or c.args.text.now c.loop-at.at 0 in
    let key : List ℕ = c.loop-at.trail.key.items in
    let nodes : List ℕ = c.loop-at.trail.nodes.items in
    let f = front_more c.args.text.now c.loop-at.at (node_text c.loop-at.self c.loop-at.node) old.text (omega arith) in
    let fk = front_more c.args.text.now c.loop-at.at key old.key (omega arith) in
    let is : node_text t c.in_ok-node.node ≡ key ++ byte ∷ [] = child.1 ∙ f.0 ∙ sym fk.0 in
    let along = trail_more c.loop-at.self t _ nodes key c.in_ok-node.node byte grows old.trail.nodes old.trail.each child.0 is in
    let firsts = c.in_ok-push_both.ensures.firsts in
    let seconds = c.in_ok-push_both.ensures.seconds in
    record {
      trail = record {
        nodes = ap length seconds ∙ length-append nodes (c.in_ok-node.node ∷ []) ∙ ap (λ (n : ℕ). n + 1) old.trail.nodes
            ∙ sym (length-append key (byte ∷ [])) ∙ ap length (sym firsts);
        each = subst (λ (ns : List ℕ). AreAlong t ns c.push_both.new.firsts.items) (sym seconds)
            (subst (λ (bs : List ℕ). AreAlong t (nodes ++ c.in_ok-node.node ∷ []) bs) (sym firsts) along);
      };
      key = firsts ∙ fk.0;
      within = child.0;
      text = child.1 ∙ f.0;
      keys = λ q. key_at-grows c.loop-at.self t _ c.invariant.ensures grows q ∙ old.keys q;
      adds = adds-grows c.args.self.now c.loop-at.self t _ c.args.text.now old.adds grows f.1;
      nodes = keeps-grows c.args.self.now c.loop-at.self t _ old.nodes grows;
    }

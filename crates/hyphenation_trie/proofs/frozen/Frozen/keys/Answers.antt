use Rattle.std.proofs.Common.{◌<◌, ap, length, arith}
use Rattle.hyphenation_trie.proofs.NodeTexts.{key_more, no_key_here}
use Rattle.hyphenation_trie.proofs.frozen.Frozen.keys.Goals as goal
use Rattle.hyphenation_trie.proofs.frozen.Frozen.keys.Goals.{in-Some+in_ok-key+in_ok-push, in_default}

pub loop-node-preserved : goal.loop-node-preserved
loop-node-preserved g c =
    let t = c.args.self.now.tree in
    let trie = c.invariant.ensures in
    let within : c.loop-node.node < length t.texts = omega (arith, c.count-node-end.ensures, c.loop-node-test.true) in
    elim c.match-entries.branch [
      | in-Some+in_ok-key+in_ok-push w ↦ rw w.keys-is (key_more (λ key. (key.0.items, key.1.now)) t c.loop-node.node c.loop-node.keys.items _ _ w.in-Some.entries.now _ trie within w.in-Some.ensures.key (ap (λ k. (k, w.in-Some.entries.now)) w.in_ok-key.ensures) w.in_ok-push.ensures.items c.loop-node.invariant)
      | in_default w ↦ rw w.keys-is (no_key_here t c.loop-node.node _ _ trie within w.in_default.ensures.key c.loop-node.invariant)
    ]

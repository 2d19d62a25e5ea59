use Rattle.std.proofs.Common.{arith}
use Rattle.hyphenation_trie.proofs.HeldNodes.{count_is}
use Rattle.hyphenation_trie.proofs.TrieNodes.{length-texts_of}
use Rattle.hyphenation_trie.specs.Private.States.{froms_by}
use Rattle.hyphenation_trie.proofs.growing.Growing.count.Goals as goal

pub returns : goal.returns
returns g c =
    let n = count_is _ _ c.self.inside.states.items _ _ _ c.len.result c.self.invariant.0 (omega (arith, c.len.ensures, c.self.inside.states.ok.0)) in
    rw (← c.self.view_is) (omega (arith, n.0, length-texts_of (froms_by c.self.inside.children.parents.items c.self.inside.children.bytes.items)))

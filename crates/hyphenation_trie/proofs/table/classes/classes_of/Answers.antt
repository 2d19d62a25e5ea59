use Rattle.std.proofs.Common.{◌≡◌, ◌+◌, ◌++◌, ◌∷◌, [], ◌<◌, ℕ, List, length, set, slice_index, slice_index_or, sym, ap, subst, ◌∙◌, arith}
use Rattle.std.specs.Prelude.{replicate}
use Rattle.std.proofs.lemmas.List.{get_or-set_same, length-replicate}
use Rattle.hyphenation_trie.specs.Trie.{Tree, node_text}
use Rattle.hyphenation_trie.proofs.ChainsGrow.{zero_read}
use Rattle.hyphenation_trie.proofs.TableOrder.{AreClassesTo, classes_none, classes_had, classes_given, classes_all}
use Rattle.hyphenation_trie.proofs.table.classes.classes_of.Goals as goal
use Rattle.hyphenation_trie.proofs.table.classes.classes_of.Goals.{then-classes-byte-eq0+else-last, else-classes-byte-eq0}

pub loop-node-init : goal.loop-node-init
loop-node-init g c =
    let tree = c.args.automaton.now in
    classes_none tree.texts (replicate 256 0) c.invariant.ensures.root (length-replicate {A = ℕ} 256 0) (λ b. zero_read 256 b)

pub loop-node-preserved : goal.loop-node-preserved
loop-node-preserved g c =
    let tree = c.args.automaton.now in
    let texts = tree.texts in
    let m : ℕ = c.loop-node.node in
    let byte : ℕ = c.from-byte.result.1 in
    let old = c.loop-node.classes in
    let inv = c.loop-node.invariant in
    let small : byte < 256 = omega arith in
    let front = slice_index_or texts c.from-byte.result.0 [] in
    let text : slice_index_or texts m [] ≡ front ++ byte ∷ [] =
    subst (λ (t : Tree _). node_text t m ≡ node_text t c.from-byte.result.0 ++ byte ∷ []) c.automaton.view_is c.from-byte.ensures.text in
    elim c.if-classes-byte-eq0.branch [
      | then-classes-byte-eq0+else-last w ↦
          let last : ℕ = c.loop-node.last in
          let next : ℕ = c.if-classes-byte-eq0.last in
          let new : List ℕ = set old byte next in
          let above : last < next = omega (arith, w.last-is) in
          let items : c.if-classes-byte-eq0.classes ≡ new = w.classes-is ∙ ap (λ (k : ℕ). set old byte k) (sym w.last-is) in
          let here : slice_index new byte ≡ next = get_or-set_same old byte next 0 (omega (arith, inv.all)) in
          subst (λ (xs : List ℕ). AreClassesTo texts xs next (m + 1)) (sym items)
          (classes_had texts new next m byte front text (omega (arith, here, above)) (classes_given texts old last next m byte small above w.if-classes-byte-eq0.true inv))
      | else-classes-byte-eq0 w ↦
          let items : c.if-classes-byte-eq0.classes ≡ old = w.classes-is in
          subst (λ (xs : List ℕ). AreClassesTo texts xs c.if-classes-byte-eq0.last (m + 1)) (sym items)
          (subst (λ (k : ℕ). AreClassesTo texts old k (m + 1)) (sym w.last-is) (classes_had texts old c.loop-node.last m byte front text (omega (arith, w.if-classes-byte-eq0.false)) inv))
    ]

pub returns : goal.returns
returns g c = classes_all c.args.automaton.now.texts c.loop-node.classes c.loop-node.last c.loop-node.node (omega (arith, c.loop-node-test.false, c.count-node-end.ensures, ap (λ (t : Tree _). length t.texts) c.automaton.view_is)) c.loop-node.invariant

use Rattle.std.proofs.Common.{ℕ, List, [], ◌∷◌, ◌++◌, replicate, ap, ◌∙◌, arith}
use Rattle.libhyphen_files.proofs.NumberedNodes.{nodes_start, nodes_more}
use Rattle.libhyphen_files.proofs.vectors.numbered_vectors.Goals as goal

pub loop-node-init : goal.loop-node-init
loop-node-init c = record {
  pairs = c.add-2.ensures.found;
  numbered = nodes_start c.args.patterns.now c.push.new.self.items c.add-2.new.self.vectors.items
      (c.in_ok-push.ensures.items ∙ ap (λ (ns : List ℕ). ns ++ 0 ∷ []) c.in_ok-numbers.ensures.items)
      (c.in_ok-add-2.ensures.vectors ∙ ap (λ (vs : List (List ℕ)). vs ++ replicate 16 255 ∷ [])
      (c.in_ok-add.ensures.vectors ∙ ap (λ (vs : List (List ℕ)). vs ++ replicate 16 0 ∷ []) c.in_ok-pairs.ensures.none.0));
}

pub loop-node-preserved : goal.loop-node-preserved
loop-node-preserved c =
    let l = c.loop-node in
    let number = c.in_ok-number in
    let made = c.number_of.ensures in
    record {
      pairs = made.pairs;
      numbered = nodes_more c.args.patterns.now l.numbers.items c.push-in-loop-node.new.self.items l.pairs.vectors.items c.number_of.new.pairs.vectors.items l.node number.number (omega arith)
          c.in_ok-push-2.ensures.items made.kept made.numbered number.ensures.found l.invariant.numbered;
    }

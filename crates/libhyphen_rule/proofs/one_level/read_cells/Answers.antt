use Rattle.std.proofs.Common.{◌≡◌, ◌+◌, ◌-◌, ◌<◌, ◌≤◌, length, ℕ, List, None, take, refl, sym, ap, ◌∙◌, arith}
use Rattle.std.proofs.lemmas.List.{length-take}
use Rattle.hyphenation_dictionary.specs.Parts.{patterns_of}
use Rattle.hyphenation_trie.specs.Trie.{node_text}
use Rattle.std.specs.Prelude.{slice_range}
use Rattle.libhyphen_files.specs.Patterns.{Pattern, first_place}
use Rattle.libhyphen_rule.specs.Counting.{framed, counted_from, counted_up_to}
use Rattle.libhyphen_files.specs.Vectors.{pattern_of_node}
use Rattle.libhyphen_rule.specs.Private.Pass.{value_of}
use Rattle.libhyphen_rule.proofs.LongestStart.{longest_none, longest_more, counted_none, counted_some}
use Rattle.libhyphen_rule.proofs.Pass.{some_has_text, first_is}
use Rattle.libhyphen_rule.proofs.RaisedDigits.{length-framed}
use Rattle.libhyphen_rule.proofs.TakenCells.{first_cells, same_cells, more_cells, value_copied}
use Rattle.libhyphen_rule.proofs.one_level.read_cells.Goals as goal
use Rattle.libhyphen_rule.proofs.one_level.read_cells.Goals.{in-Some, in_default}

pub loop-at-init : goal.loop-at-init
loop-at-init c = record {
  longest = longest_none c.args.patterns.now c.invariant.ensures (framed c.args.word.now) c.root-node.result c.root-node.ensures.root;
  len = refl;
  has = first_cells (patterns_of c.args.patterns.now) (framed c.args.word.now) c.args.cells.now c.requires.empty;
}

pub loop-at-preserved : goal.loop-at-preserved
loop-at-preserved c =
    let tree = c.args.patterns.now in
    let frame : List ℕ = framed c.args.word.now in
    let at : ℕ = c.loop-at.at in
    let node : ℕ = c.step-node.result in
    let before = counted_up_to (patterns_of tree) frame at in
    let after = counted_up_to (patterns_of tree) frame (at + 1) in
    let lt : at < length frame = omega (arith, length-framed c.args.word.now) in
    let longest = longest_more tree c.invariant.ensures c.longest_goes_on.ensures frame at c.framed_byte.result c.loop-at.node node lt c.framed_byte.ensures c.loop-at.invariant.longest c.step-node.ensures.longest in
    record {
      longest = longest;
      len = c.match-pattern_of_node.auto.cells ∙ c.loop-at.invariant.len;
      has = elim c.match-pattern_of_node.branch [
        | in_default w ↦
            let none : None ≡ pattern_of_node tree node = sym (ap value_of w.in_default.is) ∙ c.pattern_of_node.ensures in
            same_cells before after c.loop-at.cells c.match-pattern_of_node.cells (counted_none tree c.invariant.ensures c.keys_have_nodes.ensures c.keys_are_looked_up.ensures c.requires.begins frame at node lt longest none) w.cells-is c.loop-at.invariant.has
        | in-Some w ↦
            let p : Pattern = w.in-Some.pattern.now in
            let counted = counted_some tree c.invariant.ensures c.keys_have_nodes.ensures c.keys_are_looked_up.ensures c.requires.begins frame at node lt longest p w.in-Some.ensures in
            let depth : w.depth-depth.result ≡ length (node_text tree node) = w.depth-depth.ensures in
            let short : length (node_text tree node) ≤ at + 1 = omega (arith, longest.ends.0, length-take (at + 1) frame) in
            let most : at + 1 + 1 - (at + 1 - length (node_text tree node)) ≡ w.depth-depth.result + 1 = omega arith in
            let some = some_has_text tree c.invariant.ensures node p w.in-Some.ensures longest.within in
            let start : at + 1 - w.depth-depth.result ≡ at + 1 - length (node_text tree node) = ap (λ (k : ℕ). at + 1 - k) depth in
            let first : at + 1 - length (node_text tree node) + first_place (slice_range frame (at + 1 - length (node_text tree node)) (at + 1)) ≡ (at + 1 - w.depth-depth.result) + w.from.result =
            first_is frame (at + 1 - length (node_text tree node)) (at + 1 - w.depth-depth.result) (at + 1) w.framed_byte-in-Some.result w.from.result (omega arith) start w.framed_byte-in-Some.ensures w.from.ensures in
            more_cells before after (counted_from frame (at + 1) (at + 1 - length (node_text tree node)) p) (at + 1 - w.depth-depth.result) (at + 1 - w.depth-depth.result + w.from.result)
            w.first_digits-digits.result.now (value_of w.as_ref.result) c.loop-at.cells w.take_pattern.new.cells c.match-pattern_of_node.cells counted w.cells-is (sym start) first
            (ap (λ (k : ℕ). take k p.digits) most ∙ sym w.first_digits-digits.ensures)
            (sym (value_copied w.as_ref.result ∙ w.as_ref.ensures.value ∙ ap (λ (q : Pattern). q.change) w.pattern.view_is))
            w.take_pattern.ensures c.loop-at.invariant.has
      ];
    }

use Rattle.std.proofs.Common.{◌≡◌, ◌+◌, ◌-◌, ◌<◌, ◌≤◌, cond, length, map, ℕ, List, [], ◌∷◌, None, take, sym, ap, ◌∙◌, arith}
use Rattle.std.specs.Prelude.{◌&&◌, is_some}
use Rattle.std.proofs.lemmas.List.{map-append}
use Rattle.std.proofs.lemmas.List.{length-take}
use Rattle.hyphenation_dictionary.specs.Parts.{patterns_of}
use Rattle.hyphenation_trie.specs.Trie.{node_text}
use Rattle.libhyphen_files.specs.Patterns.{Pattern}
use Rattle.libhyphen_rule.specs.Counting.{Counted, framed, counted_from, counted_up_to}
use Rattle.libhyphen_rule.specs.OneLevel.{offers, given_by}
use Rattle.libhyphen_files.specs.Vectors.{pattern_of_node}
use Rattle.libhyphen_rule.specs.Private.Pass.{value_of}
use Rattle.libhyphen_rule.proofs.LongestStart.{longest_none, longest_more, counted_none, counted_some}
use Rattle.libhyphen_rule.proofs.RaisedDigits.{given_start, given_digits, has_none, has_same, has_more, digits_are, length-framed}
use Rattle.libhyphen_rule.proofs.digits.read_digits.Goals as goal
use Rattle.libhyphen_rule.proofs.digits.read_digits.Goals.{in-Some, in_default}

pub loop-at-init : goal.loop-at-init
loop-at-init c = record {
  longest = longest_none c.args.patterns.now c.invariant.ensures (framed c.args.word.now) c.root-node.result c.root-node.ensures.root;
  len = c.clear.auto.digits ∙ c.requires.digits;
  has = has_none c.args.plain (patterns_of c.args.patterns.now) (framed c.args.word.now) c.clear.new.digits c.clear.ensures;
}

pub loop-at-preserved : goal.loop-at-preserved
loop-at-preserved c =
    let tree = c.args.patterns.now in
    let frame : List ℕ = framed c.args.word.now in
    let at : ℕ = c.loop-at.at in
    let node : ℕ = c.step-node.result in
    let by : Counted → Counted = given_by c.args.plain in
    let before : List Counted = counted_up_to (patterns_of tree) frame at in
    let after : List Counted = counted_up_to (patterns_of tree) frame (at + 1) in
    let lt : at < length frame = omega (arith, length-framed c.args.word.now) in
    let longest = longest_more tree c.invariant.ensures c.longest_goes_on.ensures frame at c.framed_byte.result c.loop-at.node node lt c.framed_byte.ensures c.loop-at.invariant.longest c.step-node.ensures.longest in
    record {
      longest = longest;
      len = c.match-pattern_of_node.auto.digits ∙ c.loop-at.invariant.len;
      has = elim c.match-pattern_of_node.branch [
        | in_default w ↦
            let none : None ≡ pattern_of_node tree node = sym (ap value_of w.in_default.is) ∙ c.pattern_of_node.ensures in
            has_same (map by before) (map by after) c.loop-at.digits c.match-pattern_of_node.digits (ap (map by) (counted_none tree c.invariant.ensures c.keys_have_nodes.ensures c.keys_are_looked_up.ensures c.requires.begins frame at node lt longest none)) w.digits-is c.loop-at.invariant.has
        | in-Some w ↦
            let p : Pattern = w.in-Some.pattern.now in
            let counted = counted_some tree c.invariant.ensures c.keys_have_nodes.ensures c.keys_are_looked_up.ensures c.requires.begins frame at node lt longest p w.in-Some.ensures in
            let depth : w.depth-depth.result ≡ length (node_text tree node) = w.depth-depth.ensures in
            let short : length (node_text tree node) ≤ at + 1 = omega (arith, longest.ends.0, length-take (at + 1) frame) in
            let most : at + 1 + 1 - (at + 1 - length (node_text tree node)) ≡ w.depth-depth.result + 1 = omega arith in
            let one : Counted = counted_from frame (at + 1) (at + 1 - length (node_text tree node)) p in
            has_more (map by before) (map by after) (by one) (at + 1 - w.depth-depth.result) w.digits_given.result.now
            c.loop-at.digits w.raise_all.new.digits c.match-pattern_of_node.digits (ap (map by) counted ∙ map-append by before (one ∷ [])) w.digits-is
            (given_start c.args.plain one ∙ ap (λ (k : ℕ). at + 1 - k) (sym depth))
            (given_digits c.args.plain one ∙ ap (λ (k : ℕ). cond (c.args.plain && is_some p.change) [] (take k p.digits)) most ∙ sym w.digits_given.ensures) w.raise_all.ensures c.loop-at.invariant.has
      ];
    }

pub returns : goal.returns
returns c =
    let end : c.loop-at.at ≡ length (framed c.args.word.now) = omega (arith, length-framed c.args.word.now) in
    let by : Counted → Counted = given_by c.args.plain in
    digits_are (offers (map by (counted_up_to (patterns_of c.args.patterns.now) (framed c.args.word.now) c.loop-at.at))) (offers (map by (counted_up_to (patterns_of c.args.patterns.now) (framed c.args.word.now) (length (framed c.args.word.now))))) c.loop-at.digits (length c.args.word.now)
    c.loop-at.invariant.len (ap (λ (k : ℕ). offers (map by (counted_up_to (patterns_of c.args.patterns.now) (framed c.args.word.now) k))) end) c.loop-at.invariant.has

use Rattle.std.proofs.Common.{◌-◌, ◌<◌, ℕ, length, drop, ap, refl, arith, ◌∙◌}
use Rattle.std.proofs.lemmas.Grind.{common_steps}
use Rattle.std.proofs.lemmas.List.{length-drop}
use Rattle.hyphenation_trie.specs.Trie.{node_text, entries_of_key}
use Rattle.hyphenation_score.specs.Private.OnePass.{bearing}
use Rattle.hyphenation_score.proofs.OnePass.{Ends-drop, Ends-trans, depth_pos, none_next, visited, visited_first, visited_more, after_none, after_more, counted_first, counted_more}
use Rattle.hyphenation_score.proofs.pass.compete_keys_at.Goals as goal

pub loop-node-init : goal.loop-node-init
loop-node-init g c =
    let tree = c.args.automaton.now in
    let t = node_text tree c.args.from in
    let report = c.report-node.ensures in
    record {
      within = report.within;
      ends = report.ends;
      key = report.key;
      len = refl;
      met = after_none g.S.Slot.meaning g.S.Slot.after c.args.slots.now (visited (entries_of_key tree) t c.args.end (length t - length (node_text tree c.report-node.result))) (visited_first tree t c.args.end c.report-node.result report);
      reported = omega (arith, counted_first tree t _ report);
      few = omega (arith, report.ends.0);
      made = refl;
    }

pub loop-node-preserved : goal.loop-node-preserved
loop-node-preserved g c =
    let tree = c.args.automaton.now in
    let keys = entries_of_key tree in
    let t = node_text tree c.args.from in
    let at = c.loop-node.node in
    let inv = c.loop-node.invariant in
    let to : ℕ = c.next_report-node.result in
    let es = c.entries-entries.result.now in
    let pos = depth_pos tree c.invariant.ensures at (omega arith) inv.within in
    let report = c.next_report-node.ensures in
    let less : length (node_text tree to) < length (node_text tree at) = omega (arith, report.ends.0, length-drop 1 (node_text tree at)) in
    let none = none_next tree t at to inv.ends report in
    let more = counted_more tree t at to inv.ends less (inv.key (omega arith)) none in
    let counted = ap (λ x. x.reported) c.entries-entries.ensures.counted in
    record {
      within = report.within;
      ends = Ends-trans t (node_text tree at) (node_text tree to) inv.ends (Ends-trans (node_text tree at) (drop 1 (node_text tree at)) (node_text tree to) (Ends-drop (node_text tree at) 1 pos) report.ends);
      key = report.key;
      len = c.compete_entries.auto.slots ∙ inv.len;
      met = after_more g.S.Slot.meaning g.S.Slot.after c.args.slots.now c.loop-node.slots c.compete_entries.new.slots (visited keys t c.args.end (length t - length (node_text tree at))) (bearing es (c.args.end - c.depth.result)) (visited keys t c.args.end (length t - length (node_text tree to)))
          inv.len (visited_more tree t c.args.end at to c.depth.result es inv.ends c.requires.end c.depth.ensures c.entries-entries.ensures.entries less none) inv.met c.compete_entries.ensures;
      reported = omega (arith, counted, more, inv.reported);
      few = omega (arith, counted, inv.few);
      made = ap (λ x. x.made) c.entries-entries.ensures.counted ∙ inv.made;
    }

pub report-node-requires : goal.report-node-requires
report-node-requires g c = grind (arith, common_steps)

pub next_report-node-requires : goal.next_report-node-requires
next_report-node-requires g c = grind (arith, common_steps)

pub depth-requires : goal.depth-requires
depth-requires g c = grind (arith, common_steps)

pub entries-entries-requires-clause-key : goal.entries-entries-requires-clause-key
entries-entries-requires-clause-key g c = grind (arith, common_steps)

pub entries-entries-requires-clause-node : goal.entries-entries-requires-clause-node
entries-entries-requires-clause-node g c = grind (arith, common_steps)

pub entries-entries-requires-clause-room : goal.entries-entries-requires-clause-room
entries-entries-requires-clause-room g c = grind (arith, common_steps)

pub compete_entries-requires : goal.compete_entries-requires
compete_entries-requires g c = grind (arith, common_steps)

pub loop-node-smaller : goal.loop-node-smaller
loop-node-smaller g c = grind (arith, common_steps)

pub returns-clause-made : goal.returns-clause-made
returns-clause-made g c = grind (arith, common_steps)

pub returns-clause-reported : goal.returns-clause-reported
returns-clause-reported g c = grind (arith, common_steps)

pub returns-clause-slots : goal.returns-clause-slots
returns-clause-slots g c = grind (arith, common_steps)

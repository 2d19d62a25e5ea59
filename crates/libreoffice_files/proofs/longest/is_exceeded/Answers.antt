use Rattle.std.proofs.lemmas.Grind.{common_steps}
use Rattle.std.proofs.Common.{◌≡◌, ◌+◌, ◌-◌, ◌||◌, ℕ, Bool, true, false, length, drop, sym, ap, ◌∙◌, arith}
use Rattle.std.proofs.lemmas.List.{length-drop}
use Rattle.std.specs.List.{list_any, range_with_len}
use Rattle.hyphenation_trie.specs.Trie.{node_text, entries_of_key}
use Rattle.libreoffice_files.specs.Longest.{is_exceeded_from}
use Rattle.libreoffice_files.proofs.Endings.{any_first, next_ending, exceeded_from, ends_self, ends_rest, node_some}
use Rattle.libreoffice_files.proofs.longest.is_exceeded.Goals as goal

pub loop-ending-init : goal.loop-ending-init
loop-ending-init g c =
    let tree = c.args.automaton.now in
    let text = node_text tree c.args.node in
    let some = node_some tree c.args.node c.invariant.ensures (omega arith) c.requires in
    let report = c.next_report-ending.ensures in
    let from : 1 ≡ length text - length text + 1 = omega arith in
    record {
      within = report.within;
      shorter = omega (arith, report.ends.0, length-drop 1 text, some);
      ends = ends_rest text text _ (ends_self text) some report.ends;
      key = report.key;
      rest = ap (λ (k : ℕ). list_any (λ start. is_exceeded_from (entries_of_key tree) text start) (range_with_len k (length text - 1))) from
          ∙ next_ending tree text text c.next_report-ending.result (ends_self text) some report;
    }

pub returns-then-exceed : goal.returns-then-exceed
returns-then-exceed g c =
    let tree = c.args.automaton.now in
    let text = node_text tree c.args.node in
    let inv = c.loop-ending.invariant in
    let u = node_text tree c.loop-ending.ending in
    let some = node_some tree c.loop-ending.ending c.invariant.ensures (omega arith) inv.within in
    let f : ℕ → Bool = λ start. is_exceeded_from (entries_of_key tree) text start in
    let start : c.depth.result - c.depth-in-loop-ending.result ≡ length text - length u = omega (arith, c.depth.ensures, c.depth-in-loop-ending.ensures) in
    let here : f (c.depth.result - c.depth-in-loop-ending.result) ≡ true =
    sym (exceeded_from (entries_of_key tree) text u c.entries.result.now c.own_entries-own.result.now (c.depth.result - c.depth-in-loop-ending.result) (ap (λ (k : ℕ). drop k text) start ∙ inv.ends.1) c.entries.ensures.entries c.own_entries-own.ensures)
    ∙ sym c.exceed.ensures ∙ c.if-exceed.true in
    sym (inv.rest ∙ any_first f (length text - length u) (length u) some ∙ ap (λ (b : Bool). b || list_any f (range_with_len (length text - length u + 1) (length u - 1))) (ap f (sym start) ∙ here))

pub loop-ending-preserved : goal.loop-ending-preserved
loop-ending-preserved g c =
    let tree = c.args.automaton.now in
    let text = node_text tree c.args.node in
    let inv = c.loop-ending.invariant in
    let u = node_text tree c.loop-ending.ending in
    let some = node_some tree c.loop-ending.ending c.invariant.ensures (omega arith) inv.within in
    let f : ℕ → Bool = λ start. is_exceeded_from (entries_of_key tree) text start in
    let start : c.depth.result - c.depth-in-loop-ending.result ≡ length text - length u = omega (arith, c.depth.ensures, c.depth-in-loop-ending.ensures) in
    let here : f (c.depth.result - c.depth-in-loop-ending.result) ≡ false =
    sym (exceeded_from (entries_of_key tree) text u c.entries.result.now c.own_entries-own.result.now (c.depth.result - c.depth-in-loop-ending.result) (ap (λ (k : ℕ). drop k text) start ∙ inv.ends.1) c.entries.ensures.entries c.own_entries-own.ensures)
    ∙ sym c.exceed.ensures ∙ c.if-exceed.false in
    let report = c.next_report-ending-in-loop-ending.ensures in
    record {
      within = report.within;
      shorter = omega (arith, report.ends.0, length-drop 1 u, some, inv.shorter);
      ends = ends_rest text u _ inv.ends some report.ends;
      key = report.key;
      rest = inv.rest ∙ any_first f (length text - length u) (length u) some
          ∙ ap (λ (b : Bool). b || list_any f (range_with_len (length text - length u + 1) (length u - 1))) (ap f (sym start) ∙ here)
          ∙ next_ending tree text u c.next_report-ending-in-loop-ending.result inv.ends some report;
    }

pub returns-then-node-eq0 : goal.returns-then-node-eq0
returns-then-node-eq0 g c = grind (arith, common_steps)

pub own_entries-own-requires : goal.own_entries-own-requires
own_entries-own-requires g c = grind (arith, common_steps)

pub next_report-ending-requires : goal.next_report-ending-requires
next_report-ending-requires g c = grind (arith, common_steps)

pub depth-requires : goal.depth-requires
depth-requires g c = grind (arith, common_steps)

pub depth-requires-in-loop-ending : goal.depth-requires-in-loop-ending
depth-requires-in-loop-ending g c = grind (arith, common_steps)

pub overflow_sub-start : goal.overflow_sub-start
overflow_sub-start g c = grind (arith, common_steps)

pub entries-requires-clause-node : goal.entries-requires-clause-node
entries-requires-clause-node g c = grind (arith, common_steps)

pub entries-requires-clause-key : goal.entries-requires-clause-key
entries-requires-clause-key g c = grind (arith, common_steps)

pub entries-requires-clause-room : goal.entries-requires-clause-room
entries-requires-clause-room g c = grind (arith, common_steps)

pub next_report-ending-requires-in-loop-ending : goal.next_report-ending-requires-in-loop-ending
next_report-ending-requires-in-loop-ending g c = grind (arith, common_steps)

pub loop-ending-smaller : goal.loop-ending-smaller
loop-ending-smaller g c = grind (arith, common_steps)

pub returns : goal.returns
returns g c = grind (arith, common_steps)

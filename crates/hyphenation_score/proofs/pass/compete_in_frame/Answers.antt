use Rattle.std.proofs.Common.{◌≡◌, ◌+◌, length, slice_index, refl, sym, ap, ◌∙◌, arith}
use Rattle.std.proofs.lemmas.Grind.{common_steps}
use Rattle.hyphenation_score.specs.Scoring.{frame}
use Rattle.hyphenation_score.proofs.OnePassInvariant.{Passed, passed_none, passed_more, word_byte, last_byte}
use Rattle.hyphenation_score.proofs.Counting.{counts_passed}
use Rattle.hyphenation_score.proofs.pass.compete_in_frame.Goals as goal

pub loop-at-init : goal.loop-at-init
loop-at-init g c =
    let tree = c.args.automaton.now in
    let word = c.args.word.now in
    let read = c.read_byte-node in
    let r = read.ensures in
    passed_more tree word c.invariant.ensures (passed_none tree word c.invariant.ensures c.args.slots.now c.root-root.result c.args.count.now.made c.args.count.now.reported c.root-root.ensures.root)
    c.keys_have_nodes.ensures c.longest_goes_on.ensures c.requires.begins 46 read.result 1 1 read.new.count.made read.new.count.reported read.new.slots (omega arith) refl refl refl r.longest read.auto.slots r.slots r.least r.most r.alone r.reported

pub loop-at-preserved : goal.loop-at-preserved
loop-at-preserved g c =
    let tree = c.args.automaton.now in
    let word = c.args.word.now in
    let read = c.read_byte-node-in-loop-at in
    let r = read.ensures in
    passed_more tree word c.invariant.ensures c.loop-at.invariant c.keys_have_nodes.ensures c.longest_goes_on.ensures c.requires.begins (slice_index word c.loop-at.at) read.result (c.loop-at.at + 2) ((c.loop-at.at + 1) + 1) read.new.count.made read.new.count.reported read.new.slots
    (omega arith) (word_byte word c.loop-at.at (omega arith)) (omega arith) refl r.longest read.auto.slots r.slots r.least r.most r.alone r.reported

-- The whole frame is read.
all : (g : _) (c : goal.After-slots-2-1 g) → Passed g.S.Slot.meaning g.S.Slot.after c.args.automaton.now c.args.word.now c.args.slots.now (length c.args.word.now + 2) c.read_byte-last.result c.read_byte-last.new.slots c.args.count.now.made c.args.count.now.reported c.read_byte-last.new.count.made c.read_byte-last.new.count.reported
all g c =
    let tree = c.args.automaton.now in
    let word = c.args.word.now in
    let read = c.read_byte-last in
    let r = read.ensures in
    let ends : c.loop-at.at ≡ length word = omega arith in
    passed_more tree word c.invariant.ensures c.loop-at.invariant c.keys_have_nodes.ensures c.longest_goes_on.ensures c.requires.begins 46 read.result (length word + 2) (length word + 2) read.new.count.made read.new.count.reported read.new.slots
    (omega arith) (last_byte word ∙ ap (λ k. slice_index (frame word) (k + 1)) (sym ends)) (omega arith) (omega arith) r.longest read.auto.slots r.slots r.least r.most r.alone r.reported

pub returns-clause-slots : goal.returns-clause-slots
returns-clause-slots g c = (all g c).met

pub returns-clause-counts : goal.returns-clause-counts
returns-clause-counts g c = λ longest none. counts_passed c.args.automaton.now c.args.word.now c.invariant.ensures c.args.count.now c.read_byte-last.new.count longest (all g c) refl none

pub bounds-word-at : goal.bounds-word-at
bounds-word-at g c = grind (arith, common_steps)

pub read_byte-node-requires : goal.read_byte-node-requires
read_byte-node-requires g c = grind (arith, common_steps)

pub read_byte-node-requires-in-loop-at : goal.read_byte-node-requires-in-loop-at
read_byte-node-requires-in-loop-at g c = grind (arith, common_steps)

pub read_byte-last-requires : goal.read_byte-last-requires
read_byte-last-requires g c = grind (arith, common_steps)

pub loop-at-smaller : goal.loop-at-smaller
loop-at-smaller g c = grind (arith, common_steps)

pub overflow_add-at : goal.overflow_add-at
overflow_add-at g c = grind (arith, common_steps)

pub overflow_add-word : goal.overflow_add-word
overflow_add-word g c = grind (arith, common_steps)

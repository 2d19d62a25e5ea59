use Rattle.std.proofs.Common.{◌≡◌, ℕ, ◌+◌, ◌≤◌, ◌∷◌, [], max, List, length, take, slice_index, refl, sym, ap, subst, ◌∙◌, arith}
use Rattle.hyphenation_trie.specs.Trie.{entries_of_key}
use Rattle.hyphenation_score.specs.Scoring.{frame}
use Rattle.hyphenation_score.proofs.OnePass.{length-frame}
use Rattle.hyphenation_score.proofs.OnePassInvariant.{word_byte, last_byte}
use Rattle.hyphenation_score.proofs.TabledPass.{Passed, passed_first, passed_more, passed_room, passed_ranks, passed_reported, counts_exact}
use Rattle.hyphenation_score.proofs.tabled.find_ranks.Goals as goal

pub loop-at-init : goal.loop-at-init
loop-at-init g c =
    let rank = g.C.Payload.rank_of in
    let keys = entries_of_key c.args.automaton.now in
    let table = c.args.table.now in
    let framed : List ℕ = frame c.args.word.now in
    let begins = c.table_begins.ensures rank keys table c.requires.table in
    let number : ℕ = c.step-first.result.1 in
    let read = c.step-first.ensures.read [] begins.0 in
    let some : 1 ≤ length framed = omega (arith, length-frame c.args.word.now) in
    let counted = ap (λ x. x.reported) c.vector.ensures.counted ∙ ap (λ x. x.reported + slice_index table.counts.items number) c.step-first.ensures.counted in
    let passed = passed_first rank keys framed table begins.1 (46 ∷ []) c.step-first.result.0 number c.args.list.now c.args.count.now.reported c.vector.new.count.reported some refl read counted in
    record {
      len = refl;
      passed = subst (λ (v : List ℕ). Passed rank keys table framed 1 c.step-first.result.0 v c.args.list.now c.args.count.now.reported c.vector.new.count.reported) (sym c.vector.ensures.vector) passed;
      made = ap (λ x. x.made) c.vector.ensures.counted ∙ ap (λ x. x.made) c.step-first.ensures.counted;
    }

pub raised-last-requires-clause-vector : goal.raised-last-requires-clause-vector
raised-last-requires-clause-vector g c =
    let read = c.step-next.ensures.read (take (c.loop-at.at + 1) (frame c.args.word.now)) c.loop-at.invariant.passed.goes_on in
    ap length c.vector-in-loop-at.ensures.vector ∙ read.vector.lanes

pub vector-requires-in-loop-at-clause-room : goal.vector-requires-in-loop-at-clause-room
vector-requires-in-loop-at-clause-room g c =
    let same = ap (λ x. x.reported) c.step-next.ensures.counted in
    omega (arith, same, passed_room _ _ _ c.args.word.now _ _ _ _ _ _ c.loop-at.invariant.passed (omega arith) (omega arith) c.requires.reported)

pub vector-requires-2-clause-room : goal.vector-requires-2-clause-room
vector-requires-2-clause-room g c =
    let same = ap (λ x. x.reported) c.step-number.ensures.counted in
    omega (arith, same, passed_room _ _ _ c.args.word.now _ _ _ _ _ _ c.loop-at.invariant.passed (omega arith) (omega arith) c.requires.reported)

pub loop-at-preserved : goal.loop-at-preserved
loop-at-preserved g c =
    let rank = g.C.Payload.rank_of in
    let keys = entries_of_key c.args.automaton.now in
    let table = c.args.table.now in
    let word : List ℕ = c.args.word.now in
    let framed : List ℕ = frame word in
    let begins = c.table_begins.ensures rank keys table c.requires.table in
    let at : ℕ = c.loop-at.at in
    let number : ℕ = c.step-next.result.1 in
    let inv = c.loop-at.invariant in
    let read = c.step-next.ensures.read (take (at + 1) framed) inv.passed.goes_on in
    let counted = ap (λ x. x.reported) c.vector-in-loop-at.ensures.counted ∙ ap (λ x. x.reported + slice_index table.counts.items number) c.step-next.ensures.counted in
    let made = ap (λ x. x.made) c.vector-in-loop-at.ensures.counted ∙ ap (λ x. x.made) c.step-next.ensures.counted in
    let within : (at + 1) + 1 ≤ length framed = omega (arith, length-frame word) in
    record {
      len = c.store.ensures.room ∙ inv.len;
      passed = passed_more rank keys framed table begins.1 (at + 1) c.loop-at.start (slice_index word at) c.step-next.result.0 number c.loop-at.last c.raised-last.result c.loop-at.list c.store.new.list c.args.count.now.reported c.loop-at.count.reported c.vector-in-loop-at.new.count.reported
          within (word_byte word at (omega arith)) inv.passed read c.raised-last.ensures.lanes
          (λ lane lt. c.raised-last.ensures.each lane lt ∙ ap (λ (v : List ℕ). max (slice_index c.loop-at.last (lane + 1)) (slice_index v lane)) c.vector-in-loop-at.ensures.vector)
          c.store.ensures.written c.store.ensures.before counted;
      made = omega (arith, made, inv.made);
    }

pub raised-last-requires-2-clause-vector : goal.raised-last-requires-2-clause-vector
raised-last-requires-2-clause-vector g c =
    let read = c.step-number.ensures.read (take (c.loop-at.at + 1) (frame c.args.word.now)) c.loop-at.invariant.passed.goes_on in
    ap length c.vector-2.ensures.vector ∙ read.vector.lanes

-- The whole frame is read.
all : (g : _) (c : goal.After-slice_known-2-1 g) → Passed g.C.Payload.rank_of (entries_of_key c.args.automaton.now) c.args.table.now (frame c.args.word.now) ((length c.args.word.now + 1) + 1) c.step-number.result.0 c.raised-last-2.result c.store-2.new.list c.args.count.now.reported c.vector-2.new.count.reported
all g c =
    let rank = g.C.Payload.rank_of in
    let keys = entries_of_key c.args.automaton.now in
    let table = c.args.table.now in
    let word : List ℕ = c.args.word.now in
    let framed : List ℕ = frame word in
    let begins = c.table_begins.ensures rank keys table c.requires.table in
    let number : ℕ = c.step-number.result.1 in
    let inv = c.loop-at.invariant in
    let ends : c.loop-at.at ≡ length word = omega arith in
    let passed = subst (λ (k : ℕ). Passed rank keys table framed (k + 1) c.loop-at.start c.loop-at.last c.loop-at.list c.args.count.now.reported c.loop-at.count.reported) ends inv.passed in
    let read = c.step-number.ensures.read (take (length word + 1) framed) passed.goes_on in
    let counted = ap (λ x. x.reported) c.vector-2.ensures.counted ∙ ap (λ x. x.reported + slice_index table.counts.items number) c.step-number.ensures.counted in
    let within : (length word + 1) + 1 ≤ length framed = omega (arith, length-frame word) in
    passed_more rank keys framed table begins.1 (length word + 1) c.loop-at.start 46 c.step-number.result.0 number c.loop-at.last c.raised-last-2.result c.loop-at.list c.store-2.new.list c.args.count.now.reported c.loop-at.count.reported c.vector-2.new.count.reported
    within (last_byte word) passed read c.raised-last-2.ensures.lanes
    (λ lane lt. c.raised-last-2.ensures.each lane lt ∙ ap (λ (v : List ℕ). max (slice_index c.loop-at.last (lane + 1)) (slice_index v lane)) c.vector-2.ensures.vector)
    c.store-2.ensures.written c.store-2.ensures.before counted

pub returns-clause-ranks : goal.returns-clause-ranks
returns-clause-ranks g c = passed_ranks _ _ _ c.args.word.now _ _ _ _ _ (all g c) (c.store-2.ensures.room ∙ c.loop-at.invariant.len ∙ c.requires.room)

pub returns-clause-made : goal.returns-clause-made
returns-clause-made g c =
    let ends : c.loop-at.at ≡ length c.args.word.now = omega arith in
    omega (arith, ap (λ x. x.made) c.vector-2.ensures.counted ∙ ap (λ x. x.made) c.step-number.ensures.counted, c.loop-at.invariant.made)

pub returns-clause-counts : goal.returns-clause-counts
returns-clause-counts g c = λ longest none.
    counts_exact (length c.args.word.now) longest _ c.args.count.now c.vector-2.new.count (returns-clause-made g c) (passed_reported _ _ _ c.args.word.now _ _ _ _ _ (all g c))

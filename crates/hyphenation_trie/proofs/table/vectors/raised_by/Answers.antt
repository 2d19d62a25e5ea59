use Rattle.std.proofs.Common.{◌≡◌, ℕ, ◌-◌, List, length, get_or, ap, subst, ◌∙◌, arith}
use Rattle.std.proofs.lemmas.List.{take_all, length-set}
use Rattle.hyphenation_trie.specs.Vectors.{AreNearEntries}
use Rattle.hyphenation_trie.proofs.KnownNodes.{set_raises, keep_raises, raised_next, near_next, rank_of_byte}
use Rattle.hyphenation_trie.proofs.table.vectors.raised_by.Goals as goal
use Rattle.hyphenation_trie.proofs.table.vectors.raised_by.Goals.{then-raised-lane, else-raised-lane}

pub loop-entry-preserved : goal.loop-entry-preserved
loop-entry-preserved g c =
    let rank = g.C.Payload.rank_of in
    let es = c.args.entries.now in
    let k : ℕ = c.loop-entry.entry-index in
    let e = c.entry-item.result in
    let now : List ℕ = c.loop-entry.raised in
    let bytes : ℕ = c.args.bytes in
    let at : ℕ = 15 - (bytes - e.place) in
    let inv = c.loop-entry.invariant in
    let v : ℕ = c.in_ok-rank.rank in
    let v_is : v ≡ rank e.change e.value = rank_of_byte v (rank e.change e.value) c.in_ok-rank.ensures in
    record {
      raised = elim c.if-raised-lane.branch [
        | then-raised-lane w ↦ raised_next rank c.args.vector.now now c.if-raised-lane.raised es k e v bytes c.loop-entry-test.true c.entry-item.is v_is c.if-place-bytes.false c.if-bytes-place-gt15.false inv.raised
            (ap length w.raised-is ∙ length-set now at v ∙ inv.raised.lanes)
            (λ lane. ap (λ (lanes : List ℕ). get_or lanes lane 0) w.raised-is ∙ set_raises now at v lane (omega (arith, inv.raised.lanes)) w.if-raised-lane.true)
        | else-raised-lane w ↦ raised_next rank c.args.vector.now now c.if-raised-lane.raised es k e v bytes c.loop-entry-test.true c.entry-item.is v_is c.if-place-bytes.false c.if-bytes-place-gt15.false inv.raised
            (ap length w.raised-is ∙ inv.raised.lanes)
            (λ lane. ap (λ (lanes : List ℕ). get_or lanes lane 0) w.raised-is ∙ keep_raises now at v lane w.if-raised-lane.false)
      ];
      near = near_next es k e bytes c.loop-entry-test.true c.entry-item.is c.if-place-bytes.false c.if-bytes-place-gt15.false inv.near;
    }

pub returns-clause-near : goal.returns-clause-near
returns-clause-near g c = subst (λ es. AreNearEntries es c.args.bytes) (take_all c.loop-entry.entry-index c.args.entries.now c.loop-entry-test.false) c.loop-entry.invariant.near

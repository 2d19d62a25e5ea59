use Rattle.std.proofs.Common.{◌≡◌, ℕ, ◌+◌, ◌-◌, List, length, take, drop, slice_index, ap, ◌∙◌, arith}
use Rattle.std.proofs.lemmas.List.{length-take-le, length-drop}
use Rattle.std.proofs.lemmas.Simd.{put_chunk_whole}
use borrow.Rule.Slice.PartMut.{put_mid}
use Rattle.hyphenation_trie.proofs.RegisterLanes.{written_lane}
use Rattle.hyphenation_trie.proofs.register.store.Goals as goal

pub returns-clause-written : goal.returns-clause-written
returns-clause-written c = λ lane lt.
    let at : ℕ = c.args.at in
    let n : ℕ = at + 16 - at in
    let part : List ℕ = take n (drop at c.args.list.now) in
    let long : length part ≡ length c.args.register =
    length-take-le n (drop at c.args.list.now) (omega (arith, length-drop at c.args.list.now, c.requires.room)) ∙ omega (arith, c.requires.lanes) in
    ap (λ ys. slice_index (put_mid at n c.args.list.now ys) (at + lane)) (put_chunk_whole part c.args.register long)
    ∙ written_lane c.args.list.now c.args.register at n lane (omega (arith, c.requires.room)) (omega (arith, c.requires.lanes))

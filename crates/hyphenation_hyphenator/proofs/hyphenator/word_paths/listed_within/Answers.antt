use Rattle.std.proofs.Common.{◌≡◌, true, false, cond, ◌∷◌, [], ◌++◌, map, sym, ap, ◌∙◌}
use Rattle.std.proofs.lemmas.List.{take_all, map-append, append-nil}
use Rattle.hyphenation_hyphenator.specs.Opportunities.{within, breaks_within}
use Rattle.hyphenation_hyphenator.proofs.BreaksFound.{listed_more}
use Rattle.hyphenation_hyphenator.proofs.hyphenator.word_paths.listed_within.Goals.{then-is_within+in_ok-push_with_room, else-is_within}
use Rattle.hyphenation_hyphenator.proofs.hyphenator.word_paths.listed_within.Goals as goal

pub loop-b-init : goal.loop-b-init
loop-b-init g c = ap (map g.F.Break.meaning) c.requires

pub loop-b-preserved : goal.loop-b-preserved
loop-b-preserved g c =
    let m = g.F.Break.meaning in
    let said = g.F.Listing.Break.meaning in
    let b = said c.b-item.result in
    let before = map m c.loop-b.list.items in
    let more = listed_more said c.args.listed.now c.loop-b.b-index c.b-item.result c.args.bounds before c.loop-b-test.true c.b-item.is c.loop-b.invariant in
    let asked : within c.args.bounds b.place ≡ c.is_within.result = ap (within c.args.bounds) (sym c.place.ensures) ∙ sym c.is_within.ensures in
    elim c.if-is_within.branch [
      | then-is_within+in_ok-push_with_room w ↦
          let yes : within c.args.bounds b.place ≡ true = asked ∙ w.if-is_within.true in
          rw (w.list-is, w.in_ok-push_with_room.ensures) (map-append m c.loop-b.list.items (w.from_listed.result ∷ []) ∙ ap (λ x. before ++ x ∷ []) w.from_listed.ensures ∙ sym (more ∙ ap (λ t. before ++ cond t (b ∷ []) []) yes))
      | else-is_within w ↦
          let no : within c.args.bounds b.place ≡ false = asked ∙ w.if-is_within.false in
          rw w.list-is (sym (more ∙ ap (λ t. before ++ cond t (b ∷ []) []) no ∙ append-nil before))
    ]

pub returns : goal.returns
returns g c = c.loop-b.invariant ∙ ap (λ bs. breaks_within (map g.F.Listing.Break.meaning bs) c.args.bounds) (take_all c.loop-b.b-index c.args.listed.now c.loop-b-test.false)

use Rattle.std.proofs.Common.{◌≡◌, ◌+◌, ◌∷◌, map, drop, get_or, sym, ap, subst, ◌∙◌, arith, All}
use Rattle.std.proofs.lemmas.Bool.{le-ltb, cond-false}
use Rattle.std.proofs.lemmas.List.{drop_more}
use Rattle.std.proofs.lemmas.List.Elements.{All-head, All-tail}
use Rattle.linefill.specs.Private.WordBreaks.{places_after, FitsUsize}
use Rattle.linefill.proofs.word_breaks.WordBreaks.first_pending.Goals as goal

pub overflow_add-place : goal.overflow_add-place
overflow_add-place c =
    let b = c.loop-self.self in
    let item = get_or b.breaks.items b.passed c.index.result.now in
    let rest = drop (b.passed + 1) b.breaks.items in
    let here : drop b.passed b.breaks.items ≡ item ∷ rest = drop_more b.breaks.items b.passed c.index.result.now (omega (arith, c.len.ensures, c.loop-self-test.true)) in
    let fit_usize = All-head FitsUsize (b.offset + item) (map (λ p. b.offset + p) rest) (subst (λ xs. All FitsUsize (map (λ p. b.offset + p) xs)) here c.loop-self.invariant.fit_usize) in
    omega (arith, fit_usize, c.index.ensures)

pub loop-self-preserved : goal.loop-self-preserved
loop-self-preserved c =
    let b = c.loop-self.self in
    let from = c.args.from in
    let item = get_or b.breaks.items b.passed c.index.result.now in
    let rest = drop (b.passed + 1) b.breaks.items in
    let here : drop b.passed b.breaks.items ≡ item ∷ rest = drop_more b.breaks.items b.passed c.index.result.now (omega (arith, c.len.ensures, c.loop-self-test.true)) in
    let step : places_after from (map (λ p. b.offset + p) (drop b.passed b.breaks.items)) ≡ places_after from (map (λ p. b.offset + p) rest) =
    ap (λ xs. places_after from (map (λ p. b.offset + p) xs)) here ∙ cond-false _ _ _ (le-ltb from (b.offset + item) (omega (arith, c.if-from-place.false, c.index.ensures))) in
    record {
      pending = sym step ∙ c.loop-self.invariant.pending;
      pieces = c.loop-self.invariant.pieces;
      reached = c.loop-self.invariant.reached;
      fit_usize = All-tail FitsUsize (b.offset + item) (map (λ p. b.offset + p) rest) (subst (λ xs. All FitsUsize (map (λ p. b.offset + p) xs)) here c.loop-self.invariant.fit_usize);
    }

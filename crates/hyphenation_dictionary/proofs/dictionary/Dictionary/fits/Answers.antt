use Rattle.std.proofs.Common.{◌∙◌, ◌<◌, ◌&&◌, ℕ, sym, ap, subst}
use Rattle.hyphenation_breaks.specs.Break.{is_boundary}
use Rattle.hyphenation_breaks.specs.Invariant.{lists_within}
use Rattle.hyphenation_dictionary.proofs.InvariantLemmas.{before_least, out_of_word, off_by, never}
use Rattle.hyphenation_dictionary.proofs.dictionary.Dictionary.fits.Goals as goal

pub loop-b-init : goal.loop-b-init
loop-b-init g c = sym (c.listed_in_order.ensures g.B.Break.meaning c.args.word.now c.args.listed.now)

pub returns-then-place-least : goal.returns-then-place-least
returns-then-place-least g c =
    let below = subst (λ (n : ℕ). n < c.loop-b.least) (c.place.ensures ∙ ap (λ x. (g.B.Break.meaning x).place) c.b-item.is) c.if-place-least.true in
    never _ (sym c.loop-b.invariant ∙ before_least g.B.Break.meaning c.args.word.now c.loop-b.least c.args.listed.now c.loop-b.b-index c.b-item.result c.loop-b-test.true below)

pub returns-then-not-lies_in : goal.returns-then-not-lies_in
returns-then-not-lies_in g c =
    let off = off_by _ c.lies_in.result c.lies_in.ensures c.if-not-lies_in.true in
    let there = ap (λ x. is_boundary c.args.word.now (g.B.Break.meaning x).place && lists_within c.args.word.now (g.B.Break.meaning x).place (g.B.Break.meaning x).change) c.b-item.is in
    never _ (sym c.loop-b.invariant ∙ out_of_word g.B.Break.meaning c.args.word.now c.loop-b.least c.args.listed.now c.loop-b.b-index c.b-item.result c.loop-b-test.true (sym there ∙ off))

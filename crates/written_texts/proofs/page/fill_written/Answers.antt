use Rattle.std.proofs.Common.{◌≡◌, ◌+◌, [], ◌∷◌, ◌++◌, take, map, sym, ap, subst, ◌∙◌}
use Rattle.std.specs.Prelude.{IfErr}
use Rattle.std.proofs.lemmas.List.{map_more, take_all}
use Rattle.std.proofs.lemmas.Result.{err_from_is_err_and}
use Rattle.paragraphs.specs.declared.text.FillError.TheVariants.{TooLong}
use Rattle.paragraphs.specs.Styles.{style_of}
use Rattle.written_texts.specs.Blocks.{blocks}
use Rattle.written_texts.specs.Written.{HasTooLong}
use Rattle.written_texts.specs.Private.Added.{texts_of}
use Rattle.written_texts.specs.Private.Views.{block_of}
use Rattle.written_texts.proofs.PageRows.{AreAdded, none_added, one_added, has_among}
use Rattle.written_texts.proofs.page.fill_written.Goals as goal

pub loop-block-init : goal.loop-block-init
loop-block-init g c =
    let aim = c.args.aim in
    let breaks_of = g.H.Hyphenator.breaks_of c.args.dictionary.now in
    let style = style_of c.args.style.now in
    subst (λ page. AreAdded aim breaks_of style c.args.columns [] (texts_of page)) (sym c.new-page.ensures.items) (none_added aim breaks_of style c.args.columns)

pub loop-block-preserved : goal.loop-block-preserved
loop-block-preserved g c =
    let aim = c.args.aim in
    let breaks_of = g.H.Hyphenator.breaks_of c.args.dictionary.now in
    let style = style_of c.args.style.now in
    let columns = c.args.columns in
    let items = c.deref-block-items.result.now in
    let i = c.loop-block.block-index in
    let item = c.block-item.result in
    let page = texts_of c.loop-block.page.items in
    let new = texts_of c.push_block.new.page.items in
    let adds = c.in_ok-push_block.ensures.lines in
    let more : map block_of (take (i + 1) items) ≡ map block_of (take i items) ++ block_of item ∷ [] =
    map_more block_of items i item c.loop-block-test.true ∙ ap (λ b. map block_of (take i items) ++ block_of b ∷ []) (sym c.block-item.is) in
    subst (λ bs. AreAdded aim breaks_of style columns bs new) (sym more)
    (one_added aim breaks_of style columns (map block_of (take i items)) page new (block_of item) adds.row c.loop-block.invariant adds.set adds.added)

pub returns-clause-written : goal.returns-clause-written
returns-clause-written g c =
    let aim = c.args.aim in
    let breaks_of = g.H.Hyphenator.breaks_of c.args.dictionary.now in
    let style = style_of c.args.style.now in
    let columns = c.args.columns in
    let items = c.deref-block-items.result.now in
    let page = texts_of c.loop-block.page.items in
    let is : map block_of (take c.loop-block.block-index items) ≡ blocks c.args.text.now =
    ap (map block_of) (take_all c.loop-block.block-index items c.loop-block-test.false ∙ c.deref-block-items.ensures.value) ∙ c.in_ok-blocks.ensures in
    let added = subst (λ bs. AreAdded aim breaks_of style columns bs page) is c.loop-block.invariant in
    record { rows = added.rows; each = added.each; whole = added.whole }

pub returns-in_err-push_block-clause-too_long : goal.returns-in_err-push_block-clause-too_long
returns-in_err-push_block-clause-too_long g c =
    let breaks_of = g.H.Hyphenator.breaks_of c.args.dictionary.now in
    let style = style_of c.args.style.now in
    let items = c.deref-block-items.result.now in
    let is : map block_of items ≡ blocks c.args.text.now = ap (map block_of) c.deref-block-items.ensures.value ∙ c.in_ok-blocks.ensures in
    let p = err_from_is_err_and c.from_residual-in_err-push_block.result c.from_residual-in_err-push_block.ensures.1 in
    subst (λ r. IfErr r (λ e. e ≡ TooLong → HasTooLong breaks_of style (blocks c.args.text.now))) (sym p.1)
    (λ long.
    subst (HasTooLong breaks_of style) is
    (has_among block_of breaks_of style items c.loop-block.block-index c.block-item.result c.loop-block-test.true c.block-item.is (c.in_err-push_block.ensures.too_long (sym p.2 ∙ long))))

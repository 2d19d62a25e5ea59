use Rattle.std.proofs.Common.{◌≡◌, ◌+◌, [], ◌∷◌, ◌++◌, take, map, sym, ap, subst, inr, ◌∙◌}
use Rattle.std.specs.String.{string_bytes}
use Rattle.std.proofs.lemmas.List.{map_more, take_all}
use Rattle.paragraphs.specs.Pages.{IsFilled}
use Rattle.paragraphs.specs.Private.Added.{texts_of}
use Rattle.paragraphs.specs.Styles.{style_of}
use Rattle.paragraphs.proofs.PageRows.{AreAdded, one_added, page_made, has_among}
use Rattle.std.specs.Prelude.{IfErr}
use Rattle.std.proofs.lemmas.Result.{err_from_is_err_and}
use Rattle.paragraphs.specs.declared.text.FillError.TheVariants.{TooLong}
use Rattle.paragraphs.specs.Pages.{HasTooLong}
use Rattle.paragraphs.specs.Settings.{IsTooLong}
use Rattle.paragraphs.specs.Parts.{parts_of}
use Rattle.paragraphs.specs.Words.{words}
use Rattle.paragraphs.specs.Paragraphs.{paragraphs}
use Rattle.paragraphs.proofs.page.fill_text.Goals as goal

pub loop-paragraph-preserved : goal.loop-paragraph-preserved
loop-paragraph-preserved g c =
    let aim = c.args.aim in
    let breaks_of = g.H.Hyphenator.breaks_of c.args.dictionary.now in
    let style = style_of c.args.style.now in
    let columns = c.args.columns in
    let others = c.in-Some.others.now in
    let i = c.loop-paragraph.paragraph-index in
    let item = c.paragraph-item.result in
    let old = texts_of c.push_lines.new.page.items in
    let page = texts_of c.loop-paragraph.page.items in
    let new = texts_of c.push_lines-in-loop-paragraph.new.page.items in
    let adds = c.in_ok-push_lines-2.ensures.lines in
    let filled = subst (λ t. IsFilled aim breaks_of style columns t adds.lines) c.deref-in-loop-paragraph.ensures adds.filled in
    let is : new ≡ (page ++ [] ∷ []) ++ adds.lines = adds.added ∙ ap (λ p. p ++ adds.lines) c.in_ok-push_empty_line.ensures in
    let more : map string_bytes (take (i + 1) others) ≡ map string_bytes (take i others) ++ string_bytes item ∷ [] =
    map_more string_bytes others i item c.loop-paragraph-test.true ∙ ap (λ p. map string_bytes (take i others) ++ string_bytes p ∷ []) (sym c.paragraph-item.is) in
    subst (λ texts. AreAdded aim breaks_of style columns texts old new) (sym more)
    (one_added aim breaks_of style columns (map string_bytes (take i others)) old page new (string_bytes item) adds.lines c.loop-paragraph.invariant filled is)

pub returns-clause-page : goal.returns-clause-page
returns-clause-page g c =
    let aim = c.args.aim in
    let breaks_of = g.H.Hyphenator.breaks_of c.args.dictionary.now in
    let style = style_of c.args.style.now in
    let columns = c.args.columns in
    let text = c.args.text.now in
    let first = c.in-Some.first.now in
    let others = c.in-Some.others.now in
    let page = texts_of c.loop-paragraph.page.items in
    let adds = c.in_ok-push_lines.ensures.lines in
    let is : paragraphs text ≡ string_bytes first ∷ map string_bytes others =
    sym c.in_ok-paragraphs.ensures.paragraphs ∙ ap (map string_bytes) (sym c.deref.ensures.value ∙ c.in-Some.ensures.cases.0) in
    let filled = subst (λ t. IsFilled aim breaks_of style columns t adds.lines) c.deref-2.ensures adds.filled in
    let begun : texts_of c.push_lines.new.page.items ≡ adds.lines = adds.added ∙ ap (λ xs. texts_of xs ++ adds.lines) c.new-page.ensures.items in
    let whole = take_all c.loop-paragraph.paragraph-index others c.loop-paragraph-test.false in
    let added =
    subst (λ old. AreAdded aim breaks_of style columns (map string_bytes others) old page) begun
    (subst (λ ps. AreAdded aim breaks_of style columns (map string_bytes ps) (texts_of c.push_lines.new.page.items) page) whole c.loop-paragraph.invariant) in
    page_made aim breaks_of style columns text (string_bytes first) (map string_bytes others) adds.lines page is filled added

pub returns-in_err-push_lines-2-clause-too_long : goal.returns-in_err-push_lines-2-clause-too_long
returns-in_err-push_lines-2-clause-too_long g c =
    let breaks_of = g.H.Hyphenator.breaks_of c.args.dictionary.now in
    let style = style_of c.args.style.now in
    let first = c.in-Some.first.now in
    let others = c.in-Some.others.now in
    let is : paragraphs c.args.text.now ≡ string_bytes first ∷ map string_bytes others =
    sym c.in_ok-paragraphs.ensures.paragraphs ∙ ap (map string_bytes) (sym c.deref.ensures.value ∙ c.in-Some.ensures.cases.0) in
    let p = err_from_is_err_and c.from_residual-in_err-push_lines-2.result c.from_residual-in_err-push_lines-2.ensures.1 in
    subst (λ r. IfErr r (λ e. e ≡ TooLong → HasTooLong breaks_of style (paragraphs c.args.text.now))) (sym p.1)
    (λ long.
    let here = subst (λ t. IsTooLong (parts_of breaks_of style (words t))) c.deref-in-loop-paragraph.ensures (c.in_err-push_lines-2.ensures.too_long (sym p.2 ∙ long)) in
    subst (HasTooLong breaks_of style) (sym is) (inr (has_among breaks_of style others c.loop-paragraph.paragraph-index c.paragraph-item.result c.loop-paragraph-test.true c.paragraph-item.is here)))

use Rattle.std.proofs.Common.{◌≡◌, ◌++◌, false, length, sym, ap, subst, ◌∙◌, arith, rules}
use Rattle.std.specs.List.{list_all}
use Rattle.std.proofs.lemmas.List.{length-map}
use Rattle.std.proofs.lemmas.List.Folds.{list_all-map}
use Rattle.paragraphs.specs.Private.FullLines.{EndsNarrow}
use Rattle.paragraphs.specs.Private.PartSettings.{setting_of, settings_of}
use Rattle.paragraphs.specs.Private.PartStyles.{indent_of}
use Rattle.paragraphs.specs.Settings.{is_short}
use Rattle.paragraphs.specs.Styles.{style_of}
use Rattle.paragraphs.specs.Parts.{word_breaks, word_parts}
use Rattle.paragraphs.proofs.WholeWords.{narrow_parts}
use Rattle.paragraphs.proofs.text.add_parted.Goals as goal

pub add_parts-requires-clause-some : goal.add_parts-requires-clause-some
add_parts-requires-clause-some g c =
    let breaks_of = g.H.Hyphenator.breaks_of c.args.dictionary.now in
    let style = style_of c.args.style.now in
    let indent = indent_of c.args.style.now c.args.indent in
    let word = c.args.word.now.text.now in
    let made = c.in_ok-push_found.ensures ∙ ap (λ ps. settings_of ps ++ word_parts breaks_of style indent word) c.in_ok-parts.ensures.items in
    omega (arith, ap length made, length-map c.push_found.new.parts.items setting_of, (narrow_parts style word indent 0 (word_breaks breaks_of word)).0)

pub add_parts-requires-clause-narrow : goal.add_parts-requires-clause-narrow
add_parts-requires-clause-narrow g c =
    let breaks_of = g.H.Hyphenator.breaks_of c.args.dictionary.now in
    let style = style_of c.args.style.now in
    let indent = indent_of c.args.style.now c.args.indent in
    let word = c.args.word.now.text.now in
    let made = c.in_ok-push_found.ensures ∙ ap (λ ps. settings_of ps ++ word_parts breaks_of style indent word) c.in_ok-parts.ensures.items in
    subst EndsNarrow (sym made) (narrow_parts style word indent 0 (word_breaks breaks_of word)).1

pub returns-then-not-measured-clause-too_long : goal.returns-then-not-measured-clause-too_long
returns-then-not-measured-clause-too_long g c = λ _.
    let word = word_parts (g.H.Hyphenator.breaks_of c.args.dictionary.now) (style_of c.args.style.now) (indent_of c.args.style.now c.args.indent) c.args.word.now.text.now in
    let made = c.in_ok-push_found.ensures ∙ ap (λ ps. settings_of ps ++ word) c.in_ok-parts.ensures.items in
    let is : c.in_ok-measured.measured ≡ false = search rules in
    ap (list_all is_short) (sym made) ∙ list_all-map is_short setting_of c.push_found.new.parts.items ∙ c.in_ok-measured.ensures.too_long is

use Rattle.std.proofs.Common.{◌≡◌, ap, sym, ◌∙◌, length, arith}
use Rattle.paragraphs.specs.Settings.{columns_of, shown}
use Rattle.paragraphs.proofs.Printable.{printable_columns_shown}
use Rattle.paragraphs.proofs.ShownTexts.{shown_same, shown_shorter}
use Rattle.paragraphs.proofs.setting.columns_shown.Goals as goal

pub columns_of-requires : goal.columns_of-requires
columns_of-requires c =
    let same : c.deref.result.now ≡ shown c.args.text.now = c.deref.ensures ∙ c.in_ok-rest.ensures in
    omega (arith, ap length same, shown_shorter c.args.text.now c.utf8.text, c.requires)

pub returns : goal.returns
returns c = c.columns_of-2.ensures ∙ ap columns_of (sym (shown_same c.args.text.now c.utf8.text (sym c.if-has_soft_hyphen.ensures)))

pub returns-then-is_printable : goal.returns-then-is_printable
returns-then-is_printable c = sym (printable_columns_shown c.args.text.now (sym c.if-is_printable.ensures))

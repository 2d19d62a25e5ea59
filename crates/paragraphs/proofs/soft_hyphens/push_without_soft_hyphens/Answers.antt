use Rattle.std.proofs.Common.{◌++◌, ap, sym, ◌∙◌}
use Rattle.std.specs.String.{string_bytes}
use Rattle.paragraphs.proofs.Printable.{printable_shown}
use Rattle.paragraphs.proofs.ShownTexts.{shown_same}
use Rattle.paragraphs.proofs.soft_hyphens.push_without_soft_hyphens.Goals as goal

pub returns-then-is_printable : goal.returns-then-is_printable
returns-then-is_printable c =
    c.in_ok-push_str.ensures.bytes
    ∙ ap (λ s. string_bytes c.args.line.now ++ s) (sym (printable_shown c.args.text.now (sym c.if-is_printable.ensures)))

pub returns : goal.returns
returns c =
    c.in_ok-push_str-3.ensures.bytes
    ∙ ap (λ s. string_bytes c.args.line.now ++ s) (sym (shown_same c.args.text.now c.utf8.text (sym c.if-has_soft_hyphen.ensures)))

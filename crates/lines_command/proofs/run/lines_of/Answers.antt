use Rattle.std.proofs.Common.{◌≡◌, IfErr, sym, subst}
use Rattle.any_dictionary.specs.Dictionaries.{breaks_by}
use Rattle.lines_command.specs.Arguments.{style_for}
use Rattle.lines_command.specs.Private.Requests.{parsed_options}
use Rattle.lines_command.specs.Written.{HasLongParagraph}
use Rattle.paragraphs.specs.declared.text.FillError.TheVariants.{TooLong}
use Rattle.lines_command.proofs.run.lines_of.Goals as goal

pub returns-in-Standard-clause-too_long : goal.returns-in-Standard-clause-too_long
returns-in-Standard-clause-too_long c =
    subst (λ d. IfErr c.filled.result (λ e. e ≡ TooLong → HasLongParagraph c.args.options.now.plain (breaks_by d) (style_for (parsed_options c.args.options.now)) c.args.text.now))
    (sym c.in-Standard.is) c.filled.ensures.too_long

pub returns-in-Extended-clause-too_long : goal.returns-in-Extended-clause-too_long
returns-in-Extended-clause-too_long c =
    subst (λ d. IfErr c.filled-in-Extended.result (λ e. e ≡ TooLong → HasLongParagraph c.args.options.now.plain (breaks_by d) (style_for (parsed_options c.args.options.now)) c.args.text.now))
    (sym c.in-Extended.is) c.filled-in-Extended.ensures.too_long

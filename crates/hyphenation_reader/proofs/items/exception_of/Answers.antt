use Rattle.std.proofs.Common.{◌∙◌, ap, sym, List, ℕ, Some, Global, String}
use Rattle.std.specs.Option.{option_map}
use Rattle.std.specs.String.{string_bytes}
use Rattle.hyphenation_reader.specs.Private.Parsed.{ReadLater, later_view}
use Rattle.hyphenation_reader.specs.Private.LineAnswers.{exception_cause}
use Rattle.hyphenation_reader.specs.declared.items.Later.{Later}
use Rattle.hyphenation_reader.proofs.LineCauses.{none_found, not_found, exception_unread, exception_caused, exception_says}
use Rattle.hyphenation_reader.proofs.items.exception_of.Goals as goal

abbrev views : Later → String Global → List ℕ × ReadLater
views later word = (string_bytes word, later_view later)

pub returns-in_default : goal.returns-in_default
returns-in_default g c = λ line start. exception_unread c.args.form line c.args.text.now start (none_found (views c.exception_parts.new.later) c.in_ok-word.field-0 _ c.in_default.not-Some c.in_ok-word.ensures)

pub returns-in-Some-exception_cause : goal.returns-in-Some-exception_cause
returns-in-Some-exception_cause g c = λ line start.
    let later = later_view c.exception_parts.new.later in
    exception_caused c.args.form line c.args.text.now start (string_bytes c.in-Some.word) later (sym c.in_ok-word.ensures ∙ ap (option_map (views c.exception_parts.new.later)) c.in-Some.is)
    ∙ ap (λ (w : List ℕ). exception_cause c.args.form w later) (sym c.as_bytes.ensures.value) ∙ sym c.in-Some-exception_cause.ensures

pub returns : goal.returns
returns g c = λ line start.
    let later = later_view c.exception_parts.new.later in
    let read = sym c.in_ok-word.ensures ∙ ap (option_map (views c.exception_parts.new.later)) c.in-Some.is in
    let none = ap (λ (w : List ℕ). exception_cause c.args.form w later) (sym c.as_bytes.ensures.value) ∙ sym c.exception_cause.ensures ∙ not_found c.exception_cause.result c.in_default-exception_cause.not-Some in
    let says = exception_says c.args.form line c.args.text.now start g.B.Listing.listing_of (string_bytes c.in-Some.word) later read none in (
      exception_caused c.args.form line c.args.text.now start (string_bytes c.in-Some.word) later read ∙ none,
      (says.0, says.1 ∙ (λ i. Some (string_bytes c.in-Some.word, sym c.in_ok-listed.ensures i))),
    )

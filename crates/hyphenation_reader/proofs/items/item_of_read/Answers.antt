use Rattle.std.proofs.Common.{◌∙◌, sym, Some}
use Rattle.hyphenation_grammar.specs.Parsed.{pattern_view}
use Rattle.hyphenation_reader.specs.Private.Parsed.{no_later}
use Rattle.hyphenation_reader.specs.Private.LineAnswers.{entries_of}
use Rattle.hyphenation_reader.proofs.LineCauses.{not_found, pattern_caused, pattern_says}
use Rattle.hyphenation_reader.proofs.MatchedEntries.{read_alone}
use Rattle.hyphenation_reader.proofs.items.item_of_read.Goals as goal

pub returns-in-Some : goal.returns-in-Some
returns-in-Some g c =
    let pattern = pattern_view c.args.buffers.now.pattern in
    pattern_caused c.args.form c.args.line.now c.requires.0 c.requires.1 pattern no_later (read_alone c.args.form.version pattern c.requires.0 c.requires.2)
    ∙ sym c.token_cause.ensures ∙ c.in-Some.is

pub returns : goal.returns
returns g c =
    let pattern = pattern_view c.args.buffers.now.pattern in
    let read = read_alone c.args.form.version pattern c.requires.0 c.requires.2 in
    let passes = sym c.token_cause.ensures ∙ not_found c.token_cause.result c.in_default.not-Some in
    let says = pattern_says c.args.form c.args.line.now c.requires.0 c.requires.1 g.C.Payload.payload_of pattern no_later read passes in
    let made = c.in_ok-plain_entries.ensures ∙ (λ i. entries_of g.C.Payload.payload_of (c.deref.ensures.value i) no_later.listed) in (
      pattern_caused c.args.form c.args.line.now c.requires.0 c.requires.1 pattern no_later read ∙ passes,
      (says.0 ∙ (λ i. Some (pattern.key, sym made i)), says.1),
    )

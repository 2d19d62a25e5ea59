use Rattle.std.proofs.Common.{◌∙◌, ap, sym, Some, true, false}
use Rattle.hyphenation_grammar.specs.Parsed.{pattern_view, some_if}
use Rattle.hyphenation_reader.specs.Private.Matched.{ascend}
use Rattle.hyphenation_reader.specs.Private.Parsed.{later_view}
use Rattle.hyphenation_reader.specs.Private.LineAnswers.{entries_of}
use Rattle.hyphenation_reader.proofs.LineCauses.{not_found, pattern_unread, pattern_caused, pattern_says, spaced}
use Rattle.hyphenation_reader.proofs.MatchedEntries.{before_match, at_match, both_ascend, told_of}
use Rattle.hyphenation_reader.proofs.items.pattern_item.Goals as goal

pub returns-then-not-branch : goal.returns-then-not-branch
returns-then-not-branch g c = λ line start.
    pattern_unread c.args.form line c.args.text.now start
    (sym c.in_ok-pattern_parts.ensures ∙ ap (λ b. some_if b (pattern_view c.pattern_parts.new.pattern, later_view c.pattern_parts.new.later)) c.if-not-branch.true)

pub returns-in-Some : goal.returns-in-Some
returns-in-Some g c = λ line start.
    let pattern = pattern_view c.pattern_parts.new.pattern in
    let later = later_view c.pattern_parts.new.later in
    let read = sym c.in_ok-pattern_parts.ensures ∙ ap (λ b. some_if b (pattern, later)) c.if-not-branch.false in
    pattern_caused c.args.form line c.args.text.now start pattern later read
    ∙ before_match c.args.form pattern later c.in-Some.cause (sym c.pattern_cause.ensures ∙ c.in-Some.is)

pub entries_with_changes-requires : goal.entries_with_changes-requires
entries_with_changes-requires g c =
    let pattern = pattern_view c.pattern_parts.new.pattern in
    let later = later_view c.pattern_parts.new.later in
    let none = sym c.pattern_cause.ensures ∙ not_found c.pattern_cause.result c.in_default.not-Some in
    let read = sym c.in_ok-pattern_parts.ensures ∙ ap (λ b. some_if b (pattern, later)) c.if-not-branch.false in
    let ascends = both_ascend c.args.form (spaced c.args.text.now) pattern later read none in
    record { values = ap (ascend 0) c.deref.ensures.value ∙ ascends.0; listed = ascends.1 }

pub returns-then-not-branch-2 : goal.returns-then-not-branch-2
returns-then-not-branch-2 g c = λ line start.
    let pattern = c.pattern_parts.new.pattern in
    let later = c.pattern_parts.new.later in
    let none = sym c.pattern_cause.ensures ∙ not_found c.pattern_cause.result c.in_default.not-Some in
    let read = sym c.in_ok-pattern_parts.ensures ∙ ap (λ b. some_if b (pattern_view pattern, later_view later)) c.if-not-branch.false in
    let missing = told_of c.deref.result.now pattern.values.items later.listed.items c.in_ok-entries_with_changes.field-0 false c.deref.ensures.value c.in_ok-entries_with_changes.ensures.each_has_value c.if-not-branch-2.true in
    pattern_caused c.args.form line c.args.text.now start (pattern_view pattern) (later_view later) read
    ∙ at_match c.args.form (pattern_view pattern) (later_view later) false none missing

pub returns : goal.returns
returns g c = λ line start.
    let pattern = c.pattern_parts.new.pattern in
    let later = c.pattern_parts.new.later in
    let none = sym c.pattern_cause.ensures ∙ not_found c.pattern_cause.result c.in_default.not-Some in
    let read = sym c.in_ok-pattern_parts.ensures ∙ ap (λ b. some_if b (pattern_view pattern, later_view later)) c.if-not-branch.false in
    let all = told_of c.deref.result.now pattern.values.items later.listed.items c.in_ok-entries_with_changes.field-0 true c.deref.ensures.value c.in_ok-entries_with_changes.ensures.each_has_value c.if-not-branch-2.false in
    let passes = at_match c.args.form (pattern_view pattern) (later_view later) true none all in
    let says = pattern_says c.args.form line c.args.text.now start g.C.Payload.payload_of (pattern_view pattern) (later_view later) read passes in
    let made = c.in_ok-entries_with_changes.ensures.entries c.if-not-branch-2.false ∙ (λ i. entries_of g.C.Payload.payload_of (c.deref.ensures.value i) later.listed.items) in (
      pattern_caused c.args.form line c.args.text.now start (pattern_view pattern) (later_view later) read ∙ passes,
      (says.0 ∙ (λ i. Some (pattern.key.items, sym made i)), says.1),
    )

use Rattle.std.proofs.Common.{◌∙◌, sym, ap, take, arith}
use Rattle.std.proofs.lemmas.Str.{IsUtf8-from_is_utf8}
use Rattle.hyphenation_grammar.specs.Lines.{lines_of}
use Rattle.hyphenation_grammar.specs.Reading.{items_of_lines}
use Rattle.hyphenation_reader.proofs.JudgingHead.{spells_nothing-spelt}
use Rattle.hyphenation_reader.proofs.ReadingLines.{own-fault, repeated-fault, goes-on, spells-more, no_cause, refused, rest_is, reaches, ended, ended-fault}
use Rattle.hyphenation_reader.proofs.reader.add_lines.Goals as goal

pub returns-in_err-item-clause-refused : goal.returns-in_err-item-clause-refused
returns-in_err-item-clause-refused g c =
    let at = c.loop-line.invariant.rest ∙ c.in-Some.ensures.first in
    refused c.from_residual.result c.in_err-item.field-0.0 _ _ c.from_residual.ensures
    (own-fault g.C.Payload.payload_of g.B.Listing.listing_of c.args.form (lines_of c.args.bytes.now) c.loop-line.count c.in-Some.line.now _ at c.in_err-item.field-0.0 _ c.in_err-item.ensures.refused c.loop-line.invariant.fault)

pub returns-in-Some-2-clause-refused : goal.returns-in-Some-2-clause-refused
returns-in-Some-2-clause-refused g c =
    let at = c.loop-line.invariant.rest ∙ c.in-Some.ensures.first in
    repeated-fault g.C.Payload.payload_of g.B.Listing.listing_of c.args.form (lines_of c.args.bytes.now) c.loop-line.count c.in-Some.line.now _ at _ c.loop-line.invariant.spelt c.item_at.new.buffers.pattern.key.items c.item_at.new.buffers.entries.items c.in_ok-item.item c.in_ok-item.ensures.says c.in_ok-item.ensures.passes c.in-Some-2.cause _
    (sym c.in-Some-2.is ∙ c.in_ok-cause.ensures.cause) c.loop-line.invariant.fault

pub loop-line-preserved : goal.loop-line-preserved
loop-line-preserved g c =
    let all = lines_of c.args.bytes.now in
    let at = c.loop-line.invariant.rest ∙ c.in-Some.ensures.first in
    let none = no_cause c.in_ok-cause.field-0 c.in_default-2.not-Some ∙ c.in_ok-cause.ensures.cause in
    record {
      room = omega (arith, c.loop-line.invariant.room, c.in-Some.ensures.shorter);
      past = omega (arith, c.loop-line.invariant.past);
      within = reaches g.C.Payload.payload_of g.B.Listing.listing_of c.args.form all c.loop-line.count c.in-Some.line.now _ at;
      rest = rest_is g.C.Payload.payload_of g.B.Listing.listing_of c.args.form all c.loop-line.count c.in-Some.line.now _ at;
      fault = goes-on g.C.Payload.payload_of g.B.Listing.listing_of c.args.form all c.loop-line.count c.in-Some.line.now _ at _ c.loop-line.invariant.spelt c.item_at.new.buffers.pattern.key.items c.item_at.new.buffers.entries.items c.in_ok-item.item c.in_ok-item.ensures.says c.in_ok-item.ensures.passes _ none c.loop-line.invariant.fault;
      spelt = spells-more g.C.Payload.payload_of g.B.Listing.listing_of c.args.form all c.loop-line.count c.in-Some.line.now _ at _ c.loop-line.invariant.spelt c.item_at.new.buffers.pattern.key.items c.item_at.new.buffers.entries.items c.in_ok-item.item c.in_ok-item.ensures.says c.in_ok-item.ensures.passes _ none c.in_ok-cause.ensures.added;
      utf8 = λ known. (c.in-Some.ensures.utf8 (c.loop-line.invariant.utf8 known)).1;
      begins = c.in_ok-cause.ensures.begins c.loop-line.invariant.begins;
    }

pub loop-line-init : goal.loop-line-init
loop-line-init g c = record {
  room = c.requires.rest.shorter;
  past = omega arith;
  within = c.requires.three_lines;
  rest = c.requires.rest.lines;
  fault = sym c.requires.head;
  spelt = c.requires.empty ∙ sym (spells_nothing-spelt c.args.form.version g.C.Payload.payload_of g.B.Listing.listing_of (take 3 (lines_of c.args.bytes.now)) c.requires.spells_nothing);
  utf8 = λ known. c.requires.rest.utf8 (IsUtf8-from_is_utf8 c.args.bytes.now (sym c.is_utf8-known.ensures ∙ known));
  begins = c.requires.begins;
}

pub returns-clause-accepted : goal.returns-clause-accepted
returns-clause-accepted g c =
    let none = c.loop-line.invariant.rest ∙ c.in_default.ensures.none in
    sym c.loop-line.invariant.fault ∙ ended-fault c.args.form (lines_of c.args.bytes.now) c.loop-line.count c.loop-line.invariant.past c.loop-line.invariant.within none

pub returns-clause-spelt : goal.returns-clause-spelt
returns-clause-spelt g c =
    let none = c.loop-line.invariant.rest ∙ c.in_default.ensures.none in
    c.loop-line.invariant.spelt ∙ ap (items_of_lines c.args.form.version g.C.Payload.payload_of g.B.Listing.listing_of) (ended (lines_of c.args.bytes.now) c.loop-line.count c.loop-line.invariant.within none)

pub item_at-requires : goal.item_at-requires
item_at-requires g c = record { utf8 = λ known. (c.in-Some.ensures.utf8 (c.loop-line.invariant.utf8 known)).0; read = c.in-Some.ensures.read; past_head = omega (arith, c.loop-line.invariant.past) }

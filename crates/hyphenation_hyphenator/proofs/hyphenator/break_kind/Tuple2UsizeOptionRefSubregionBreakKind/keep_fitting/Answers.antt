use Rattle.std.proofs.Common.{map, sym, ap, ◌∙◌}
use Rattle.std.specs.Prelude.{is_none}
use Rattle.std.specs.List.{list_all}
use Rattle.hyphenation_hyphenator.specs.Private.Opportunities.{borrowed_break}
use Rattle.hyphenation_hyphenator.proofs.PlainBreaks.{plain_kept, plain_borrowed}
use Rattle.hyphenation_hyphenator.proofs.hyphenator.break_kind.Tuple2UsizeOptionRefSubregionBreakKind.keep_fitting.Goals as goal

pub returns-then-are_plain : goal.returns-then-are_plain
returns-then-are_plain c =
    let breaks = c.args.list.now.items in
    let none = ap (list_all (λ b. is_none b.1)) (sym c.deref.ensures.value) ∙ sym c.are_plain.ensures ∙ c.if-are_plain.true in
    sym (plain_kept c.args.folded.now c.args.shifts.now (map borrowed_break breaks) c.requires.ascend (plain_borrowed breaks none))

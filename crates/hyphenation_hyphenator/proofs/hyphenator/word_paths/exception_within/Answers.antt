use Rattle.std.proofs.Common.{sym, ap, ◌∙◌, map, option_copied}
use Rattle.hyphenation_hyphenator.proofs.BreaksFound.{exception_is, listed_ascend}
use Rattle.hyphenation_hyphenator.proofs.hyphenator.word_paths.exception_within.Goals as goal

pub returns-in_ok-listed_within-in-Some-clause-breaks : goal.returns-in_ok-listed_within-in-Some-clause-breaks
returns-in_ok-listed_within-in-Some-clause-breaks g c =
    exception_is g.F.Payload.Payload.change_of g.F.Listing.Break.meaning c.args.dictionary.now c.args.word.now c.in-Some.listed.now (map g.F.Break.meaning c.listed_within.new.list.items) c.args.bounds
    (sym c.listed.ensures ∙ ap option_copied c.in-Some.is) c.in_ok-listed_within-in-Some.ensures

pub returns-in_ok-listed_within-in-Some-clause-ascend : goal.returns-in_ok-listed_within-in-Some-clause-ascend
returns-in_ok-listed_within-in-Some-clause-ascend g c =
    listed_ascend g.F.Payload.Payload.change_of g.F.Listing.Break.meaning c.args.dictionary.now c.args.word.now c.in-Some.listed.now c.args.bounds (map g.F.Break.meaning c.listed_within.new.list.items)
    c.invariant.ensures
    (sym c.listed.ensures ∙ ap option_copied c.in-Some.is) c.in_ok-listed_within-in-Some.ensures

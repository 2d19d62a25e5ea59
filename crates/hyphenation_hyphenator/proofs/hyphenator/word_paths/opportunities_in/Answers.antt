use Rattle.std.proofs.Common.{map, sym, ap, ◌∙◌, option_copied}
use Rattle.hyphenation_hyphenator.proofs.BreaksFound.{listed_ascend}
use Rattle.hyphenation_hyphenator.proofs.Standard.{on_ok_then}
use Rattle.hyphenation_hyphenator.proofs.hyphenator.word_paths.opportunities_in.Goals as goal

pub returns-in-Some-clause-ascend : goal.returns-in-Some-clause-ascend
returns-in-Some-clause-ascend g c =
    on_ok_then c.listed_within.result _ _
    (λ is. listed_ascend g.F.Payload.Payload.change_of g.F.Listing.Break.meaning c.args.dictionary.now c.args.word.now c.in-Some.listed.now c.args.bounds (map g.F.Break.meaning c.listed_within.new.list.items) c.invariant.ensures
    (sym c.listed.ensures ∙ ap option_copied c.in-Some.is) is)
    c.listed_within.ensures

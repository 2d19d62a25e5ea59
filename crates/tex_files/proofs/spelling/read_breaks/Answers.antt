use Rattle.std.proofs.lemmas.Grind.{common_steps}
use Rattle.std.proofs.Common.{arith, ◌∙◌, sym, ap}
use Rattle.std.specs.Str.{is_utf8}
use Rattle.hyphenation_breaks.specs.Break.{plain_break}
use Rattle.tex_files.proofs.Letters.{either, bad_breaks, good_breaks}
use Rattle.tex_files.proofs.spelling.read_breaks.Goals as goal

pub returns-then-not-fits-clause-first_failed_test : goal.returns-then-not-fits-clause-first_failed_test
returns-then-not-fits-clause-first_failed_test g c =
    bad_breaks g.B.Break.meaning g.B.Listing.listing_of c.args.text.now c.deref.result.now c.deref-in-Some.result.now c.fits.result (λ place. either (g.met.B.Listing.listed_or_plain (plain_break place)))
    (c.deref.ensures ∙ c.in-Some.ensures.same_bytes ∙ c.in_ok-word.ensures.letters) (c.deref-in-Some.ensures.value ∙ c.in_ok-word.ensures.breaks)
    (sym (ap is_utf8 c.in_ok-word.ensures.letters) ∙ c.in-Some.ensures.utf8) c.fits.ensures c.if-not-fits.true

pub returns-else-not-fits-clause-passes_tests : goal.returns-else-not-fits-clause-passes_tests
returns-else-not-fits-clause-passes_tests g c =
    good_breaks g.B.Break.meaning g.B.Listing.listing_of c.args.text.now c.deref.result.now c.deref-in-Some.result.now c.fits.result (λ place. either (g.met.B.Listing.listed_or_plain (plain_break place)))
    (c.deref.ensures ∙ c.in-Some.ensures.same_bytes ∙ c.in_ok-word.ensures.letters) (c.deref-in-Some.ensures.value ∙ c.in_ok-word.ensures.breaks)
    (sym (ap is_utf8 c.in_ok-word.ensures.letters) ∙ c.in-Some.ensures.utf8) c.fits.ensures c.if-not-fits.false

pub returns-in_err-word-clause-passes_tests : goal.returns-in_err-word-clause-passes_tests
returns-in_err-word-clause-passes_tests g c = grind (arith, common_steps)

pub returns-in_err-word-clause-spelled : goal.returns-in_err-word-clause-spelled
returns-in_err-word-clause-spelled g c = grind (arith, common_steps)

pub returns-in_err-word-clause-fits : goal.returns-in_err-word-clause-fits
returns-in_err-word-clause-fits g c = grind (arith, common_steps)

pub returns-in_err-word-clause-first_failed_test : goal.returns-in_err-word-clause-first_failed_test
returns-in_err-word-clause-first_failed_test g c = grind (arith, common_steps)

pub returns-in-None-clause-first_failed_test : goal.returns-in-None-clause-first_failed_test
returns-in-None-clause-first_failed_test g c = grind (arith, common_steps)

pub returns-else-not-fits-clause-spelled : goal.returns-else-not-fits-clause-spelled
returns-else-not-fits-clause-spelled g c = grind (arith, common_steps)

pub returns-else-not-fits-clause-fits : goal.returns-else-not-fits-clause-fits
returns-else-not-fits-clause-fits g c = grind (arith, common_steps)

use Rattle.std.proofs.lemmas.Grind.{common_steps}
use Rattle.std.proofs.Common.{arith, ◌∙◌, sym, ap, None}
use Rattle.std.specs.Str.{is_utf8}
use Rattle.hyphenation_breaks.specs.Invariant.{has_letter}
use Rattle.tex_files.proofs.Letters.{either, bad_entries, good_entries}
use Rattle.tex_files.proofs.spelling.read_letters.Goals as goal

pub returns-then-not-fits_key-clause-first_failed_test : goal.returns-then-not-fits_key-clause-first_failed_test
returns-then-not-fits_key-clause-first_failed_test g c =
    bad_entries g.C.Payload.change_of g.C.Payload.payload_of c.args.text.now c.deref-in-Some.result.now c.deref-in-Some-2.result.now c.fits_key.result (either (g.met.C.Payload.carried_or_none None))
    (c.deref-in-Some.ensures ∙ c.in-Some.ensures.same_bytes ∙ c.in_ok-key.ensures.letters) (c.deref-in-Some-2.ensures.value ∙ c.in_ok-key.ensures.entries)
    (sym (ap has_letter (c.deref.ensures.value ∙ c.in_ok-key.ensures.letters)) ∙ sym c.has_letter.ensures ∙ c.if-not-has_letter.false) (sym (ap is_utf8 c.in_ok-key.ensures.letters) ∙ c.in-Some.ensures.utf8)
    c.fits_key.ensures c.if-not-fits_key.true

pub returns-else-not-fits_key-clause-passes_tests : goal.returns-else-not-fits_key-clause-passes_tests
returns-else-not-fits_key-clause-passes_tests g c =
    good_entries g.C.Payload.change_of g.C.Payload.payload_of c.args.text.now c.deref-in-Some.result.now c.deref-in-Some-2.result.now c.fits_key.result (either (g.met.C.Payload.carried_or_none None))
    (c.deref-in-Some.ensures ∙ c.in-Some.ensures.same_bytes ∙ c.in_ok-key.ensures.letters) (c.deref-in-Some-2.ensures.value ∙ c.in_ok-key.ensures.entries)
    (sym (ap has_letter (c.deref.ensures.value ∙ c.in_ok-key.ensures.letters)) ∙ sym c.has_letter.ensures ∙ c.if-not-has_letter.false) (sym (ap is_utf8 c.in_ok-key.ensures.letters) ∙ c.in-Some.ensures.utf8)
    c.fits_key.ensures c.if-not-fits_key.false

pub returns-in_err-key-clause-passes_tests : goal.returns-in_err-key-clause-passes_tests
returns-in_err-key-clause-passes_tests g c = grind (arith, common_steps)

pub returns-in_err-key-clause-spelled : goal.returns-in_err-key-clause-spelled
returns-in_err-key-clause-spelled g c = grind (arith, common_steps)

pub returns-in_err-key-clause-fits : goal.returns-in_err-key-clause-fits
returns-in_err-key-clause-fits g c = grind (arith, common_steps)

pub returns-in_err-key-clause-first_failed_test : goal.returns-in_err-key-clause-first_failed_test
returns-in_err-key-clause-first_failed_test g c = grind (arith, common_steps)

pub returns-then-not-has_letter-clause-first_failed_test : goal.returns-then-not-has_letter-clause-first_failed_test
returns-then-not-has_letter-clause-first_failed_test g c = grind (arith, common_steps)

pub returns-in-None-clause-first_failed_test : goal.returns-in-None-clause-first_failed_test
returns-in-None-clause-first_failed_test g c = grind (arith, common_steps)

pub returns-else-not-fits_key-clause-spelled : goal.returns-else-not-fits_key-clause-spelled
returns-else-not-fits_key-clause-spelled g c = grind (arith, common_steps)

pub returns-else-not-fits_key-clause-fits : goal.returns-else-not-fits_key-clause-fits
returns-else-not-fits_key-clause-fits g c = grind (arith, common_steps)

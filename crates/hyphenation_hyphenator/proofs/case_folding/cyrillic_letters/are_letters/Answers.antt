use Rattle.std.proofs.Common.{Fits, w8, eqb-true, arith}
use Rattle.std.proofs.lemmas.Simd.{Each1-get_or}
use Rattle.hyphenation_hyphenator.proofs.CyrillicLetters.{letters_in_lanes}
use Rattle.hyphenation_hyphenator.proofs.case_folding.cyrillic_letters.are_letters.Goals as goal

pub returns : goal.returns
returns c none = λ lane lt.
    let firsts = c.args.firsts in
    let seconds = c.args.seconds in
    letters_in_lanes firsts seconds c.requires.firsts c.requires.seconds (eqb-true _ 0 none) lane lt
    (Each1-get_or (Fits w8) seconds lane 0 (omega (arith, c.requires.seconds)) c.fits-seconds.1).fits

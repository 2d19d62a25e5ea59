use Rattle.std.proofs.Common.{◌≡◌, ◌+◌, ap, ◌∙◌, arith}
use Rattle.std.specs.Prelude.{slice_index}
use Rattle.hyphenation_dictionary.specs.Parts.{patterns_of}
use Rattle.libhyphen_rule.proofs.PlainWords.{found_digits, plain_found}
use Rattle.libhyphen_rule.proofs.plain_words.read_frame.Goals as goal

pub put_short-requires-clause-known : goal.put_short-requires-clause-known
put_short-requires-clause-known c byte lt =
    let found = c.read_whole-pass.ensures.read.found (c.all_known.ensures c.if-not-all_known.false) in
    let at : (byte + 2) + 14 ≡ byte + 16 = omega arith in
    omega (arith, found.written_digits (byte + 2) (omega (arith, c.requires.digits)), ap (slice_index c.read_whole-pass.new.list) at)

pub returns-clause-digits : goal.returns-clause-digits
returns-clause-digits c =
    let found = c.read_whole-pass.ensures.read.found (c.all_known.ensures c.if-not-all_known.false) in
    found_digits (patterns_of c.args.patterns.now) c.args.word.now c.read_whole-pass.result.last c.read_whole-pass.new.list found
    c.put_short.new.digits (c.put_short.ensures.length ∙ c.requires.digits)
    (λ byte lt. c.put_short.ensures.inner byte (omega (arith, c.put_short.ensures.length)))
    (λ byte is. c.put_short.ensures.last byte (omega (arith, c.put_short.ensures.length)))

pub returns-clause-changes : goal.returns-clause-changes
returns-clause-changes c =
    let found = c.read_whole-pass.ensures.read.found (c.all_known.ensures c.if-not-all_known.false) in
    plain_found (patterns_of c.args.patterns.now) c.args.word.now c.read_whole-pass.result.last c.read_whole-pass.new.list found

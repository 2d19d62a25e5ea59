use Rattle.std.proofs.Common.{arith}
use Rattle.std.proofs.lemmas.Grind.{common_steps}
use Rattle.hyphenation_hyphenator.specs.Opportunities.{rules_of}
use Rattle.hyphenation_hyphenator.proofs.SingleBytes.{one_byte, no_breaks}
use Rattle.hyphenation_hyphenator.proofs.hyphenator.word_paths.is_whole_byte.Goals as goal

pub returns : goal.returns
returns g c = λ _.
    no_breaks (rules_of g.F.Payload.Payload.change_of g.F.Listing.Break.meaning c.args.dictionary.now) c.args.word.now
    (one_byte c.args.word.now (grind (arith, common_steps)) (grind (arith, common_steps))) (grind (arith, common_steps))

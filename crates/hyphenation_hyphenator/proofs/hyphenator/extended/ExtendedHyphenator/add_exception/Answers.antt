use Rattle.std.specs.String.{string_bytes}
use Rattle.hyphenation_hyphenator.specs.Opportunities.{own_break}
use Rattle.hyphenation_score.specs.Scoring.{own_change}
use Rattle.hyphenation_hyphenator.proofs.Standard.{lists_inserted, on_ok_then}
use Rattle.hyphenation_hyphenator.proofs.hyphenator.extended.ExtendedHyphenator.add_exception.Goals as goal

pub returns-clause-lists : goal.returns-clause-lists
returns-clause-lists c =
    on_ok_then c.insert_exception.result _ _ (λ same. rw same (lists_inserted own_change own_break c.args.self.now (string_bytes c.args.lowercase_word) c.args.ops.items)) c.insert_exception.ensures.listed

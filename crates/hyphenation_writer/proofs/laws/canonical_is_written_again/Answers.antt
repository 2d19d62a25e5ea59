use Rattle.std.proofs.Common.{ap}
use Rattle.hyphenation_writer.specs.Canonical.{canonical_text_of}
use Rattle.hyphenation_writer.proofs.CanonicalRead.{canonical-contents}
use Rattle.hyphenation_writer.proofs.laws.canonical_is_written_again.Goals as goal

pub returns : goal.returns
returns g c = λ kind held contents exact kept.
    ap (canonical_text_of kind held.change_of held.break_of) (canonical-contents c.entries_in_order.ensures c.codes_are_text.ensures kind held.payload_of held.listing_of held.change_of held.break_of exact contents kept)

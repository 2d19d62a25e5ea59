use Rattle.hyphenation_writer.proofs.CanonicalRead.{canonical-accepted, canonical-contents}
use Rattle.hyphenation_writer.proofs.laws.written_is_read_again.Goals as goal

pub returns : goal.returns
returns g c = record {
  accepted = λ kind held contents exact kept. canonical-accepted c.entries_in_order.ensures c.codes_are_text.ensures kind held.payload_of held.listing_of held.change_of held.break_of exact contents kept;
  equal = λ kind held contents exact kept. canonical-contents c.entries_in_order.ensures c.codes_are_text.ensures kind held.payload_of held.listing_of held.change_of held.break_of exact contents kept;
}

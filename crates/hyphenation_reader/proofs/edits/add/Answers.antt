use Rattle.hyphenation_reader.specs.Edits.{as_line}
use Rattle.hyphenation_reader.proofs.EditsLemmas.{may_be_listed}
use Rattle.hyphenation_reader.proofs.edits.add.Goals as goal

pub insert_exception-requires : goal.insert_exception-requires
insert_exception-requires g c =
    may_be_listed c.spelt_is_sound.ensures c.args.kind g.B.Listing.listing_of g.B.Break.meaning g.met.B.Listing.listed_or_plain (as_line c.args.exception.now) c.in_ok-read_exception.field-0 (c.in-Some.word, c.in-Some.listed) c.in-Some.is
    c.in_ok-read_exception.ensures

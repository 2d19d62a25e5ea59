use Rattle.hyphenation_reader.proofs.EditsLemmas.{read, unread}
use Rattle.hyphenation_reader.proofs.edits.read_exception.Goals as goal

pub returns-in-Ok : goal.returns-in-Ok
returns-in-Ok g c = read c.args.kind g.B.Listing.listing_of c.args.exception.now c.in_ok-found.field-0 c.requires c.in_ok-found.ensures c.in-Ok.found c.in-Ok.is

pub returns : goal.returns
returns g c = unread c.args.kind g.B.Listing.listing_of c.args.exception.now c.in_ok-found.field-0 c.requires c.in_ok-found.ensures _ c.in-Err.is

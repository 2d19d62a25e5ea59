use Rattle.std.proofs.Common.{◌∙◌, ap, List, ℕ}
use Rattle.hyphenation_grammar.specs.Lines.{lines_of}
use Rattle.hyphenation_grammar.specs.Reading.{contents_of}
use Rattle.hyphenation_reader.proofs.reader.take_text.Goals as goal

pub returns-clause-contents : goal.returns-clause-contents
returns-clause-contents g c =
    c.in_ok-into_dictionary.ensures ∙ c.in_ok-unfrozen.ensures.contents
    ∙ ap (λ (text : List ℕ). contents_of c.args.kind g.C.Payload.payload_of g.B.Listing.listing_of (lines_of text)) c.deref.ensures.value

use Rattle.std.proofs.Common.{ap, ◌∙◌, sym}
use Rattle.hyphenation_grammar.specs.Lines.{lines_of}
use Rattle.hyphenation_grammar.specs.Reading.{contents_of}
use Rattle.hyphenation_writer.proofs.CanonicalRead.{canonical-contents}
use Rattle.hyphenation_writer.proofs.laws.equal_texts_are_of_equal_dictionaries.Goals as goal

pub returns : goal.returns
returns g c = λ kind held contents others exact kept other same.
    sym (canonical-contents c.entries_in_order.ensures c.codes_are_text.ensures kind held.payload_of held.listing_of held.change_of held.break_of exact contents kept)
    ∙ ap (λ text. contents_of kind held.payload_of held.listing_of (lines_of text)) same
    ∙ canonical-contents c.entries_in_order.ensures c.codes_are_text.ensures kind held.payload_of held.listing_of held.change_of held.break_of exact others other

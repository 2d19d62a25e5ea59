use Rattle.hyphenation_grammar.specs.Form.{version_by}
use Rattle.hyphenation_reader.proofs.ReadingOrder.{same-contents}
use Rattle.hyphenation_reader.proofs.SomeLine.{among, among_back}
use Rattle.hyphenation_reader.proofs.laws.order_means_nothing.Goals as goal

pub returns : goal.returns
returns g c = λ kind payload_of listing_of first second third ls ms e f same.
    same-contents payload_of listing_of (record { kind = kind; version = version_by kind first }) first second third ls ms e f (among ls ms same) (among_back ls ms same)

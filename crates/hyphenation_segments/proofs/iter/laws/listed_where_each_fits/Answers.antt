use Rattle.std.proofs.Common.{◌∙◌, sym}
use Rattle.hyphenation_segments.proofs.Listing.{by_rule, from_rule}
use Rattle.hyphenation_segments.proofs.iter.laws.listed_where_each_fits.Goals as goal

pub returns : goal.returns
returns g c = λ word listed size kept.
    let meaning = g.B.Break.meaning in
    let order = c.listed_in_order.ensures meaning word listed in
    let chars = c.boundary_is_of_chars.ensures in (
      λ passes. by_rule meaning chars word 0 listed (sym order ∙ passes),
      λ may. order ∙ from_rule meaning chars word 0 listed size kept may,
    )

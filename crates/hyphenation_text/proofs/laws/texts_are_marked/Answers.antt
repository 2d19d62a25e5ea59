use Rattle.hyphenation_text.proofs.MarkedTexts.{Laws, text_marked}
use Rattle.hyphenation_text.proofs.laws.texts_are_marked.Goals as goal

pub returns : goal.returns
returns c = λ breaks mark before after text a u.
    let laws : Laws = record { words = c.words_are_slices.ensures.slices; words_join = c.words_are_slices.ensures.join; join = c.segments_join.ensures; joins = c.marked_segments_join.ensures; fit = c.plain_breaks_fit_where_ascending.ensures } in
    text_marked laws breaks mark before after text a u

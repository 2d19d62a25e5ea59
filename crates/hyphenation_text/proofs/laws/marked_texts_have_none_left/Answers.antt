use Rattle.hyphenation_text.proofs.MarkedTexts.{Laws}
use Rattle.hyphenation_text.proofs.SecondRun.{second_run}
use Rattle.hyphenation_text.proofs.laws.marked_texts_have_none_left.Goals as goal

pub returns : goal.returns
returns c = λ breaks before after before' after' text a u i j.
    let laws : Laws = record { words = c.words_are_slices.ensures.slices; words_join = c.words_are_slices.ensures.join; join = c.segments_join.ensures; joins = c.marked_segments_join.ensures; fit = c.plain_breaks_fit_where_ascending.ensures } in
    second_run laws breaks before after before' after' text i j a u

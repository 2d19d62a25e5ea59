use Rattle.any_dictionary.specs.Dictionaries.{places_by}
use Rattle.text_words.specs.Words.{unless_mixed}
use Rattle.hyphenation_text.specs.Words.{composed_breaks_under}
use Rattle.hyphenation_text.proofs.Limits.{limited_ascend, mixed_ascend, through_ascend}
use Rattle.hyphenation_text.proofs.laws.limited_breaks_fit.Goals as goal

pub returns : goal.returns
returns c =
    through_ascend c.carried_places_ascend.ensures (composed_breaks_under c.args.settings.now c.args.dictionary.now)
    (limited_ascend c.args.settings.now.min_word c.args.settings.now.skip_capitals (unless_mixed (places_by c.args.dictionary.now))
    (mixed_ascend (places_by c.args.dictionary.now) c.breaks_fit.ensures.places))

-- Texts without markup, and where marks are put into them.
use Rattle.std.specs.Prelude.{ℕ, Bool, false, List}
use Rattle.std.specs.String.{string_bytes}
use Rattle.any_dictionary.specs.declared.AnyDictionary.{AnyDictionary}
use Rattle.hyphenation_segments.specs.Laws.{with_marks}
use Rattle.hyphenation_text.specs.Dictionaries.{Breaks}
use Rattle.hyphenation_text.specs.Places.{text_places}
use Rattle.hyphenation_text.specs.Words.{breaks_under}
use Rattle.hyphenation_text.specs.declared.settings.Settings.{Settings}
use Rattle.hyphenation_text.specs.declared.text.Output.{Output}

-- A text with the mark at each break of its words, where something may touch it from before and from after.
abbrev pub marked_text : Breaks → List ℕ → Bool → Bool → List ℕ → List ℕ
marked_text breaks mark before after text = with_marks mark text (text_places breaks before after text)

-- The same by a dictionary and some settings.
abbrev pub marked_text_by : Settings → AnyDictionary → Bool → Bool → List ℕ → List ℕ
marked_text_by settings dictionary before after text =
    marked_text (breaks_under settings dictionary) settings.mark.now before after text

-- A text with the mark at each break of its words. Nothing is before the text or after it.
abbrev pub hyphenated_by : Breaks → List ℕ → List ℕ → List ℕ
hyphenated_by breaks mark text = with_marks mark text (text_places breaks false false text)

-- The same by a dictionary and some settings.
abbrev pub hyphenated : Settings → AnyDictionary → List ℕ → List ℕ
hyphenated settings dictionary text = hyphenated_by (breaks_under settings dictionary) settings.mark.now text

-- The text that is written so far.
abbrev pub so_far : Output → List ℕ
so_far output = string_bytes output.text

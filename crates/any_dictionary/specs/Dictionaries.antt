-- Dictionaries of either kind: the texts that give them, and the breaks of words.
use Rattle.std.specs.Prelude.{ℕ, max, not, List, map, filter, Option}
use Rattle.hyphenation_breaks.specs.Break.{Break, is_changed}
use Rattle.hyphenation_breaks.specs.Dictionary.{entries_of_keys}
use Rattle.hyphenation_grammar.specs.Judging.{refusal_of}
use Rattle.hyphenation_grammar.specs.Reading.{break_as_listing, extended_contents, place_as_listing, standard_contents}
use Rattle.hyphenation_grammar.specs.declared.Cause.{Cause}
use Rattle.hyphenation_grammar.specs.declared.form.Kind.{Kind}
use Rattle.hyphenation_grammar.specs.declared.form.Kind.TheVariants.{Standard, Extended}
use Rattle.hyphenation_hyphenator.specs.Fitting.{fitted_breaks_of}
use Rattle.hyphenation_hyphenator.specs.Opportunities.{standard_rules, extended_rules, all_breaks_of}
use Rattle.hyphenation_reader.specs.Edits.{after_edit}
use Rattle.hyphenation_score.specs.Scoring.{values}
use Rattle.hyphenation_writer.specs.Canonical.{extended_text, standard_text}
use Rattle.any_dictionary.specs.Kinds.{kind_in}
use Rattle.any_dictionary.specs.declared.AnyDictionary.{AnyDictionary}
use Rattle.any_dictionary.specs.declared.AnyDictionary.TheVariants as of

-- ---- the texts that give them

-- The dictionary that an accepted text of that kind gives.
abbrev pub contents_as : Kind → List ℕ → AnyDictionary
contents_as Standard text = of.Standard (standard_contents text)
contents_as Extended text = of.Extended (extended_contents text)

-- The dictionary that an accepted text gives, of the kind that its first line names.
abbrev pub contents_of : List ℕ → AnyDictionary
contents_of text = contents_as (kind_in text) text

-- The first fault of a text, as one of the kind that its first line names; none if it is accepted.
abbrev pub refusal_by_head : List ℕ → Option (ℕ × Cause)
refusal_by_head text = refusal_of (kind_in text) text

-- The canonical text of a dictionary.
abbrev pub canonical_text : AnyDictionary → List ℕ
canonical_text (of.Standard standard) = standard_text standard
canonical_text (of.Extended extended) = extended_text extended

-- ---- what they are

-- The kind of a dictionary.
abbrev pub kind_by : AnyDictionary → Kind
kind_by (of.Standard standard) = Standard
kind_by (of.Extended extended) = Extended

-- The code of a dictionary's language.
abbrev pub language_by : AnyDictionary → List ℕ
language_by (of.Standard standard) = standard.language
language_by (of.Extended extended) = extended.language

-- The minima of a dictionary: the least numbers of characters of a word before its first break and after its last one.
abbrev pub minima_by : AnyDictionary → ℕ × ℕ
minima_by (of.Standard standard) = (standard.left, standard.right)
minima_by (of.Extended extended) = (extended.left, extended.right)

-- The dictionary with minima that are at least these.
abbrev pub raised : ℕ → ℕ → AnyDictionary → AnyDictionary
raised left right (of.Standard standard) =
    of.Standard (record standard { left = max standard.left left; right = max standard.right right })
raised left right (of.Extended extended) =
    of.Extended (record extended { left = max extended.left left; right = max extended.right right })

-- The dictionary after an edit of its exceptions.
abbrev pub edited : AnyDictionary → List ℕ → AnyDictionary
edited (of.Standard standard) edit = of.Standard (after_edit place_as_listing standard edit)
edited (of.Extended extended) edit = of.Extended (after_edit break_as_listing extended edit)

-- ---- the breaks of words

-- The breaks of a word as written, with their changes.
abbrev pub breaks_by : AnyDictionary → List ℕ → List Break
breaks_by (of.Standard standard) word = all_breaks_of (standard_rules standard) word
breaks_by (of.Extended extended) word = fitted_breaks_of (extended_rules extended) word

-- The places of all breaks of a word as written.
abbrev pub all_places_by : AnyDictionary → List ℕ → List ℕ
all_places_by dictionary word = map (λ b. b.place) (breaks_by dictionary word)

-- The places of the breaks that have no change.
abbrev pub plain_places : List Break → List ℕ
plain_places breaks = map (λ b. b.place) (filter (λ b. not (is_changed b)) breaks)

-- The places at which a dictionary breaks a word without a change. Another break would change letters of a line that
-- does not end there.
abbrev pub places_by : AnyDictionary → List ℕ → List ℕ
places_by dictionary word = plain_places (breaks_by dictionary word)

-- ---- the values of words

-- The values that patterns give a word's places, from place 1 on. A word in capitals has those of its capitals.
abbrev pub values_by : AnyDictionary → List ℕ → List ℕ
values_by (of.Standard standard) word = values (entries_of_keys standard) word
values_by (of.Extended extended) word = values (entries_of_keys extended) word

-- The breaks of a standard dictionary change no letters.
use Rattle.std.proofs.Common.{◌≡◌, ℕ, ◌==◌, true, false, cond, List, [], length, map, Option, Some, None, refl}
use Rattle.std.specs.FinMap as finite
use Rattle.std.specs.List.{All}
use Rattle.std.specs.Option.{option_map, option_and_then, option_map_or, unwrap_or}
use Rattle.std.proofs.lemmas.List.Elements.{All-nil, All-map, All-filter}
use Rattle.hyphenation_breaks.specs.Break.{Break, Change, plain_break}
use Rattle.hyphenation_breaks.specs.Dictionary.{Contents, Patterns, entries_of_keys}
use Rattle.hyphenation_hyphenator.specs.Folding.{fold_case}
use Rattle.hyphenation_hyphenator.specs.Opportunities.{no_change, within, winning_break, breaks_at_odd_values, standard_rules, breaks_within, boundaries_by, opportunities_in, opportunities, break_carried_back, breaks_as_written, all_breaks_of}
use Rattle.hyphenation_hyphenator.specs.SoftHyphens.{soft_hyphens}
use Rattle.any_dictionary.specs.Dictionaries.{breaks_by, kind_by}
use Rattle.any_dictionary.specs.declared.AnyDictionary.{AnyDictionary}
use Rattle.any_dictionary.specs.declared.AnyDictionary.TheVariants as of
use Rattle.lines_command.specs.Written.{PlainIfStandard}
use Rattle.paragraphs.specs.Parts.{IsPlain, ArePlain}

plain_breaks : (places : List ℕ) → All IsPlain (map plain_break places)
plain_breaks places = All-map IsPlain plain_break places (λ k d lt. refl)

none_then : {X : Type 0} (f : X → Option Change) (o : Option X) → ((x : X) → f x ≡ None) → option_and_then f o ≡ None
none_then f None none = refl
none_then f (Some x) none = none x

odd_plain : {C : Type 0} (keys : Patterns C) (word : List ℕ) → All IsPlain (breaks_at_odd_values no_change keys word)
unfolding breaks_at_odd_values
odd_plain keys word = All-map IsPlain (winning_break no_change keys word) _ (λ k d lt. none_then _ _ (λ x. refl))

within_plain : (bounds : ℕ × ℕ) (breaks : List Break) → All IsPlain breaks → All IsPlain (breaks_within breaks bounds)
within_plain bounds breaks plain = All-filter (λ b. within bounds b.place) IsPlain breaks plain

found_plain : (listed : Option (List ℕ)) (bounds : ℕ × ℕ) (others : List Break) → All IsPlain others
    → All IsPlain (unwrap_or (option_map (λ breaks. breaks_within breaks bounds) (option_map (map plain_break) listed)) (breaks_within others bounds))
found_plain None bounds others plain = within_plain bounds others plain
found_plain (Some places) bounds others plain = within_plain bounds (map plain_break places) (plain_breaks places)

bounded_plain : (bounds : Option (ℕ × ℕ)) (found : ℕ × ℕ → List Break) → ((b : ℕ × ℕ) → All IsPlain (found b)) → All IsPlain (option_map_or found bounds [])
bounded_plain None found plain = All-nil IsPlain
bounded_plain (Some b) found plain = plain b

opportunities_plain : {C : Type 0} (contents : Contents C ℕ) (word : List ℕ) → All IsPlain (opportunities (standard_rules contents) word)
unfolding opportunities
opportunities_plain contents word =
    bounded_plain (boundaries_by (standard_rules contents) word) (opportunities_in (standard_rules contents) word)
    (λ bounds. found_plain (finite.get contents.exceptions word) bounds _ (odd_plain (entries_of_keys contents) word))

written_plain : (word : List ℕ) (folded : List Break) → All IsPlain folded → All IsPlain (breaks_as_written word folded)
unfolding breaks_as_written
written_plain word folded plain =
    elim (length (soft_hyphens word) == 0) as (λ t. All IsPlain (cond t (map (break_carried_back word) folded) (map plain_break (soft_hyphens word)))) [
      | true ↦ All-map IsPlain (break_carried_back word) folded plain
      | false ↦ plain_breaks (soft_hyphens word)
    ]

standard_plain : {C : Type 0} (contents : Contents C ℕ) → ArePlain (all_breaks_of (standard_rules contents))
standard_plain contents word = written_plain word (opportunities (standard_rules contents) (fold_case word)) (opportunities_plain contents (fold_case word))

-- The breaks of a dictionary of either kind.
pub plain_by : (dictionary : AnyDictionary) → PlainIfStandard (kind_by dictionary) (breaks_by dictionary)
plain_by (of.Standard standard) = standard_plain standard
plain_by (of.Extended extended) = tt

-- The items that lines spell together, and the dictionary that an accepted text gives.
use Rattle.std.specs.Prelude.{ℕ, List, [], map, Option, option_map, unwrap_or, slice_index_or}
use Rattle.std.specs.List.{filter_map}
use Rattle.std.specs.FinMap as finite
use Rattle.hyphenation_breaks.specs.Break.{Break, Change}
use Rattle.hyphenation_breaks.specs.Dictionary.{TextMap, Contents}
use Rattle.hyphenation_grammar.specs.Form.{version_of}
use Rattle.hyphenation_grammar.specs.declared.form.Kind.{Kind}
use Rattle.hyphenation_grammar.specs.declared.form.Kind.TheVariants.{Standard, Extended}
use Rattle.hyphenation_grammar.specs.declared.form.Version.{Version}
use Rattle.hyphenation_grammar.specs.Lines.{lines_of, language_of, minima_of}
use Rattle.hyphenation_grammar.specs.Items.{pattern_of_line, exception_of_line}
use Rattle.hyphenation_breaks.specs.declared.entry.Entry.{Entry}

-- The keys or words that lines spell, each with its list. If a text comes twice, its first list counts; accepted texts
-- repeat none.
abbrev pub map_of_lines : {X : Type 0} → (List ℕ → Option (List ℕ × X)) → List (List ℕ) → TextMap X
map_of_lines spells lines = finite.from_entries (filter_map spells lines)

-- A spelling whose list is carried over by `say`.
abbrev pub spelling_as : {X Y : Type 0} → (X → Y) → (List ℕ → Option (List ℕ × List X))
    → List ℕ → Option (List ℕ × List Y)
spelling_as say spells line = option_map (λ x. (x.0, map say x.1)) (spells line)

-- An entry as a kind of dictionary holds it.
abbrev pub entry_as : {C : Type 0} → (Option Change → C) → Entry (Option Change) → Entry C
entry_as payload_of entry = record { place = entry.place; value = entry.value; change = payload_of entry.change }

-- Keys with their entries, and words with their listed breaks.
pub record SpeltItems (C B : Type 0) : Type 0 where
  pub patterns : TextMap (List (Entry C))
  pub exceptions : TextMap (List B)

-- The items that lines spell. payload_of and listing_of say what a kind of dictionary holds for a change and a break.
abbrev pub items_of_lines : {C B : Type 0} → Version → (Option Change → C) → (Break → B) → List (List ℕ)
    → SpeltItems C B
items_of_lines version payload_of listing_of lines =
    record {
      patterns = map_of_lines (spelling_as (entry_as payload_of) (pattern_of_line version)) lines;
      exceptions = map_of_lines
          (spelling_as listing_of exception_of_line) lines;
    }

-- The dictionary that the lines of an accepted text of that version give.
abbrev pub contents_in : {C B : Type 0} → Version → (Option Change → C) → (Break → B) → List (List ℕ) → Contents C B
contents_in version payload_of listing_of lines =
    let minima = unwrap_or (minima_of (slice_index_or lines 2 [])) (0, 0) in
    record {
      language = unwrap_or (language_of (slice_index_or lines 1 [])) [];
      left = minima.0;
      right = minima.1;
      patterns = (items_of_lines version payload_of listing_of lines).patterns;
      exceptions = (items_of_lines version payload_of listing_of lines).exceptions;
    }

-- The dictionary that the lines of an accepted text of that kind give.
abbrev pub contents_of : {C B : Type 0} → Kind → (Option Change → C) → (Break → B) → List (List ℕ) → Contents C B
contents_of kind payload_of listing_of lines = contents_in (version_of kind lines) payload_of listing_of lines

-- A standard dictionary holds no change.
abbrev pub no_payload : Option Change → Unit {0}
no_payload change = tt

-- It lists the place of a break.
abbrev pub place_as_listing : Break → ℕ
place_as_listing b = b.place

-- The standard dictionary of an accepted text.
abbrev pub standard_contents : List ℕ → Contents (Unit {0}) ℕ
standard_contents bytes = contents_of Standard no_payload place_as_listing (lines_of bytes)

-- An extended dictionary holds a change or none as it is.
abbrev pub change_as_payload : Option Change → Option Change
change_as_payload change = change

-- It lists a break as it is.
abbrev pub break_as_listing : Break → ℕ × Option Change
break_as_listing b = (b.place, b.change)

-- The extended dictionary of an accepted text.
abbrev pub extended_contents : List ℕ → Contents (Option Change) (ℕ × Option Change)
extended_contents bytes = contents_of Extended change_as_payload break_as_listing (lines_of bytes)

-- The items that a reader holds while it reads lines, and the head before them.
-- It follows the steps of private functions, which are proved equal to Items and Judging. No public contract cites it.
use Rattle.std.specs.Prelude.{◌≡◌, ◌+◌, ◌<◌, ◌≤◌, IsUtf8, Bool, true, not, ℕ, List, [], length, take, drop, slice_index_or, if◌then◌else◌, Option, Some, None}
use Rattle.std.specs.FinMap as finite
use Rattle.std.specs.String.{string_bytes}
use Rattle.hyphenation_breaks.specs.declared.entry.Entry.{Entry}
use Rattle.hyphenation_breaks.specs.Dictionary.{Contents}
use Rattle.hyphenation_dictionary.specs.Parts.{contents_of_parts, patterns_of}
use Rattle.hyphenation_grammar.specs.Reading.{SpeltItems}
use Rattle.hyphenation_grammar.specs.Judging.{fault_after, is_item_line}
use Rattle.std.specs.List.{list_all}
use Rattle.hyphenation_grammar.specs.Lines.{lines_of, language_of, minima_of}
use Rattle.hyphenation_grammar.specs.declared.form.Form.{Form}
use Rattle.hyphenation_grammar.specs.declared.Cause.{Cause}
use Rattle.hyphenation_grammar.specs.declared.Cause.TheVariants.{RepeatedPattern, RepeatedException}
use Rattle.hyphenation_reader.specs.declared.items.Item.{Item}
use Rattle.hyphenation_reader.specs.declared.items.Item.TheVariants.{Nothing, Pattern, Exception}
use Rattle.hyphenation_reader.specs.declared.reader.Builder.{Builder}
use Rattle.hyphenation_reader.specs.declared.reader.Unfrozen.{Unfrozen}

-- Keys with their entries, and words with their listed breaks.
abbrev pub items_held : {C B : Type 0} → Builder C B → SpeltItems C B
items_held builder = record { patterns = patterns_of builder.patterns; exceptions = builder.exceptions }

-- The dictionary that parts make, once their patterns are frozen.
abbrev pub contents_unfrozen : {C B : Type 0} → Unfrozen C B → Contents C B
contents_unfrozen u = contents_of_parts u.language u.left u.right u.patterns u.exceptions

-- No items, as before the first line.
abbrev pub no_items : {C B : Type 0} → SpeltItems C B
no_items = record { patterns = finite.from_entries []; exceptions = finite.from_entries [] }

-- The items with one more, and a pattern's key and entries.
abbrev pub with_item : {C B : Type 0} → SpeltItems C B → List ℕ → List (Entry C) → Item B → SpeltItems C B
with_item s key entries Nothing = s
with_item s key entries Pattern =
    record { patterns = finite.insert s.patterns key entries; exceptions = s.exceptions }
with_item s key entries (Exception word listed) =
    record { patterns = s.patterns; exceptions = finite.insert s.exceptions (string_bytes word) listed.items }

-- The cause if an item, with a pattern's key, repeats one that is held.
abbrev pub repeated_by : {C B : Type 0} → SpeltItems C B → List ℕ → Item B → Option Cause
repeated_by s key Nothing = None
repeated_by s key Pattern = if finite.contains_key s.patterns key then Some RepeatedPattern else None
repeated_by s key (Exception word listed) =
    if finite.contains_key s.exceptions (string_bytes word) then Some RepeatedException else None

-- Lines that spell no item.
abbrev pub spell_nothing : List (List ℕ) → Bool
spell_nothing lines = list_all (λ line. not (is_item_line line)) lines

-- Lines begin with three good head lines, which spell no item. The second and the third have this language and minima.
pub record HasHead (form : Form) (lines : List (List ℕ)) (language : List ℕ) (minima : ℕ × ℕ) : Type 0 where
  pub three_lines : 2 < length lines
  pub second : language_of (slice_index_or lines 1 []) ≡ Some language
  pub third : minima_of (slice_index_or lines 2 []) ≡ Some minima
  pub goes_on : fault_after form [] lines ≡ fault_after form (take 3 lines) (drop 3 lines)
  pub spells_nothing : spell_nothing (take 3 lines) ≡ true

-- The rest of a text after its three head lines.
pub record IsAfterHead (bytes rest : List ℕ) : Type 0 where
  pub lines : drop 3 (lines_of bytes) ≡ lines_of rest
  pub utf8 : IsUtf8 bytes → IsUtf8 rest
  pub shorter : 3 + length rest ≤ length bytes

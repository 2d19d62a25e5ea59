use Rattle.std.proofs.Common.{◌≡◌, ℕ, List, Some}
use Rattle.hyphenation_grammar.specs.Form.{form_of, version_of}
use Rattle.hyphenation_grammar.specs.Items.{pattern_of_line, exception_of_line}
use Rattle.hyphenation_grammar.specs.Reading.{spelling_as, entry_as}
use Rattle.hyphenation_reader.proofs.ReadingOrder.{patterns-told, exceptions-told}
use Rattle.hyphenation_reader.proofs.SomeLine.{any-some, some-any}
use Rattle.hyphenation_reader.proofs.laws.spelt_by_some_line.Goals as goal

pub returns : goal.returns
returns g c = record {
  patterns = λ kind payload_of listing_of lines key entries e.
      let told = patterns-told payload_of listing_of (form_of kind lines) lines e key entries in
      let spells = λ (line : List ℕ). spelling_as (entry_as payload_of) (pattern_of_line (version_of kind lines)) line ≡ Some (key, entries) in
      (λ has. any-some spells lines (told.0 has), λ some. told.1 (some-any spells lines some));
  exceptions = λ kind payload_of listing_of lines word listed e.
      let told = exceptions-told payload_of listing_of (form_of kind lines) lines e word listed in
      let spells = λ (line : List ℕ). spelling_as listing_of exception_of_line line ≡ Some (word, listed) in
      (λ has. any-some spells lines (told.0 has), λ some. told.1 (some-any spells lines some));
}

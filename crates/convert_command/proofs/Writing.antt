-- The text that is written of a dictionary of each kind.
use Rattle.std.proofs.Common.{◌≡◌, ℕ, List, sym, subst}
use Rattle.std.specs.Prelude.{Bool, None, Option}
use Rattle.std.specs.Io.KnownBytes.{Appends}
use Rattle.hyphenation_breaks.specs.Break.{Change}
use Rattle.hyphenation_breaks.specs.Dictionary.{Contents}
use Rattle.hyphenation_grammar.specs.Reading.{no_payload, change_as_payload, place_as_listing, break_as_listing}
use Rattle.hyphenation_grammar.specs.declared.form.Kind.{Kind}
use Rattle.hyphenation_grammar.specs.declared.form.Kind.TheVariants.{Standard, Extended}
use Rattle.hyphenation_writer.specs.Canonical.{standard_text, extended_text}
use Rattle.convert_command.specs.Written.{IsFor, IsMadeOf, Writes}

pub standard_written : (kind : Kind) (is_dic : Bool) (code : List ℕ) (left right : Option ℕ) (paths all : List (List ℕ)) (old new : Option (List ℕ))
    (dictionary : Contents (Unit {0}) ℕ) → kind ≡ Standard → IsFor code left right dictionary
    → IsMadeOf (λ _. None) no_payload place_as_listing is_dic code left right paths all dictionary
    → Appends old new (standard_text dictionary) → Writes kind is_dic code left right paths all old new
standard_written kind is_dic code left right paths all old new dictionary e is_for made written =
    subst (λ kind. Writes kind is_dic code left right paths all old new) (sym e) (dictionary, is_for, made, written)

pub extended_written : (kind : Kind) (is_dic : Bool) (code : List ℕ) (left right : Option ℕ) (paths all : List (List ℕ)) (old new : Option (List ℕ))
    (dictionary : Contents (Option Change) (ℕ × Option Change)) → kind ≡ Extended → IsFor code left right dictionary
    → IsMadeOf change_as_payload change_as_payload break_as_listing is_dic code left right paths all dictionary
    → Appends old new (extended_text dictionary) → Writes kind is_dic code left right paths all old new
extended_written kind is_dic code left right paths all old new dictionary e is_for made written =
    subst (λ kind. Writes kind is_dic code left right paths all old new) (sym e) (dictionary, is_for, made, written)

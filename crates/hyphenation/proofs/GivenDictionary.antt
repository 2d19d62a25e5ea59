-- The dictionary of a kind that bytes give, after edits.
use Rattle.std.proofs.Common.{◌≡◌, ℕ, List, [], ◌∷◌, Option, fold, refl, ap}
use Rattle.std.specs.Borrow.{Bor}
use Rattle.any_dictionary.specs.Dictionaries as any
use Rattle.any_dictionary.specs.declared.AnyDictionary.TheVariants as of
use Rattle.hyphenation_breaks.specs.Borrowed.{texts_now}
use Rattle.hyphenation_breaks.specs.Break.{Change}
use Rattle.hyphenation_breaks.specs.Dictionary.{Contents}
use Rattle.hyphenation_grammar.specs.Reading.{break_as_listing, extended_contents, place_as_listing, standard_contents}
use Rattle.hyphenation_grammar.specs.declared.form.Kind.{Kind}
use Rattle.hyphenation_grammar.specs.declared.form.Kind.TheVariants.{Standard, Extended}
use Rattle.hyphenation_hyphenator.specs.Hyphenated.{hyphenated_text}
use Rattle.hyphenation_reader.specs.Edits.{after_edit, after_edits}
use Rattle.hyphenation.specs.Engine.{run_output}

standard_after : (standard : Contents (Unit {0}) ℕ) (edits : List (List ℕ)) → fold any.edited (of.Standard standard) edits ≡ of.Standard (after_edits place_as_listing standard edits)
standard_after standard [] = refl
standard_after standard (edit ∷ edits) = standard_after (after_edit place_as_listing standard edit) edits

extended_after : (extended : Contents (Option Change) (ℕ × Option Change)) (edits : List (List ℕ)) → fold any.edited (of.Extended extended) edits ≡ of.Extended (after_edits break_as_listing extended edits)
extended_after extended [] = refl
extended_after extended (edit ∷ edits) = extended_after (after_edit break_as_listing extended edit) edits

-- The text hyphenated by it is the output of a run.
pub output_given : (kind : Kind) (edits : List (Bor (List ℕ))) (mark bytes text : List ℕ)
    → hyphenated_text (any.breaks_by (fold any.edited (any.contents_as kind bytes) (texts_now edits))) mark text ≡ run_output kind edits mark bytes text
output_given Standard edits mark bytes text =
    ap (λ dictionary. hyphenated_text (any.breaks_by dictionary) mark text) (standard_after (standard_contents bytes) (texts_now edits))
output_given Extended edits mark bytes text =
    ap (λ dictionary. hyphenated_text (any.breaks_by dictionary) mark text) (extended_after (extended_contents bytes) (texts_now edits))

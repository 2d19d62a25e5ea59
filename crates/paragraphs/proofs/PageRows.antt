-- The lines of paragraphs, one after the other.
use Rattle.std.proofs.Common.{◌≡◌, ℕ, zero, suc, ◌<◌, length, map, slice_index_or, inl, inr, arith, List, [], ◌∷◌, ◌++◌, sym, ap, subst, ◌∙◌, append_assoc, append-nil}
use Rattle.std.specs.List.{flat_map}
use Rattle.std.specs.String.{string_bytes}
use Rattle.std.specs.declared.string.String.{String}
use Rattle.std.proofs.lemmas.Grind.{flat_map-append}
use Rattle.hyphenation_breaks.specs.Break.{Break}
use Rattle.paragraphs.specs.declared.setting.Aim.{Aim}
use Rattle.paragraphs.specs.Pages.{IsFilled, AreFilled, apart, IsPage, HasTooLong}
use Rattle.paragraphs.specs.Settings.{IsTooLong}
use Rattle.paragraphs.specs.Parts.{Style, parts_of}
use Rattle.paragraphs.specs.Words.{words}
use Rattle.paragraphs.specs.Paragraphs.{paragraphs}

filled_more : (aim : Aim) (breaks_of : List ℕ → List Break) (style : Style) (columns : ℕ) (texts : List (List ℕ)) (rows : List (List (List ℕ))) (text : List ℕ) (lines : List (List ℕ))
    → AreFilled aim breaks_of style columns texts rows → IsFilled aim breaks_of style columns text lines → AreFilled aim breaks_of style columns (texts ++ text ∷ []) (rows ++ lines ∷ [])
filled_more aim breaks_of style columns [] [] text lines are is = (is, tt)
filled_more aim breaks_of style columns [] (row ∷ rows) text lines are is = absurd are
filled_more aim breaks_of style columns (first ∷ texts) [] text lines are is = absurd are
filled_more aim breaks_of style columns (first ∷ texts) (row ∷ rows) text lines are is = (are.0, filled_more aim breaks_of style columns texts rows text lines are.1 is)

-- Paragraphs have their lines, which were added to a page each after an empty one.
pub record AreAdded (aim : Aim) (breaks_of : List ℕ → List Break) (style : Style) (columns : ℕ) (texts : List (List ℕ)) (old new : List (List ℕ)) : Type 0 where
  pub rows : List (List (List ℕ))
  pub each : AreFilled aim breaks_of style columns texts rows
  pub whole : new ≡ old ++ flat_map apart rows

pub none_added : (aim : Aim) (breaks_of : List ℕ → List Break) (style : Style) (columns : ℕ) (page : List (List ℕ)) → AreAdded aim breaks_of style columns [] page page
none_added aim breaks_of style columns page = record { rows = []; each = tt; whole = sym (append-nil page) }

pub one_added : (aim : Aim) (breaks_of : List ℕ → List Break) (style : Style) (columns : ℕ) (texts : List (List ℕ)) (old page new : List (List ℕ)) (text : List ℕ) (lines : List (List ℕ))
    → AreAdded aim breaks_of style columns texts old page → IsFilled aim breaks_of style columns text lines → new ≡ (page ++ [] ∷ []) ++ lines
    → AreAdded aim breaks_of style columns (texts ++ text ∷ []) old new
one_added aim breaks_of style columns texts old page new text lines added filled is = record {
  rows = added.rows ++ lines ∷ [];
  each = filled_more aim breaks_of style columns texts added.rows text lines added.each filled;
  whole =
      is ∙ append_assoc page ([] ∷ []) lines ∙ ap (λ p. p ++ apart lines) added.whole ∙ append_assoc old (flat_map apart added.rows) (apart lines)
      ∙ ap (λ s. old ++ s) (sym (flat_map-append apart added.rows (lines ∷ []) ∙ ap (λ s. flat_map apart added.rows ++ s) (append-nil (apart lines))));
}

-- The lines of the first paragraph, and those of the others that were added.
pub page_made : (aim : Aim) (breaks_of : List ℕ → List Break) (style : Style) (columns : ℕ) (text first : List ℕ) (others lines new : List (List ℕ)) → paragraphs text ≡ first ∷ others
    → IsFilled aim breaks_of style columns first lines → AreAdded aim breaks_of style columns others lines new → IsPage aim breaks_of style columns text new
page_made aim breaks_of style columns text first others lines new is filled added = record {
  rows = lines ∷ added.rows;
  each = subst (λ texts. AreFilled aim breaks_of style columns texts (lines ∷ added.rows)) (sym is) (filled, added.each);
  whole = added.whole;
}

-- One of the texts is too long.
pub has_among : {Z : Type 0} (breaks_of : List ℕ → List Break) (style : Style) (texts : List (String Z)) (i : ℕ) (item : String Z) → i < length texts → item ≡ slice_index_or texts i item
    → IsTooLong (parts_of breaks_of style (words (string_bytes item))) → HasTooLong breaks_of style (map string_bytes texts)
has_among breaks_of style [] i item lt is long = absurd (omega (arith, lt))
has_among breaks_of style (text ∷ texts) zero item lt is long = inl (subst (λ t. IsTooLong (parts_of breaks_of style (words (string_bytes t)))) is long)
has_among breaks_of style (text ∷ texts) (suc i) item lt is long = inr (has_among breaks_of style texts i item (omega (arith, lt)) is long)

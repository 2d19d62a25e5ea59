-- The lines of blocks, one after the other.
use Rattle.std.proofs.Common.{◌≡◌, ℕ, zero, suc, ◌<◌, length, map, slice_index_or, inl, inr, arith, List, [], ◌∷◌, ◌++◌, sym, ap, subst, refl, ◌∙◌, append_assoc, append-nil}
use Rattle.hyphenation_breaks.specs.Break.{Break}
use Rattle.paragraphs.specs.Parts.{Style}
use Rattle.paragraphs.specs.declared.setting.Aim.{Aim}
use Rattle.written_texts.specs.Blocks.{Block, Line, Filled}
use Rattle.written_texts.specs.Written.{IsBlockSet, AreSet, together, HasTooLong}

set_more : (aim : Aim) (breaks_of : List ℕ → List Break) (style : Style) (columns : ℕ) (blocks : List Block) (rows : List (List (List ℕ))) (block : Block) (row : List (List ℕ))
    → AreSet aim breaks_of style columns blocks rows → IsBlockSet aim breaks_of style columns block row → AreSet aim breaks_of style columns (blocks ++ block ∷ []) (rows ++ row ∷ [])
set_more aim breaks_of style columns [] [] block row are is = (is, tt)
set_more aim breaks_of style columns [] (other ∷ rows) block row are is = absurd are
set_more aim breaks_of style columns (first ∷ blocks) [] block row are is = absurd are
set_more aim breaks_of style columns (first ∷ blocks) (other ∷ rows) block row are is = (are.0, set_more aim breaks_of style columns blocks rows block row are.1 is)

together_more : (rows : List (List (List ℕ))) (row : List (List ℕ)) → together (rows ++ row ∷ []) ≡ together rows ++ row
together_more [] row = append-nil row
together_more (first ∷ rows) row = ap (λ s. first ++ s) (together_more rows row) ∙ sym (append_assoc first (together rows) row)

-- Blocks have their lines, which are a page.
pub record AreAdded (aim : Aim) (breaks_of : List ℕ → List Break) (style : Style) (columns : ℕ) (blocks : List Block) (page : List (List ℕ)) : Type 0 where
  pub rows : List (List (List ℕ))
  pub each : AreSet aim breaks_of style columns blocks rows
  pub whole : page ≡ together rows

pub none_added : (aim : Aim) (breaks_of : List ℕ → List Break) (style : Style) (columns : ℕ) → AreAdded aim breaks_of style columns [] []
none_added aim breaks_of style columns = record { rows = []; each = tt; whole = refl }

pub one_added : (aim : Aim) (breaks_of : List ℕ → List Break) (style : Style) (columns : ℕ) (blocks : List Block) (page new : List (List ℕ)) (block : Block) (row : List (List ℕ))
    → AreAdded aim breaks_of style columns blocks page → IsBlockSet aim breaks_of style columns block row → new ≡ page ++ row
    → AreAdded aim breaks_of style columns (blocks ++ block ∷ []) new
one_added aim breaks_of style columns blocks page new block row added set is = record {
  rows = added.rows ++ row ∷ [];
  each = set_more aim breaks_of style columns blocks added.rows block row added.each set;
  whole = is ∙ ap (λ p. p ++ row) added.whole ∙ sym (together_more added.rows row);
}

-- One of the blocks is too long.
long_first : (breaks_of : List ℕ → List Break) (style : Style) (block : Block) (blocks : List Block)
    → HasTooLong breaks_of style (block ∷ []) → HasTooLong breaks_of style (block ∷ blocks)
long_first breaks_of style (Line line) blocks long = absurd long
long_first breaks_of style (Filled p) blocks (inl long) = inl long
long_first breaks_of style (Filled p) blocks (inr none) = absurd none

long_later : (breaks_of : List ℕ → List Break) (style : Style) (block : Block) (blocks : List Block)
    → HasTooLong breaks_of style blocks → HasTooLong breaks_of style (block ∷ blocks)
long_later breaks_of style (Line line) blocks long = long
long_later breaks_of style (Filled p) blocks long = inr long

pub has_among : {X : Type 0} (view : X → Block) (breaks_of : List ℕ → List Break) (style : Style) (blocks : List X) (i : ℕ) (item : X)
    → i < length blocks → item ≡ slice_index_or blocks i item
    → HasTooLong breaks_of style (view item ∷ []) → HasTooLong breaks_of style (map view blocks)
has_among view breaks_of style [] i item lt is long = absurd (omega (arith, lt))
has_among view breaks_of style (block ∷ blocks) zero item lt is long =
    long_first breaks_of style (view block) (map view blocks) (subst (λ b. HasTooLong breaks_of style (view b ∷ [])) is long)
has_among view breaks_of style (block ∷ blocks) (suc i) item lt is long =
    long_later breaks_of style (view block) (map view blocks) (has_among view breaks_of style blocks i item (omega (arith, lt)) is long)

-- One language more.
use Rattle.std.proofs.Common.{◌≡◌, ◌∙◌, ℕ, ◌&&◌, ◌||◌, Bool, true, false, not, cond, if◌then◌else◌, List, [], ◌∷◌, ◌++◌, map, refl, sym, ap}
use Rattle.std.specs.BTreeSet as sorted
use Rattle.std.specs.BTreeSet.{BTreeSet}
use Rattle.std.specs.Str.{bytes_eq, is_utf8, IsUtf8}
use Rattle.std.specs.String.{string_bytes, string_cmp}
use Rattle.std.specs.declared.string.String.{String}
use Rattle.std.proofs.lemmas.List.Folds.{list_any-append}
use Rattle.std.proofs.lemmas.Map.Text.{btree_set_updates_text}
use Rattle.std.proofs.lemmas.Str.{IsUtf8-from_is_utf8, is_utf8-from_IsUtf8}
use Rattle.html_pieces.specs.Languages.{is_among, with_language}
use Rattle.html_pieces.specs.Private.Languages.{HasThese}

-- A tag that is not UTF-8 is passed by.
no_text : (language : List ℕ) (b : Bool) → is_utf8 language ≡ b → (IsUtf8 language → ⊥) → is_utf8 language ≡ false
no_text language true e not_text = absurd (not_text (IsUtf8-from_is_utf8 language e))
no_text language false e not_text = e

pub passed_by : (languages : List (List ℕ)) (language : List ℕ) → (IsUtf8 language → ⊥) → languages ≡ with_language languages language
passed_by languages language not_text =
    sym (ap (λ b. if b && not (is_among languages language) then languages ++ language ∷ [] else languages) (no_text language (is_utf8 language) refl not_text))

-- So is what is there.
pub there_already : (languages : List (List ℕ)) (language : List ℕ) → IsUtf8 language → is_among languages language ≡ true → languages ≡ with_language languages language
there_already languages language text there =
    sym (ap (λ b. if b && not (is_among languages language) then languages ++ language ∷ [] else languages) (is_utf8-from_IsUtf8 language text)
    ∙ ap (λ b. if not b then languages ++ language ∷ [] else languages) there)

-- Another one is added.
pub not_there : (languages : List (List ℕ)) (language : List ℕ) → IsUtf8 language → is_among languages language ≡ false → languages ++ language ∷ [] ≡ with_language languages language
not_there languages language text there =
    sym (ap (λ b. if b && not (is_among languages language) then languages ++ language ∷ [] else languages) (is_utf8-from_IsUtf8 language text)
    ∙ ap (λ b. if not b then languages ++ language ∷ [] else languages) there)

one_more : (a b : Bool) → cond a true b ≡ (b || (a || false))
one_more true true = refl
one_more true false = refl
one_more false true = refl
one_more false false = refl

-- The set has it too.
pub has_one_more : {Y Z : Type 0} (all next : List (String Y)) (set new : BTreeSet (String Z)) (added : String Z) (language : List ℕ)
    → HasThese all set → sorted.Updates string_cmp set new added true → string_bytes added ≡ language
    → map string_bytes next ≡ map string_bytes all ++ language ∷ [] → HasThese next new
has_one_more all next set new added language has updates same pushed = λ q.
    btree_set_updates_text (string_bytes added) set new true updates q
    ∙ ap (λ bytes. cond (bytes_eq bytes q) true (sorted.contains_text set q)) same
    ∙ ap (λ b. cond (bytes_eq language q) true b) (has q)
    ∙ one_more (bytes_eq language q) (is_among (map string_bytes all) q)
    ∙ sym (list_any-append (λ one. bytes_eq one q) (map string_bytes all) (language ∷ []))
    ∙ ap (λ languages. is_among languages q) (sym pushed)

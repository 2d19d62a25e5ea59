-- A tag has the same paths in capitals and in small letters.
use Rattle.std.proofs.Common.{◌≡◌, ℕ, ◌==◌, Bool, true, false, List, [], ◌∷◌, map, refl, ap, sym, ◌∙◌, arith, if◌then◌else◌}
use Rattle.std.specs.Char.{to_ascii_lowercase, to_ascii_uppercase}
use Rattle.std.proofs.lemmas.Bool.{eqb-true, eqb-false, false_from_ne_true}
use Rattle.std.proofs.lemmas.Bool.Decides.{nat_tests}
use Rattle.std.proofs.lemmas.Str.Ascii.{lowercase-lowercase, lowercase-uppercase}
use Rattle.std.specs.List.{filter, flat_map}
use Rattle.hyphenation_breaks.specs.Ascii.{hyphen}
use Rattle.hyphenation_breaks.specs.Language.{is_code}
use Rattle.language_search.specs.Laws.{PathsHaveNoCase}
use Rattle.language_search.specs.Paths.{paths_by_code}
use Rattle.language_search.specs.declared.paths.Sought.{Sought}
use Rattle.language_search.specs.Tags.{underscore, searched_byte, searched, fronts}

searched_same : (f : ℕ → ℕ) → f underscore ≡ underscore → ((b : ℕ) → f b ≡ underscore → b ≡ underscore)
    → ((b : ℕ) → to_ascii_lowercase (f b) ≡ to_ascii_lowercase b) → (b : ℕ) (test : Bool) → (b == underscore) ≡ test → searched_byte (f b) ≡ searched_byte b
searched_same f keeps back same b true h =
    let is : b ≡ underscore = eqb-true b underscore h in
    ap (λ x. searched_byte (f x)) is ∙ ap searched_byte keeps ∙ ap searched_byte (sym is)
searched_same f keeps back same b false h =
    let other : (f b == underscore) ≡ false = false_from_ne_true (f b == underscore) (λ e. eqb-false b underscore h (back b (eqb-true (f b) underscore e))) in
    ap (λ test. if test then hyphen else to_ascii_lowercase (f b)) other ∙ same b
    ∙ ap (λ test. if test then hyphen else to_ascii_lowercase b) (sym h)

all_searched_same : (f : ℕ → ℕ) → ((b : ℕ) → searched_byte (f b) ≡ searched_byte b) → (tag : List ℕ) → searched (map f tag) ≡ searched tag
all_searched_same f same [] = refl
all_searched_same f same (b ∷ bs) = ap (λ x. x ∷ searched (map f bs)) (same b) ∙ ap (λ xs. searched_byte b ∷ xs) (all_searched_same f same bs)

upper_back : (b : ℕ) → to_ascii_uppercase b ≡ underscore → b ≡ underscore
upper_back b h = grind (arith, nat_tests)

lower_back : (b : ℕ) → to_ascii_lowercase b ≡ underscore → b ≡ underscore
lower_back b h = grind (arith, nat_tests)

upper_same : (b : ℕ) → searched_byte (to_ascii_uppercase b) ≡ searched_byte b
upper_same b = searched_same to_ascii_uppercase refl upper_back lowercase-uppercase b (b == underscore) refl

lower_same : (b : ℕ) → searched_byte (to_ascii_lowercase b) ≡ searched_byte b
lower_same b = searched_same to_ascii_lowercase refl lower_back lowercase-lowercase b (b == underscore) refl

abbrev paths_of_searched : Sought → List (List ℕ) → List ℕ → List (List ℕ)
paths_of_searched sought folders tag = flat_map (paths_by_code sought folders) (filter is_code (fronts tag))

pub no_case : PathsHaveNoCase
no_case sought folders tag = (
  ap (paths_of_searched sought folders) (all_searched_same to_ascii_uppercase upper_same tag),
  ap (paths_of_searched sought folders) (all_searched_same to_ascii_lowercase lower_same tag),
)

-- The codes of a tag that are served, from one of them on.
use Rattle.std.proofs.Common.{◌≡◌, ◌∙◌, ℕ, ◌+◌, ◌<◌, ◌≤◌, ◌||◌, Bool, true, List, [], ◌∷◌, length, map, drop, get_or, refl, sym, ap, subst, inl, inr}
use Rattle.std.specs.List.{list_any}
use Rattle.std.specs.Prelude.{Contains, None}
use Rattle.std.specs.Str.{bytes_eq}
use Rattle.std.proofs.lemmas.List.{drop_all, drop_more}
use Rattle.std.proofs.lemmas.Map.Views.{Contains-from_any}
use Rattle.std.proofs.lemmas.Slice.Eq.{bytes_eq-Decides}
use Rattle.command_line.specs.Dictionaries.{KnownFiles, IsOfFirst}
use Rattle.hyphenation_html.specs.declared.languages.LanguageDictionary.{LanguageDictionary}
use Rattle.language_search.specs.Paths.{paths_of_code}
use Rattle.html_command.specs.Dictionaries.{IsServed, code_of}

any_mapped : (all : List LanguageDictionary) (code : List ℕ) → list_any (λ one. bytes_eq one code) (map code_of all) ≡ list_any (λ one. bytes_eq (code_of one) code) all
any_mapped [] code = refl
any_mapped (one ∷ all) code = ap (λ b. bytes_eq (code_of one) code || b) (any_mapped all code)

-- The code that one of the dictionaries has is there.
pub has_code_there : (all : List LanguageDictionary) (code shown : List ℕ) (has : Bool) → shown ≡ code → has ≡ list_any (λ one. bytes_eq (code_of one) shown) all → has ≡ true
    → Contains (map code_of all) code
has_code_there all code shown has same is holds =
    subst (λ (c : List ℕ). Contains (map code_of all) c) same
    (Contains-from_any {K = List ℕ} {eq = λ one other. bytes_eq other one} (λ x y t. sym ((bytes_eq-Decides y x).0 t)) shown (map code_of all) (any_mapped all shown ∙ sym is ∙ holds))

-- A dictionary is there for the code at a place.
pub served_at : (bytes_of : KnownFiles) (folders there codes : List (List ℕ)) (i : ℕ) (code : List ℕ) → i < length codes → code ≡ get_or codes i code
    → Contains there code → IsServed bytes_of folders there (drop i codes)
served_at bytes_of folders there codes i code lt at has =
    subst (λ (cs : List (List ℕ)). IsServed bytes_of folders there cs) (sym (drop_more codes i code lt))
    (inl (subst (λ (c : List ℕ). Contains there c) at has))

-- There is no file for the code at a place, and those after it are served.
pub served_after : (bytes_of : KnownFiles) (folders there codes : List (List ℕ)) (i : ℕ) (code : List ℕ) → i < length codes → code ≡ get_or codes i code
    → IsOfFirst bytes_of (paths_of_code folders code) None → IsServed bytes_of folders there (drop (i + 1) codes) → IsServed bytes_of folders there (drop i codes)
served_after bytes_of folders there codes i code lt at none h =
    subst (λ (cs : List (List ℕ)). IsServed bytes_of folders there cs) (sym (drop_more codes i code lt))
    (inr (subst (λ (c : List ℕ). IsOfFirst bytes_of (paths_of_code folders c) None) at none, h))

-- No code is left.
pub served_end : (bytes_of : KnownFiles) (folders there codes : List (List ℕ)) (i : ℕ) → length codes ≤ i → IsServed bytes_of folders there (drop i codes)
served_end bytes_of folders there codes i le = subst (λ (cs : List (List ℕ)). IsServed bytes_of folders there cs) (sym (drop_all i codes le)) tt

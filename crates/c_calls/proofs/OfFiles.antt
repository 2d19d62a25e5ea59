-- The minima of a dictionary that files give.
use Rattle.std.proofs.Common.{◌≡◌, ◌⊎◌, ℕ, List, refl, subst, sym, rules}
use Rattle.std.specs.Prelude.{Option, None, Some, IsSome, IfSome}
use mathlib.Core.Logic.{inl, inr}
use Rattle.hyphenation_grammar.specs.declared.form.Kind.{Kind}
use Rattle.hyphenation_grammar.specs.declared.form.Kind.TheVariants.{Standard, Extended}
use Rattle.tex_files.specs.Heads.{minima_for}
use Rattle.tex_files.specs.declared.group.File.{File}
use Rattle.any_dictionary.specs.Dictionaries.{minima_by}
use Rattle.any_dictionary.specs.declared.AnyDictionary.{AnyDictionary}
use Rattle.c_calls.specs.TexFiles.{files_given, IsOfFiles}

-- they are those that are given
own_minima : (kind : Kind) (language : List ℕ) (minima : ℕ × ℕ) (files : List File) → minima_by (files_given kind language minima files) ≡ minima
unfolding files_given
own_minima Standard language minima files = refl
own_minima Extended language minima files = refl

-- so the dictionary is that of the files by its own minima
pub of_files : (kind : Kind) (language : List ℕ) (left right : Option ℕ) (minima : ℕ × ℕ) (files : List File) (dictionary : AnyDictionary)
    → dictionary ≡ files_given kind language minima files → minima_for left right files ≡ Some minima → IfSome left (λ given. minima.0 ≡ given)
    → IfSome right (λ given. minima.1 ≡ given) → IsOfFiles kind language left right files dictionary
of_files kind language left right minima files dictionary is found at_left at_right =
    subst (λ d. IsOfFiles kind language left right files d) (sym is)
    (subst (λ (m : ℕ × ℕ). (files_given kind language minima files ≡ files_given kind language m files) × (minima_for left right files ≡ Some m) × IfSome left (λ given. m.0 ≡ given) × IfSome right (λ given. m.1 ≡ given))
    (sym (own_minima kind language minima files)) (refl, found, at_left, at_right))

-- a minimum is missing where two are wanted and none are there
pub minimum_missing : (left right : Option ℕ) (minima : Option (ℕ × ℕ)) → (IsSome left → IsSome right → IsSome minima) → minima ≡ None
    → (left ≡ None) ⊎ (right ≡ None)
minimum_missing None right minima some none = inl refl
minimum_missing (Some l) None minima some none = inr refl
minimum_missing (Some l) (Some r) (Some m) some none = search rules
minimum_missing (Some l) (Some r) None some none = let some : IsSome {T = ℕ × ℕ} None = some refl refl in search rules

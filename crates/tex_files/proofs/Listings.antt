-- Words that are listed in a dictionary one after the other: the last listing of a word decides.
use Rattle.std.proofs.Common.{◌≡◌, ◌∙◌, ℕ, Bool, true, false, cond, List, [], ◌∷◌, Option, Some, None, refl, sym, ap}
use Rattle.std.specs.Option.{option_or}
use Rattle.std.specs.Cmp.Lexicographic.{nat_list_cmp_total, texts_ties, nat_list_eq_equiv}
use Rattle.std.specs.FinMap as finite
use Rattle.std.specs.FinMap.{get-insert}
use Rattle.hyphenation_breaks.specs.Dictionary.{Contents}
use Rattle.hyphenation_grammar.specs.Lines.{is_same}
use Rattle.tex_files.specs.ExceptionLists.{last_listing, with_listing, with_listings}

-- One listing decides on its own word.
chosen : {X : Type 0} (b : Bool) (said : X) (old : Option X) → cond b (Some said) old ≡ option_or (cond b (Some said) None) old
chosen true said old = refl
chosen false said old = refl

one_listing : {C B : Type 0} (dictionary : Contents C B) (name : List ℕ) (breaks : List B) (word : List ℕ)
    → finite.get (finite.insert dictionary.exceptions name breaks) word ≡ option_or (cond (is_same name word) (Some breaks) None) (finite.get dictionary.exceptions word)
one_listing {C} {B} dictionary name breaks word =
    get-insert nat_list_cmp_total dictionary.exceptions name breaks word
    ∙ ap (λ (b : Bool). cond b (Some breaks) (finite.get dictionary.exceptions word)) (sym (texts_ties word name) ∙ nat_list_eq_equiv.symm word name)
    ∙ chosen (is_same name word) breaks (finite.get dictionary.exceptions word)

either_or : {X : Type 0} (a b c : Option X) → option_or a (option_or b c) ≡ option_or (option_or a b) c
either_or None b c = refl
either_or (Some x) b c = refl

pub last_counts : {C B : Type 0} (dictionary : Contents C B) (listings : List (List ℕ × List B)) (word : List ℕ)
    → finite.get (with_listings dictionary listings).exceptions word ≡ option_or (last_listing word listings) (finite.get dictionary.exceptions word)
last_counts dictionary [] word = refl
last_counts {C} {B} dictionary (l ∷ ls) word =
    last_counts (with_listing dictionary l) ls word
    ∙ ap (λ (o : Option (List B)). option_or (last_listing word ls) o) (one_listing dictionary l.0 l.1 word)
    ∙ either_or (last_listing word ls) (cond (is_same l.0 word) (Some l.1) None) (finite.get dictionary.exceptions word)

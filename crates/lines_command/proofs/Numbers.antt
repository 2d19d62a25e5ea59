-- Numbers of options lie within their bounds.
use Rattle.std.proofs.Common.{◌≡◌, ℕ, ◌≤◌, ◌&&◌, Bool, true, false, cond, List, Option, Some, None, Ok, nat_le, refl, subst}
use Rattle.std.specs.Prelude.{option_and_then}
use Rattle.std.proofs.lemmas.Bool.{and_parts, leb-true}
use Rattle.hyphenation_grammar.specs.Lines.{number_of}
use Rattle.command_line.specs.Options.{GivenOption, RefusedArgument, last_value, number_given, number_of_value, number_or_refused, number_within}

tested : (least greatest m n : ℕ) (t : Bool) → (nat_le least m && nat_le m greatest) ≡ t → cond {A = Option ℕ} t (Some m) None ≡ Some n → n ≤ greatest
tested least greatest m n true is e =
    let both = and_parts (nat_le least m) (nat_le m greatest) is in
    let same : m ≡ n = cc in
    subst (λ (x : ℕ). x ≤ greatest) same (leb-true m greatest both.1)
tested least greatest m n false is e = absurd cc

within : (least greatest n : ℕ) (found : Option ℕ) → option_and_then (λ m. cond {A = Option ℕ} (nat_le least m && nat_le m greatest) (Some m) None) found ≡ Some n → n ≤ greatest
within least greatest n None e = absurd cc
within least greatest n (Some m) e = tested least greatest m n (nat_le least m && nat_le m greatest) refl e

if_found : (refusal : RefusedArgument) (greatest n : ℕ) (found : Option ℕ) → ((m : ℕ) → found ≡ Some m → m ≤ greatest)
    → number_or_refused refusal found ≡ Ok n → n ≤ greatest
if_found refusal greatest n None below e = absurd cc
if_found refusal greatest n (Some m) below e = let same : m ≡ n = cc in subst (λ (x : ℕ). x ≤ greatest) same (below m refl)

of_value : (name : List ℕ) (least greatest otherwise n : ℕ) (value : Option (List ℕ)) → otherwise ≤ greatest
    → number_of_value name least greatest otherwise value ≡ Ok n → n ≤ greatest
of_value name least greatest otherwise n None le e = let same : otherwise ≡ n = cc in subst (λ (x : ℕ). x ≤ greatest) same le
of_value name least greatest otherwise n (Some text) le e =
    if_found _ greatest n (number_within least greatest text) (λ m is. within least greatest m (number_of text) is) e

-- A number that is given, or stands for one that is not, is at most the greatest.
pub at_most : (name : List ℕ) (least greatest otherwise n : ℕ) (given : List GivenOption) → otherwise ≤ greatest
    → number_given name least greatest otherwise given ≡ Ok n → n ≤ greatest
at_most name least greatest otherwise n given le e = of_value name least greatest otherwise n (last_value name given) le e

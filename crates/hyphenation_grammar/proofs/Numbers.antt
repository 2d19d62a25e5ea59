-- Rows of digits.
use Rattle.std.proofs.Common.{subst, ◌≡◌, ℕ, suc, ◌^◌, ◌<◌, ◌≤◌, Bool, true, false, cond, List, [], ◌∷◌, length, drop, get_or, refl, arith, nat_lt, Some, None, ap, ◌∙◌, sym, drop-cons}
use Rattle.std.proofs.lemmas.Bool.Decides.{nat_tests}
use Rattle.std.specs.List.{fold}
use Rattle.hyphenation_grammar.proofs.LinesSplit.{absent}
use Rattle.hyphenation_grammar.specs.Lines.{number, with_digit}
use Rattle.hyphenation_grammar.specs.Private.Lines.{value_in_64_bits}

pub grows : (n : ℕ) (text : List ℕ) → n ≤ fold with_digit n text
grows n [] = omega arith
grows n (b ∷ rest) = let h : with_digit n b ≤ fold with_digit (with_digit n b) rest = grows (with_digit n b) rest in omega (arith, h)

none_if : (t : Bool) (n : ℕ) → t ≡ false → None ≡ cond t (Some n) None
none_if true n e = absurd cc
none_if false n e = refl

large : (most n all : ℕ) → nat_lt n most ≡ false → n ≤ all → nat_lt all most ≡ false
large most n all e h = grind (arith, nat_tests)

pub stops : (value i : ℕ) (text : List ℕ) → i < length text → fold with_digit value (drop i text) ≡ number text → None ≡ cond (nat_lt (with_digit value (get_or text i 0)) (2 ^ 64)) (Some (with_digit value (get_or text i 0))) None → None ≡ value_in_64_bits text
stops value i text lt e none =
    let n = with_digit value (get_or text i 0) in
    let le : n ≤ number text = subst (λ (x : ℕ). n ≤ x) (ap (fold with_digit value) (sym (drop-cons text i 0 lt)) ∙ e) (grows n (drop (suc i) text)) in
    none_if (nat_lt (number text) (2 ^ 64)) (number text) (large (2 ^ 64) n (number text) (absent (nat_lt n (2 ^ 64)) n none) le)

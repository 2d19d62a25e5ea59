-- The first equals sign of a text.
use Rattle.std.proofs.Common.{◌≡◌, ℕ, ◌-◌, ◌<◌, ◌≤◌, inl, inr, drop, take, Bool, true, false, List, [], ◌∷◌, length, Some, None, refl, sym, ap, ◌∙◌, arith}
use Rattle.std.specs.Prelude.{nat_lt, ◌&&◌}
use Rattle.std.specs.List.{list_any, position, position_or_len}
use Rattle.std.proofs.lemmas.Grind.{common_steps}
use Rattle.std.proofs.lemmas.Bool.{cases_lt}
use Rattle.std.proofs.lemmas.List.{drop_all, take_all, length-drop}
use Rattle.libhyphen_rule.specs.Minima.{has_equals, is_equals}

-- A text has an item that passes just if the first such item is within it.
any_is : {X : Type 0} (p : X → Bool) (xs : List X) → list_any p xs ≡ nat_lt (position_or_len p xs) (length xs)
any_is p [] = refl
any_is p (x ∷ xs) = grind (arith, any_is p xs)

pub record FirstEquals (text : List ℕ) (at : ℕ) : Type 0 where
  pub has : has_equals text ≡ true
  pub first : at ≡ position_or_len is_equals text
  pub within : at < length text

-- The place of the first equals sign.
pub some_equals : (text : List ℕ) (at : ℕ) → Some at ≡ position is_equals text → FirstEquals text at
some_equals text at is = record {
  has = grind (arith, common_steps, any_is is_equals text, is);
  first = grind (arith, common_steps, is);
  within = grind (arith, common_steps, is);
}

pub none_equals : (text : List ℕ) → None ≡ position is_equals text → has_equals text ≡ false
none_equals text is = grind (arith, common_steps, any_is is_equals text, is)

pub and_same : (r a b : Bool) → a ≡ true → r ≡ b → r ≡ (a && b)
and_same r a b is same = grind arith

-- A text from an index on that is at most the greatest number.
pub from_capped : (text : List ℕ) (n m : ℕ) → (m < length text → n ≡ m) → (length text ≤ m → length text ≤ n) → drop n text ≡ drop m text
from_capped text n m same over = elim (cases_lt m (length text)) [
  | inl lt ↦ ap (λ (k : ℕ). drop k text) (same lt)
  | inr le ↦ drop_all n text (over le) ∙ sym (drop_all m text le)
]

-- The whole rest of a text.
pub rest_of : (text : List ℕ) (n : ℕ) → take (length text - n) (drop n text) ≡ drop n text
rest_of text n = take_all (length text - n) (drop n text) (omega (arith, length-drop n text))

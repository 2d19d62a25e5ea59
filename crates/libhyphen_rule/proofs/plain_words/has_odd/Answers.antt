use Rattle.std.proofs.Common.{◌≡◌, ◌∙◌, ℕ, ◌+◌, ◌<◌, ◌≤◌, List, length, take, drop, get_or, false, true, nat_lt, sym, ap, arith, inl, inr, length-drop}
use Rattle.std.specs.Prelude.{slice_index}
use Rattle.std.specs.List.{list_any}
use Rattle.std.proofs.lemmas.Bool.{cases_lt}
use Rattle.std.proofs.lemmas.Bool.Decides.{nat_tests}
use Rattle.std.proofs.lemmas.List.{get_or-drop, get_or-take, length-take-le}
use Rattle.libhyphen_rule.specs.OneLevel.{is_odd}
use Rattle.libhyphen_rule.proofs.OddLanes.{any_at, none_of}
use Rattle.libhyphen_rule.proofs.plain_words.has_odd.Goals as goal

abbrev first : ℕ → List ℕ → List ℕ
first count list = take count (drop 16 list)

first_long : (count : ℕ) (list : List ℕ) → count ≤ 64 → length list ≡ 96 → length (first count list) ≡ count
first_long count list le long = length-take-le count (drop 16 list) (omega (arith, length-drop 16 list, le, long))

first_at : (count : ℕ) (list : List ℕ) (k : ℕ) → k < count → get_or (first count list) k 0 ≡ slice_index list (16 + k)
first_at count list k next_level = get_or-take count (drop 16 list) k 0 next_level ∙ get_or-drop 16 list k 0

-- All are even where those before an end at or behind the last are.
all_even : (count end : ℕ) (list : List ℕ) → count ≤ 64 → length list ≡ 96 → count ≤ end
    → ((k : ℕ) → k < end → is_odd (slice_index list (16 + k)) ≡ false) → list_any is_odd (first count list) ≡ false
all_even count end list le long behind even =
    none_of is_odd (first count list) (λ k l.
    let next_level : k < count = omega (arith, l, first_long count list le long) in
    ap is_odd (first_at count list k next_level) ∙ even k (omega (arith, next_level, behind)))

pub returns-then-even-lt16 : goal.returns-then-even-lt16
returns-then-even-lt16 c =
    let list = c.args.list.now in
    let count = c.args.count in
    let at = c.loop-at.at in
    let odd : ℕ = at + c.even_before-even.result in
    let long : length list ≡ 96 = omega arith in
    let before : (k : ℕ) → k < odd → is_odd (slice_index list (16 + k)) ≡ false =
    λ k next_level. elim (cases_lt k at) [
      | inl lt ↦ c.loop-at.invariant k lt
      | inr le ↦ c.even_before-even.ensures.before (16 + k) (omega (arith, le)) (omega (arith, next_level))
    ] in
    elim (cases_lt odd count) [
      | inl lt ↦
          let yes : nat_lt odd count ≡ true = grind (arith, nat_tests, lt) in
          let there : at + 16 + c.even_before-even.result ≡ 16 + odd = omega arith in
          let here : is_odd (get_or (first count list) odd 0) ≡ true =
          ap is_odd (first_at count list odd lt) ∙ sym (ap (λ i. is_odd (slice_index list i)) there)
          ∙ c.even_before-even.ensures.there (omega arith) in
          yes ∙ sym (any_at is_odd (first count list) odd (omega (arith, first_long count list c.requires long, lt)) here)
      | inr le ↦
          let not : nat_lt odd count ≡ false = grind (arith, nat_tests, le) in
          not ∙ sym (all_even count odd list c.requires long le before)
    ]

pub returns : goal.returns
returns c =
    let long : length c.args.list.now ≡ 96 = omega arith in
    sym (all_even c.args.count c.loop-at.at c.args.list.now c.requires long (omega arith) c.loop-at.invariant)

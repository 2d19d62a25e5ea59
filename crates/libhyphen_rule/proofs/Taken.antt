-- Items of a list that are taken away one by one.
use Rattle.std.proofs.Common.{◌≡◌, ℕ, inl, inr, ◌+◌, ◌<◌, ◌≤◌, Bool, true, false, cond, List, length, get_or, set, map, refl, sym, ap, ◌∙◌, arith}
use Rattle.std.specs.List.{range_with_len}
use Rattle.std.proofs.lemmas.Bool.{cases_eq, cases_lt}
use Rattle.std.proofs.lemmas.List.{length-set, get_or-set_same, get_or-set_other}
use Rattle.std.proofs.lemmas.List.FromFn.{fill_by_all}

module _ {X : Type 0} (goes : ℕ → Bool) (z d : X) where
  -- The items within two bounds are those that a test leaves, and the others are as they were.
  pub record Taken (old new : List X) (from to : ℕ) : Type 0 where
    pub long : length new ≡ length old
    pub within : (k : ℕ) → from ≤ k → k < to → k < length old → get_or new k d ≡ cond (goes k) z (get_or old k d)
    pub before : (k : ℕ) → k < from → get_or new k d ≡ get_or old k d
    pub behind : (k : ℕ) → to ≤ k → get_or new k d ≡ get_or old k d

  -- No item so far.
  pub taken_none : (xs : List X) (n : ℕ) → Taken xs xs n n
  taken_none xs n = record { long = refl; within = λ k le lt _. absurd (omega arith); before = λ k _. refl; behind = λ k _. refl }

  -- The next item stays.
  pub stays_next : (old new : List X) (from to : ℕ) → goes to ≡ false → Taken old new from to → Taken old new from (to + 1)
  stays_next old new from to stays t = record {
    long = t.long;
    within = λ k le lt in'. elim (cases_eq k to) [
      | inl same ↦ t.behind k (omega arith) ∙ ap (λ b. cond b z (get_or old k d)) (sym (ap goes same ∙ stays))
      | inr other ↦ t.within k le (omega arith) in'
    ];
    before = t.before;
    behind = λ k le. t.behind k (omega arith);
  }

  -- The next item goes. There may be none.
  pub goes_next : (old new : List X) (from to : ℕ) → from ≤ to → goes to ≡ true → Taken old new from to → Taken old (set new to z) from (to + 1)
  goes_next old new from to le gone t = record {
    long = length-set new to z ∙ t.long;
    within = λ k low lt in'. elim (cases_eq k to) [
      | inl same ↦ ap (λ j. get_or (set new to z) j d) same ∙ get_or-set_same new to z d (omega (arith, t.long)) ∙ ap (λ b. cond b z (get_or old k d)) (sym (ap goes same ∙ gone))
      | inr other ↦ get_or-set_other new to k z d other ∙ t.within k low (omega arith) in'
    ];
    before = λ k lt. get_or-set_other new to k z d (λ same. absurd (omega arith)) ∙ t.before k lt;
    behind = λ k low. get_or-set_other new to k z d (λ same. absurd (omega arith)) ∙ t.behind k (omega arith);
  }

  -- The item before stays.
  pub stays_before : (old new : List X) (from to : ℕ) → goes from ≡ false → Taken old new (from + 1) to → Taken old new from to
  stays_before old new from to stays t = record {
    long = t.long;
    within = λ k le lt in'. elim (cases_eq k from) [
      | inl same ↦ t.before k (omega arith) ∙ ap (λ b. cond b z (get_or old k d)) (sym (ap goes same ∙ stays))
      | inr other ↦ t.within k (omega arith) lt in'
    ];
    before = λ k lt. t.before k (omega arith);
    behind = t.behind;
  }

  -- The item before goes. There may be none.
  pub goes_before : (old new : List X) (from to : ℕ) → from < to → goes from ≡ true → Taken old new (from + 1) to → Taken old (set new from z) from to
  goes_before old new from to le gone t = record {
    long = length-set new from z ∙ t.long;
    within = λ k low lt in'. elim (cases_eq k from) [
      | inl same ↦ ap (λ j. get_or (set new from z) j d) same ∙ get_or-set_same new from z d (omega (arith, t.long)) ∙ ap (λ b. cond b z (get_or old k d)) (sym (ap goes same ∙ gone))
      | inr other ↦ get_or-set_other new from k z d other ∙ t.within k (omega arith) lt in'
    ];
    before = λ k lt. get_or-set_other new from k z d (λ same. absurd (omega arith)) ∙ t.before k (omega arith);
    behind = λ k low. get_or-set_other new from k z d (λ same. absurd (omega arith)) ∙ t.behind k low;
  }

  -- All other items stay.
  pub taken_all : (old new : List X) (from to : ℕ) → ((k : ℕ) → k < from → goes k ≡ false) → ((k : ℕ) → to ≤ k → k < length old → goes k ≡ false)
      → Taken old new from to → new ≡ map (λ k. cond (goes k) z (get_or old k d)) (range_with_len 0 (length old))
  taken_all old new from to low high t =
      let left : (k : ℕ) → goes k ≡ false → get_or new k d ≡ get_or old k d → get_or new k d ≡ cond (goes k) z (get_or old k d) =
      λ k stays is. is ∙ ap (λ b. cond b z (get_or old k d)) (sym stays) in
      fill_by_all (λ k. cond (goes k) z (get_or old k d)) new (length old) d t.long
      (λ k lt. elim (cases_lt k from) [
        | inl is ↦ left k (low k is) (t.before k is)
        | inr not_low ↦ elim (cases_lt k to) [
          | inl is ↦ t.within k not_low is lt
          | inr not_in ↦ left k (high k not_in lt) (t.behind k not_in)
        ]
      ])

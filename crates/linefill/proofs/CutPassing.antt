-- The ends to come after one more cut is passed.
use Rattle.std.proofs.Common.{◌≡◌, ℕ, ◌<◌, nat_lt, Bool, true, false, cond, List, [], ◌∷◌, ◌++◌, IsTrue, refl, sym, ap, ◌∙◌, arith, inl, inr}
use Rattle.std.specs.List.{list_any}
use Rattle.std.proofs.lemmas.Bool.{or_cases, or_left, or_right, false≢true, false_from_ne_true, cond-true, cond-false, lt-ltb, le-ltb}
use Rattle.linefill.specs.Ends.{ends}
use Rattle.linefill.specs.Private.Filling.{remaining_ends}
use Rattle.linefill.proofs.Division.{AreCutsAfter}

module _ (fits : ℕ → ℕ → Bool) where
  any_after : (start c : ℕ) (xs cs : List ℕ) → fits start c ≡ true → list_any (fits start) (xs ++ c ∷ cs) ≡ true
  any_after start c [] cs f = or_left (fits start c) (list_any (fits start) cs) f
  any_after start c (x ∷ xs) cs f = or_right (fits start x) (list_any (fits start) (xs ++ c ∷ cs)) (any_after start c xs cs f)

  -- A cut ends no line if the line fits at a later cut.
  ends_skip : (start c : ℕ) (xs cs : List ℕ) → fits start c ≡ true → ends fits start (xs ++ c ∷ cs) ≡ ends fits start (c ∷ cs)
  ends_skip start c [] cs f = refl
  ends_skip start c (x ∷ xs) cs f = cond-true (list_any (fits start) (xs ++ c ∷ cs)) _ _ (any_after start c xs cs f) ∙ ends_skip start c xs cs f

  pub coming_skip : (start end c : ℕ) (xs cs : List ℕ) → start < c → fits start c ≡ true → remaining_ends fits start end (xs ++ c ∷ cs) ≡ remaining_ends fits start c cs
  coming_skip start end c xs cs lt f =
      let there : remaining_ends fits start c cs ≡ ends fits start (c ∷ cs) = cond-true (nat_lt start c) _ _ (lt-ltb start c lt) in
      elim (nat_lt start end) as (λ b. cond b (ends fits start (end ∷ (xs ++ c ∷ cs))) (ends fits start (xs ++ c ∷ cs)) ≡ remaining_ends fits start c cs) [
        | true ↦ ends_skip start c (end ∷ xs) cs f ∙ sym there
        | false ↦ ends_skip start c xs cs f ∙ sym there
      ]

  -- The line ends at the last cut that was passed, where it fits neither at the next cut nor at a later one.
  pub coming_ends : (start end c : ℕ) (cs : List ℕ) → start < end → end < c → list_any (fits start) (c ∷ cs) ≡ false → remaining_ends fits start end (c ∷ cs) ≡ end ∷ remaining_ends fits end c cs
  coming_ends start end c cs lt next none =
      cond-true (nat_lt start end) _ _ (lt-ltb start end lt) ∙ cond-false (list_any (fits start) (c ∷ cs)) _ _ none
      ∙ ap (λ es. end ∷ es) (sym (cond-true (nat_lt end c) _ _ (lt-ltb end c next)))

  -- The first cut of a text is passed.
  pub coming_first : (start c : ℕ) (cs : List ℕ) → start < c → remaining_ends fits start start (c ∷ cs) ≡ remaining_ends fits start c cs
  coming_first start c cs lt =
      cond-false (nat_lt start start) _ _ (le-ltb start start (omega arith)) ∙ sym (cond-true (nat_lt start c) _ _ (lt-ltb start c lt))

  none_after : (is_cut : ℕ → Bool) (last start c : ℕ) (cs : List ℕ) → AreCutsAfter is_cut last c cs → ((p : ℕ) → c < p → IsTrue (is_cut p) → fits start p ≡ true → ⊥) → list_any (fits start) cs ≡ false
  none_after is_cut last start c [] h none = refl
  none_after is_cut last start c (d ∷ ds) h none =
      false_from_ne_true (list_any (fits start) (d ∷ ds)) (λ any. elim (or_cases (fits start d) (list_any (fits start) ds) any) [
        | inl f ↦ none d h.0 h.1 f
        | inr later ↦ false≢true (sym (none_after is_cut last start d ds h.3 (λ p lt. none p (omega (arith, h.0)))) ∙ later)
      ])

  -- The line fits at no later cut where it does not fit at this one, since it grows no narrower.
  pub none_fits : (is_cut : ℕ → Bool) (last start c : ℕ) (cs : List ℕ) → AreCutsAfter is_cut last c cs → ((p : ℕ) → c < p → IsTrue (is_cut p) → fits start p ≡ true → fits start c ≡ true) → fits start c ≡ false → list_any (fits start) (c ∷ cs) ≡ false
  none_fits is_cut last start c cs h wider f =
      false_from_ne_true (list_any (fits start) (c ∷ cs)) (λ any. elim (or_cases (fits start c) (list_any (fits start) cs) any) [
        | inl here ↦ false≢true (sym f ∙ here)
        | inr later ↦ false≢true (sym (none_after is_cut last start c cs h (λ p lt cut fit. false≢true (sym f ∙ wider p lt cut fit))) ∙ later)
      ])

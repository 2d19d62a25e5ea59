-- Some line has a property, by recursion on the lines, and by `Any` and `Contains` of the standard library.
use Rattle.std.proofs.Common.{◌≡◌, ℕ, zero, suc, List, [], ◌∷◌, refl, sym, subst, inl, inr, arith}
use Rattle.std.specs.Prelude.{◌⊎◌, ◌↔◌, Any, Contains, slice_index_or}

abbrev pub SomeLine : (List ℕ → Type 0) → List (List ℕ) → Type 0
SomeLine P [] = ⊥
SomeLine P (l ∷ ls) = P l ⊎ SomeLine P ls

-- Each line of the first text is in the second.
abbrev pub AllAmong : List (List ℕ) → List (List ℕ) → Type 0
AllAmong ls ms = (l : List ℕ) → SomeLine (λ m. m ≡ l) ls → SomeLine (λ m. m ≡ l) ms

pub any-some : (P : List ℕ → Type 0) (ls : List (List ℕ)) → SomeLine P ls → Any P ls
any-some P [] h = absurd h
any-some P (m ∷ ls) (inl h) = (0, m, omega arith, refl, h)
any-some P (m ∷ ls) (inr h) = let r = any-some P ls h in (suc r.0, r.1, omega (arith, r.2), r.3, r.4)

pub some-any : (P : List ℕ → Type 0) (ls : List (List ℕ)) → Any P ls → SomeLine P ls
some-any P [] h = absurd (omega (arith, h.2))
some-any P (m ∷ ls) (zero, x, lt, at, is) = inl (subst P (sym at) is)
some-any P (m ∷ ls) (suc k, x, lt, at, is) = inr (some-any P ls (k, x, omega (arith, lt), at, is))

-- Both texts have the same lines.
pub among : (ls ms : List (List ℕ)) → ((line : List ℕ) → Contains ls line ↔ Contains ms line) → AllAmong ls ms
among ls ms same l h =
    let r = any-some (λ m. m ≡ l) ls h in
    let there = (same l).0 (r.0, r.2, subst (λ (x : List ℕ). slice_index_or ls r.0 x ≡ x) r.4 r.3) in
    some-any (λ m. m ≡ l) ms (there.0, l, there.1, there.2, refl)

pub among_back : (ls ms : List (List ℕ)) → ((line : List ℕ) → Contains ls line ↔ Contains ms line) → AllAmong ms ls
among_back ls ms same = among ms ls (λ line. ((same line).1, (same line).0))

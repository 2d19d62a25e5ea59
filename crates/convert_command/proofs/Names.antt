-- The name of a file in its path.
use Rattle.std.proofs.Common.{◌≡◌, ◌≢◌, ℕ, suc, zero, ◌+◌, ◌<◌, ◌≤◌, true, false, List, [], ◌∷◌, length, drop, get_or, refl, arith}
use Rattle.std.specs.Prelude.{Option, None, Some, MatchOption, IsCharBoundary}
use Rattle.std.specs.Str.Pattern.{RFindsChar}
use Rattle.std.proofs.lemmas.Bool.Decides.{nat_tests}
use Rattle.std.proofs.lemmas.Str.Pattern.{rfind_char}
use Rattle.convert_command.specs.Tags.{has_slash, name_in}

slash_at : (path : List ℕ) (k : ℕ) → k < length path → get_or path k 0 ≡ 47 → has_slash path ≡ true
slash_at [] k lt e = absurd (omega arith)
slash_at (b ∷ path) zero lt e = grind (arith, nat_tests)
slash_at (b ∷ path) (suc k) lt e =
    let rest : has_slash path ≡ true = slash_at path k (omega arith) e in
    grind (arith, nat_tests)

no_slash : (path : List ℕ) → ((i : ℕ) → i < length path → get_or path i 0 ≢ 47) → has_slash path ≡ false
no_slash [] h = refl
no_slash (b ∷ path) h =
    let first : b ≢ 47 = h zero (omega arith) in
    let rest : has_slash path ≡ false = no_slash path (λ i lt. h (suc i) (omega arith)) in
    grind (arith, nat_tests)

whole : (path : List ℕ) → has_slash path ≡ false → name_in path ≡ path
whole [] e = refl
whole (b ∷ path) e = grind arith

after_slash : (path : List ℕ) (k : ℕ) → k < length path → get_or path k 0 ≡ 47
    → ((i : ℕ) → k < i → i < length path → get_or path i 0 ≢ 47) → name_in path ≡ drop (k + 1) path
after_slash [] k lt e after = absurd (omega arith)
after_slash (b ∷ path) zero lt e after =
    let some : has_slash (b ∷ path) ≡ true = slash_at (b ∷ path) zero lt e in
    let none : has_slash path ≡ false = no_slash path (λ i at. after (suc i) (omega arith) (omega arith)) in
    let name : name_in path ≡ path = whole path none in
    grind arith
after_slash (b ∷ path) (suc k) lt e after =
    let some : has_slash (b ∷ path) ≡ true = slash_at (b ∷ path) (suc k) lt e in
    let name : name_in path ≡ drop (k + 1) path =
    after_slash path k (omega arith) e (λ i later at. after (suc i) (omega arith) (omega arith)) in
    grind arith

-- Where the last slash stands, the name begins after it; where there is none, it is the path.
pub name_found : (path : List ℕ) (r : Option ℕ)
    → MatchOption r (RFindsChar 47 path None) (λ i. (j : ℕ) × RFindsChar 47 path (Some (i, j)) × (i ≤ j)
    × IsCharBoundary path i × IsCharBoundary path j)
    → MatchOption r (name_in path ≡ path) (λ k. (k < length path) × (name_in path ≡ drop (k + 1) path))
name_found path None h = whole path (no_slash path (rfind_char 47 path None h (omega arith)))
name_found path (Some k) h =
    let found = rfind_char 47 path (Some k) h (omega arith) in
    (found.0, after_slash path k found.0 found.1 found.2)

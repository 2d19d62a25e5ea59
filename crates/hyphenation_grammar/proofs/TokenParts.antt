-- The commas that split a token.
use Rattle.std.proofs.Common.{◌≡◌, ℕ, suc, ◌+◌, ◌-◌, ◌<◌, ◌≤◌, Bool, true, false, cond, not, ◌&&◌, eqb, nat_lt, List, [], ◌∷◌, length, take, drop, Some, None, refl, sym, ap, ◌∙◌, arith}
use Rattle.std.proofs.lemmas.Bool.Decides.{nat_tests}
use Rattle.std.proofs.lemmas.List.{take_rest}
use Rattle.std.specs.Prelude.{position, IsSome}
use Rattle.std.specs.List.{position_or_len, prefix_len, onto_first}
use Rattle.hyphenation_grammar.proofs.LinesSplit.{absent, found}
use Rattle.hyphenation_grammar.specs.Tokens.{parts_within, put_byte}

pub none_left : (text : List ℕ) → parts_within 0 text ≡ text ∷ []
none_left [] = refl
none_left (b ∷ rest) =
    elim (eqb b 44) as (λ t. put_byte (t && false) b (parts_within (cond (t && false) (0 - 1) 0) rest) ≡ (b ∷ rest) ∷ []) [
      | true ↦ ap (onto_first b) (none_left rest)
      | false ↦ ap (onto_first b) (none_left rest)
    ]

pub no_comma : (n : ℕ) (text : List ℕ) → length text ≤ position_or_len (λ b. eqb b 44) text → parts_within n text ≡ text ∷ []
no_comma n [] h = refl
no_comma n (b ∷ rest) h = by (eqb b 44) h (λ k. no_comma n rest k)
  where
    by : (t : Bool) → suc (length rest) ≤ cond (not t) (1 + prefix_len (λ x. not (eqb x 44)) rest) 0 → (length rest ≤ position_or_len (λ b. eqb b 44) rest → parts_within n rest ≡ rest ∷ [])
        → put_byte (t && nat_lt 0 n) b (parts_within (cond (t && nat_lt 0 n) (n - 1) n) rest) ≡ (b ∷ rest) ∷ []
    by true h more = absurd (omega arith)
    by false h more = ap (onto_first b) (more (omega arith))

pub at_comma : (n : ℕ) (text : List ℕ) → nat_lt 0 n ≡ true → position_or_len (λ b. eqb b 44) text < length text
    → parts_within n text ≡ take (position_or_len (λ b. eqb b 44) text) text ∷ parts_within (n - 1) (drop (suc (position_or_len (λ b. eqb b 44) text)) text)
at_comma n [] e h = absurd (omega arith)
at_comma n (b ∷ rest) e h = by (eqb b 44) h (λ k. at_comma n rest e k)
  where
    one : (k : ℕ) → 1 + k ≡ suc k
    one k = omega arith

    by : (t : Bool) → cond (not t) (1 + prefix_len (λ x. not (eqb x 44)) rest) 0 < suc (length rest)
        → (prefix_len (λ x. not (eqb x 44)) rest < length rest → parts_within n rest ≡ take (prefix_len (λ x. not (eqb x 44)) rest) rest ∷ parts_within (n - 1) (drop (suc (prefix_len (λ x. not (eqb x 44)) rest)) rest))
        → put_byte (t && nat_lt 0 n) b (parts_within (cond (t && nat_lt 0 n) (n - 1) n) rest)
        ≡ take (cond (not t) (1 + prefix_len (λ x. not (eqb x 44)) rest) 0) (b ∷ rest) ∷ parts_within (n - 1) (drop (suc (cond (not t) (1 + prefix_len (λ x. not (eqb x 44)) rest) 0)) (b ∷ rest))
    by true h more = rw e refl
    by false h more = rw (one (prefix_len (λ x. not (eqb x 44)) rest)) (ap (onto_first b) (more (omega arith)))

pub unparted : (n : ℕ) (text : List ℕ) → None ≡ position (λ b. eqb b 44) text → parts_within n text ≡ text ∷ []
unparted n text e = no_comma n text (far (absent (nat_lt (position_or_len (λ b. eqb b 44) text) (length text)) (position_or_len (λ b. eqb b 44) text) e))
  where
    far : nat_lt (position_or_len (λ b. eqb b 44) text) (length text) ≡ false → length text ≤ position_or_len (λ b. eqb b 44) text
    far e = grind (arith, nat_tests)

pub parted : (n : ℕ) (text : List ℕ) (at : ℕ) → (n ≡ 0 → ⊥) → Some at ≡ position (λ b. eqb b 44) text
    → (0 < n) × (parts_within n text ≡ take at text ∷ parts_within (n - 1) (take (length text - (at + 1)) (drop (at + 1) text)))
parted n text at h e =
    let f = found (nat_lt (position_or_len (λ b. eqb b 44) text) (length text)) (position_or_len (λ b. eqb b 44) text) at e in (
      omega arith,
      at_comma n text (some_left h) (near f.0) ∙ (λ i. take (sym f.1 i) text ∷ parts_within (n - 1) (drop (suc (sym f.1 i)) text)) ∙ ap (λ (k : ℕ). take at text ∷ parts_within (n - 1) (drop k text)) (next at)
          ∙ ap (λ (xs : List ℕ). take at text ∷ parts_within (n - 1) xs) (sym (take_rest text (at + 1))),
    )
  where
    some_left : (n ≡ 0 → ⊥) → nat_lt 0 n ≡ true
    some_left h = grind (arith, nat_tests)

    near : nat_lt (position_or_len (λ b. eqb b 44) text) (length text) ≡ true → position_or_len (λ b. eqb b 44) text < length text
    near e = grind (arith, nat_tests)

    next : (k : ℕ) → suc k ≡ k + 1
    next k = omega arith

some_first : (b : ℕ) (parts : List (List ℕ)) → 0 < length (onto_first b parts)
some_first b [] = omega arith
some_first b (p ∷ ps) = omega arith

some_part : (n : ℕ) (text : List ℕ) → 0 < length (parts_within n text)
some_part n [] = omega arith
some_part n (b ∷ rest) = by (eqb b 44 && nat_lt 0 n)
  where
    by : (t : Bool) → 0 < length (put_byte t b (parts_within (cond t (n - 1) n) rest))
    by true = omega arith
    by false = some_first b (parts_within n rest)

pub two_parts : (n : ℕ) (token : List ℕ) → nat_lt 0 n ≡ true → IsSome (position (λ b. eqb b 44) token) → 1 < length (parts_within n token)
two_parts n token e h =
    let at = position_or_len (λ b. eqb b 44) token in
    let is = at_comma n token e (near (nat_lt at (length token)) refl h) in
    omega (arith, ap length is, some_part (n - 1) (drop (suc at) token))
  where
    below : nat_lt (position_or_len (λ b. eqb b 44) token) (length token) ≡ true → position_or_len (λ b. eqb b 44) token < length token
    below e = grind (arith, nat_tests)

    near : (t : Bool) → nat_lt (position_or_len (λ b. eqb b 44) token) (length token) ≡ t → IsSome (cond t (Some (position_or_len (λ b. eqb b 44) token)) None) → position_or_len (λ b. eqb b 44) token < length token
    near true e h = below e
    near false e h = absurd cc

-- Places that are passed one by one.
use Rattle.std.proofs.Common.{◌≡◌, ℕ, ◌+◌, ◌-◌, ◌<◌, ◌≤◌, Bool, true, false, not, List, drop, get_or, refl, ap, ◌∙◌, subst, arith, inl, inr}
use Rattle.std.proofs.lemmas.Bool.{cases_lt}
use Rattle.std.proofs.lemmas.List.{get_or-drop}
use Rattle.memchr.specs.Find.{Nowhere, Passes, is_byte2}
use Rattle.html_pieces.specs.Laws.{ends_text}
use Rattle.html_pieces.specs.Private.Quiet.{is_quiet, AreAlphanumeric, AreQuiet, AreOthers}
use Rattle.html_pieces.specs.declared.tokenizer.State.TheVariants.{Data}
use Rattle.html_pieces.specs.declared.tokenizer.State.{State}

pub none_passed : (state : State) (bytes : List ℕ) → AreQuiet state bytes 0 0
none_passed state bytes = λ k l u. absurd (omega (arith, l, u))

pub none_before : (stop : ℕ) (bytes : List ℕ) → AreOthers stop bytes 0 0
none_before stop bytes = λ k l u. absurd (omega (arith, l, u))

pub none_alphanumeric : (bytes : List ℕ) → AreAlphanumeric bytes 0 0
none_alphanumeric bytes = λ k l u. absurd (omega (arith, l, u))

not_of : (c : Bool) → ¬ (c ≡ true) → not c ≡ true
not_of true h = absurd (h refl)
not_of false h = refl

-- Where no byte up to a place ends a text, all leave it.
pub quiet_up_to : (bytes : List ℕ) (n : ℕ) → Nowhere (Passes (is_byte2 60 38) bytes) 0 n → AreQuiet Data bytes 0 n
quiet_up_to bytes n none = λ k l u. not_of (ends_text (get_or bytes k 0)) (none k (omega arith) u)

-- Bytes after a place that leave a state do so in the whole.
pub quiet_from : (state : State) (bytes rest : List ℕ) (from n : ℕ) → rest ≡ drop from bytes → AreQuiet state rest 0 n → AreQuiet state bytes from (from + n)
quiet_from state bytes rest from n same quiet = λ k l u.
    let byte : get_or rest (k - from) 0 ≡ get_or bytes k 0 =
    ap (λ xs. get_or xs (k - from) 0) same ∙ get_or-drop from bytes (k - from) 0 ∙ ap (λ i. get_or bytes i 0) (omega (arith, l)) in
    subst (λ b. is_quiet state b ≡ true) byte (quiet (k - from) (omega arith) (omega (arith, l, u)))

pub one_more : (test : ℕ → Bool) (from i : ℕ) → ((k : ℕ) → from ≤ k → k < i → test k ≡ true) → test i ≡ true → (k : ℕ) → from ≤ k → k < i + 1 → test k ≡ true
one_more test from i before here k l u =
    elim (cases_lt k i) [
      | inl less ↦ before k l less
      | inr more ↦
          let same : i ≡ k = omega (arith, u, more) in
          subst (λ n. test n ≡ true) same here
    ]

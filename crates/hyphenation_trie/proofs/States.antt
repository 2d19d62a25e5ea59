-- Facts read from the states of nodes.
use Rattle.std.proofs.Common.{◌≡◌, ◌≢◌, ℕ, zero, suc, ◌-◌, ◌^◌, ◌<◌, true, false, cond, List, [], ◌∷◌, length, map, get_or, Option, Some, None, refl, sym, ap, ◌∙◌, arith}
use Rattle.std.specs.Prelude.{◌==◌, IsSome, not}
use Rattle.std.proofs.lemmas.Bool.{cond-true, cond-false, true≢false}
use Rattle.std.proofs.lemmas.List.{length-map, get_or-map}
use Rattle.hyphenation_trie.specs.Private.States.{is_key, span_in}
use Rattle.hyphenation_trie.specs.Private.Trie.{entries_there, IsWithin, AreWithin}
use Rattle.hyphenation_trie.specs.declared.state.Span.{Span}
use Rattle.hyphenation_trie.specs.declared.state.State.{State}

-- ---- facts read from a state

pub span_of_state : (states : List State) (node : ℕ) (s : State) → node < length states → s ≡ get_or states node s → get_or (map span_in states) node None ≡ span_in s
span_of_state states node s lt read = get_or-map span_in states node s None lt ∙ ap span_in (sym read)

pub entries_of_state : {E : Type 0} (es : List E) (states : List State) (node : ℕ) (s : State) → node < length states → s ≡ get_or states node s → get_or (map (entries_there es) (map span_in states)) node None ≡ entries_there es (span_in s)
entries_of_state es states node s lt read = get_or-map (entries_there es) (map span_in states) node None None (omega (arith, length-map states span_in)) ∙ ap (entries_there es) (span_of_state states node s lt read)

pub span_of_key : (s : State) → is_key s ≡ true → span_in s ≡ Some s.span
span_of_key s e = cond-true (is_key s) (Some s.span) None e

pub span_of_none : (s : State) → is_key s ≡ false → span_in s ≡ None
span_of_none s e = cond-false (is_key s) (Some s.span) None e

-- a state that has entries is a key's
pub span_of_entries : {E : Type 0} (es : List E) (s : State) → IsSome (entries_there es (span_in s)) → span_in s ≡ Some s.span
span_of_entries es s some =
    elim (is_key s) as (λ t. IsSome (entries_there es (cond t (Some s.span) None)) → cond t (Some s.span) None ≡ Some s.span) [
      | true ↦ λ h. refl
      | false ↦ λ h. absurd cc
    ] some

-- the span of a state with entries begins at a start
pub start_of_entries : {E : Type 0} (es : List E) (s : State) → IsSome (entries_there es (span_in s)) → s.span.start ≢ 2 ^ 32 - 1
start_of_entries es s some =
    elim (is_key s) as (λ t. IsSome (entries_there es (cond t (Some s.span) None)) → is_key s ≡ t → s.span.start ≢ 2 ^ 32 - 1) [
      | true ↦ λ h e is. true≢false (sym e ∙ ap (λ (n : ℕ). not (n == 2 ^ 32 - 1)) is)
      | false ↦ λ h. absurd cc
    ] some refl

-- ---- as made

pub spans_within : (bound : ℕ) (spans : List (Option Span)) → AreWithin bound spans → (i : ℕ) → IsWithin bound (get_or spans i None)
spans_within bound [] h i = tt
spans_within bound (n ∷ ns) h zero = h.0
spans_within bound (n ∷ ns) h (suc i) = spans_within bound ns h.1 i

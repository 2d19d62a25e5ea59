-- There are no keys if the longest key has no byte.
use Rattle.std.proofs.Common.{◌≡◌, ℕ, List, Option, Some, None, refl, sym, subst, arith}
use Rattle.std.specs.Prelude.{IsSome}
use Rattle.std.proofs.lemmas.List.{nil_from_length}
use Rattle.hyphenation_breaks.specs.Break.{Break, Change}
use Rattle.hyphenation_breaks.specs.Dictionary.{Contents, entries_of_keys, longest_key}
use Rattle.hyphenation_breaks.specs.Invariant.{IsDictionary}
use Rattle.hyphenation_breaks.specs.declared.entry.Entry.{Entry}
use Rattle.hyphenation_score.proofs.Longest.{no_longer}

pub none_at_all : {C B : Type 0} (change_of : C → Option Change) (break_of : B → Break) (contents : Contents C B) → IsDictionary change_of break_of contents → longest_key contents ≡ 0 → (q : List ℕ) → entries_of_keys contents q ≡ None
none_at_all {C} change_of break_of contents kept zero_is q =
    elim (entries_of_keys contents q) as (λ o. entries_of_keys contents q ≡ o → o ≡ None) [
      | None ↦ λ is. refl
      | Some es ↦ λ is.
          let some : IsSome (entries_of_keys contents q) = subst (λ (o : Option (List (Entry C))). IsSome o) (sym is) refl in
          let nil = nil_from_length q (omega (arith, no_longer contents q some)) in
          let letter = (kept.patterns q es is).letter in
          let bad = rw nil at letter in
          absurd cc
    ] refl

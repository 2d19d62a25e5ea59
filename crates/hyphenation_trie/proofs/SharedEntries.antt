-- Entries that several nodes have in common.
use Rattle.std.proofs.Common.{◌≡◌, ◌≢◌, ◌-◌, ◌^◌, ℕ, zero, suc, ◌<◌, ◌≤◌, List, [], ◌∷◌, length, map, get_or, set, Option, Some, None, refl, sym, ap, subst, ◌∙◌, arith}
use Rattle.std.specs.Prelude.{IsSome, unwrap_or}
use Rattle.std.proofs.lemmas.List.{length-map, map-set}
use Rattle.hyphenation_trie.specs.Private.States.{span_in}
use Rattle.hyphenation_trie.specs.Private.Trie.{tree_of, texts_of, with_entries, entries_there}
use Rattle.hyphenation_trie.specs.Trie.{Tree, IsTrie, node_text, entries_of_key, KeepsNodes}
use Rattle.hyphenation_trie.specs.declared.state.Span.{Span}
use Rattle.hyphenation_trie.specs.declared.state.State.{State}
use Rattle.hyphenation_trie.proofs.States.{entries_of_state, span_of_entries, start_of_entries}
use Rattle.hyphenation_trie.proofs.TrieNodes.{entries_at-here}

-- a list has an element only before its end
pub has_some : {X : Type 0} (os : List (Option X)) (i : ℕ) (x : X) → get_or os i None ≡ Some x → i < length os
has_some [] i x is = absurd cc
has_some (o ∷ os) zero x is = omega arith
has_some (o ∷ os) (suc i) x is = let lt = has_some os i x is in omega (arith, lt)

-- past the end of a list there is nothing
pub none_past : {X : Type 0} (os : List (Option X)) (i : ℕ) → length os ≤ i → get_or os i None ≡ None
none_past [] i le = refl
none_past (o ∷ os) zero le = absurd (omega arith)
none_past (o ∷ os) (suc i) le = none_past os i (omega arith)

-- a node with entries has a state
pub state_there : {E : Type 0} (es : List E) (states : List State) (i : ℕ) (xs : List E) → get_or (map (entries_there es) (map span_in states)) i None ≡ Some xs → i < length states
state_there es states i xs is = omega (arith, has_some (map (entries_there es) (map span_in states)) i xs is, length-map (map span_in states) (entries_there es), length-map states span_in)

-- the span of a node with entries
pub span_there : {E : Type 0} (es : List E) (states : List State) (i : ℕ) (s : State) (xs : List E) → s ≡ get_or states i s → get_or (map (entries_there es) (map span_in states)) i None ≡ Some xs
    → (span_in s ≡ Some s.span) × (entries_there es (Some s.span) ≡ Some xs)
span_there {E} es states i s xs read is =
    let here : entries_there es (span_in s) ≡ Some xs = sym (entries_of_state es states i s (state_there es states i xs is) read) ∙ is in
    let span = span_of_entries es s (subst (λ (o : Option (List E)). IsSome o) (sym here) refl) in
    (span, ap (entries_there es) (sym span) ∙ here)

-- the span of a node with entries begins at a start
pub span_starts : {E : Type 0} (es : List E) (states : List State) (i : ℕ) (s : State) (xs : List E) → s ≡ get_or states i s → get_or (map (entries_there es) (map span_in states)) i None ≡ Some xs
    → s.span.start ≢ 2 ^ 32 - 1
span_starts {E} es states i s xs read is =
    let here : entries_there es (span_in s) ≡ Some xs = sym (entries_of_state es states i s (state_there es states i xs is) read) ∙ is in
    start_of_entries es s (subst (λ (o : Option (List E)). IsSome o) (sym here) refl)

-- a node keeps its entries while nodes are added
pub entries_stay : {E : Type 0} (old mid : Tree E) (i : ℕ) (xs : List E) → IsTrie old → IsTrie mid → ((q : List ℕ) → entries_of_key mid q ≡ entries_of_key old q) → KeepsNodes old mid
    → get_or old.entries i None ≡ Some xs → get_or mid.entries i None ≡ Some xs
entries_stay old mid i xs trie more keys nodes is =
    let lt : i < length old.texts = omega (arith, has_some old.entries i xs is, trie.lengths) in
    let stays = nodes i lt in
    sym (entries_at-here mid.texts mid.entries i more.distinct more.lengths stays.0)
    ∙ ap (entries_of_key mid) stays.1
    ∙ keys (node_text old i)
    ∙ entries_at-here old.texts old.entries i trie.distinct trie.lengths lt
    ∙ is

-- a node gets the entries of a span
pub seen-shared : {E : Type 0} (froms : List (Option (ℕ × ℕ))) (spans : List (Option Span)) (es xs : List E) (i : ℕ) (span : Span) (now : Option Span) → now ≡ Some span → entries_there es (Some span) ≡ Some xs
    → tree_of froms (set spans i now) es ≡ with_entries (tree_of froms spans es) i xs
seen-shared {E} froms spans es xs i span now is there =
    let news : map (entries_there es) (set spans i now) ≡ set (map (entries_there es) spans) i (Some xs) =
    map-set (entries_there es) spans i now ∙ ap (λ (o : Option (List E)). set (map (entries_there es) spans) i o) (ap (entries_there es) is ∙ there) in
    λ k. record { texts = texts_of froms; entries = news k }

-- a value that is there
pub some_is : {X : Type 0} (o : Option (List X)) → IsSome o → o ≡ Some (unwrap_or o [])
some_is None h = absurd cc
some_is (Some x) h = refl

pub some_there : {X : Type 0} (o : Option (List X)) (xs : List X) → o ≡ Some xs → IsSome o
some_there {X = X} o xs is = subst (λ (x : Option (List X)). IsSome x) (sym is) refl

-- The lists of a growing trie hold a trie.
use Rattle.std.proofs.Common.{◌≡◌, ℕ, ◌<◌, ◌≤◌, List, [], ◌∷◌, ◌++◌, length, map, set, Option, Some, None, sym, ap, subst, ◌∙◌, arith}
use Rattle.std.proofs.lemmas.List.{length-map, length-append, length-set, map_push, map-set}
use Rattle.hyphenation_trie.specs.Private.Growing.{IsGrowing}
use Rattle.hyphenation_trie.specs.Private.Links.{parent_of, HasParents}
use Rattle.hyphenation_trie.specs.Private.States.{IsHeld, froms_by, texts_by, span_in}
use Rattle.hyphenation_trie.specs.Private.Trie.{tree_of, texts_of, with_child, AreWithin, IsWithin}
use Rattle.hyphenation_trie.specs.Trie.{IsTrie}
use Rattle.hyphenation_trie.specs.declared.state.Span.{Span}
use Rattle.hyphenation_trie.specs.declared.state.State.{State}
use Rattle.hyphenation_trie.proofs.FrozenTrie.{length-froms_by, froms_by-push, first-push, has_parents}
use Rattle.hyphenation_trie.proofs.TrieNodes.{IsTrie-seen, seen-grown, length-texts_of, all_within-more, all_within-push, all_within-set}

pub trie_held : {E : Type 0} (parents bytes : List ℕ) (states : List State) (lasts befores : List ℕ) (es : List E) → IsHeld parents bytes states lasts befores (length es)
    → IsTrie (tree_of (froms_by parents bytes) (map span_in states) es)
trie_held parents bytes states lasts befores es held =
    IsTrie-seen (froms_by parents bytes) (map span_in states) es lasts befores (length-map states span_in ∙ held.states_of ∙ sym (length-froms_by parents bytes held.parents_from held.bytes_of)) held.growing

-- a node of the trie has a parent, a byte and a state
pub node_held : (parents bytes : List ℕ) (states : List State) (lasts befores : List ℕ) (bound i : ℕ) → IsHeld parents bytes states lasts befores bound → i < length (texts_of (froms_by parents bytes))
    → (i < length parents) × (i < length bytes) × (i < length states) × (i < length (froms_by parents bytes)) × (i < length lasts)
node_held parents bytes states lasts befores bound i held lt =
    let count = length-froms_by parents bytes held.parents_from held.bytes_of in
    let froms = length-texts_of (froms_by parents bytes) in
    (omega arith, omega (arith, held.bytes_of), omega (arith, held.states_of), omega arith, omega (arith, held.growing.nodes))

pub count_is : (parents bytes : List ℕ) (states : List State) (lasts befores : List ℕ) (bound n : ℕ) → IsHeld parents bytes states lasts befores bound → n ≡ length states
    → (n ≡ length (froms_by parents bytes)) × (n ≡ length befores)
count_is parents bytes states lasts befores bound n held e =
    let froms = length-froms_by parents bytes held.parents_from held.bytes_of in
    (omega (arith, froms, held.states_of), omega (arith, froms, held.states_of, held.growing.chained.lengths, length-map (froms_by parents bytes) parent_of))

-- one node more keeps it held
pub held_more : (parents bytes : List ℕ) (states : List State) (lasts befores lasts' befores' : List ℕ) (bound i b : ℕ) (s : State) → IsHeld parents bytes states lasts befores bound
    → IsGrowing (froms_by parents bytes ++ Some (i, b) ∷ []) lasts' befores'
    → span_in s ≡ None
    → IsHeld (parents ++ i ∷ []) (bytes ++ b ∷ []) (states ++ s ∷ []) lasts' befores' bound
held_more parents bytes states lasts befores lasts' befores' bound i b s held grown none = record {
  parents_from = first-push parents i held.parents_from;
  bytes_from = first-push bytes b held.bytes_from;
  bytes_of = omega (arith, length-append bytes (b ∷ []), length-append parents (i ∷ []), held.bytes_of);
  states_of = omega (arith, length-append states (s ∷ []), length-append parents (i ∷ []), held.states_of);
  growing = subst (λ (fs : List (Option (ℕ × ℕ))). IsGrowing fs lasts' befores') (sym (froms_by-push parents bytes i b held.parents_from held.bytes_from held.bytes_of)) grown;
  within = subst (AreWithin bound) (sym (map_push span_in states s ∙ ap (λ o. map span_in states ++ o ∷ []) none)) (all_within-push bound (map span_in states) None held.within tt);
}

-- a state whose entries are set, and more entries, keep it held
pub held_set : (parents bytes : List ℕ) (states : List State) (lasts befores : List ℕ) (bound more i : ℕ) (s : State) → bound ≤ more → IsHeld parents bytes states lasts befores bound
    → IsWithin more (span_in s) → IsHeld parents bytes (set states i s) lasts befores more
held_set parents bytes states lasts befores bound more i s le held is = record {
  parents_from = held.parents_from;
  bytes_from = held.bytes_from;
  bytes_of = held.bytes_of;
  states_of = length-set states i s ∙ held.states_of;
  growing = held.growing;
  within = subst (AreWithin more) (sym (map-set span_in states i s)) (all_within-set more (map span_in states) i (span_in s) (all_within-more bound more (map span_in states) le held.within) is);
}

pub tree_more : {E : Type 0} (parents bytes : List ℕ) (states : List State) {lasts befores : List ℕ} {bound : ℕ} (es : List E) (i b : ℕ) (s : State) → IsHeld parents bytes states lasts befores bound → span_in s ≡ None
    → tree_of (froms_by (parents ++ i ∷ []) (bytes ++ b ∷ [])) (map span_in (states ++ s ∷ [])) es ≡ with_child (tree_of (froms_by parents bytes) (map span_in states) es) i b
tree_more parents bytes states {lasts} {befores} {bound} es i b s held none =
    let froms = froms_by-push parents bytes i b held.parents_from held.bytes_from held.bytes_of in
    let spans : map span_in (states ++ s ∷ []) ≡ map span_in states ++ None ∷ [] = map_push span_in states s ∙ ap (λ o. map span_in states ++ o ∷ []) none in
    ap (λ (fs : List (Option (ℕ × ℕ))). tree_of fs (map span_in (states ++ s ∷ [])) es) froms ∙ ap (λ (ss : List (Option Span)). tree_of (froms_by parents bytes ++ Some (i, b) ∷ []) ss es) spans ∙ seen-grown (froms_by parents bytes) (map span_in states) es i b

-- ---- parents

pub parents_held : (parents bytes : List ℕ) (states : List State) (lasts befores : List ℕ) (bound : ℕ) → IsHeld parents bytes states lasts befores bound → HasParents (texts_by parents bytes) parents bytes
parents_held parents bytes states lasts befores bound held = has_parents parents bytes held.parents_from held.bytes_from held.bytes_of held.growing.from

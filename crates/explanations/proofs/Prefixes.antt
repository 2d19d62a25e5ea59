-- The texts of nodes on the way from a start: each beginning of a node's text is the text of a node.
use Rattle.std.proofs.Common.{◌≡◌, ℕ, zero, suc, ◌+◌, ◌-◌, ◌<◌, ◌≤◌, List, [], ◌∷◌, ◌++◌, length, take, drop, slice_index, Option, Some, None, refl, sym, ap, subst, ◌∙◌, arith, inl, inr, slice_range, IsSome}
use Rattle.std.proofs.lemmas.Bool.{cases_lt}
use Rattle.std.proofs.lemmas.List.{length-append, length-take, take_all, take-append-le, take-take}
use Rattle.std.proofs.lemmas.List.Edits.{between_more, length-between}
use Rattle.hyphenation_breaks.specs.declared.entry.Entry.{Entry}
use Rattle.hyphenation_trie.specs.Laws.{KeysHaveNodes}
use Rattle.hyphenation_trie.specs.Links.{EndsWith, IsLongest, IsReport}
use Rattle.hyphenation_trie.specs.Trie.{Tree, node_text, entries_of_key, IsTrie, EachBeginsKey}
use Rattle.explanations.specs.Rows.{NoKeyIsLonger}

-- Only the root has an empty text.
pub not_root : {E : Type 0} (tree : Tree E) → IsTrie tree → (j : ℕ) → 0 < length (node_text tree j) → 0 < j
not_root tree trie zero h = absurd (omega (arith, ap length trie.root))
not_root tree trie (suc j) h = omega arith

-- A beginning of a node's text, with so many bytes less, is the text of a node.
beginning_node : {E : Type 0} (tree : Tree E) → IsTrie tree → (less j n : ℕ) → j < length tree.texts → n + less ≡ length (node_text tree j)
    → (i : ℕ) × (i < length tree.texts) × (node_text tree i ≡ take n (node_text tree j))
beginning_node tree trie zero j n lt e = (j, lt, sym (take_all n (node_text tree j) (omega arith)))
beginning_node tree trie (suc less) j n lt e =
    let up = trie.closed j (not_root tree trie j (omega arith)) lt in
    let long : length (node_text tree j) ≡ length (node_text tree up.0) + 1 = omega (arith, ap length up.3, length-append (node_text tree up.0) (up.1 ∷ [])) in
    let found = beginning_node tree trie less up.0 n up.2 (omega arith) in
    (found.0, found.1, found.2 ∙ sym (take-append-le n (node_text tree up.0) (up.1 ∷ []) (omega arith)) ∙ ap (take n) (sym up.3))

-- A text ends with itself.
ends_itself : (t : List ℕ) → EndsWith t t
ends_itself t =
    let zero_is : length t - length t ≡ 0 = omega arith in
    (omega arith, ap (λ (k : ℕ). drop k t) zero_is)

-- A beginning of a range from a start is a shorter range.
range_beginning : (text : List ℕ) (start end later : ℕ) → end ≤ later → take (end - start) (slice_range text start later) ≡ slice_range text start end
range_beginning text start end later le = take-take (end - start) (later - start) (drop start text) (omega arith)

-- The text that the longest node ends is not a node's, so no longer text from the start is a key.
pub no_longer_key : {E : Type 0} (tree : Tree E) → IsTrie tree → KeysHaveNodes E → (text : List ℕ) (start end node : ℕ) → start ≤ end → end ≤ length text
    → IsLongest tree.texts (slice_range text start end) node → length (node_text tree node) < end - start
    → (later : ℕ) → end ≤ later → later ≤ length text → entries_of_key tree (slice_range text start later) ≡ None
no_longer_key {E} tree trie nodes text start end node order inside longest short later le within =
    elim (entries_of_key tree (slice_range text start later)) as (λ o. entries_of_key tree (slice_range text start later) ≡ o → o ≡ None) [
      | None ↦ λ is. refl
      | Some es ↦ λ is.
          let found = nodes tree (slice_range text start later) (subst (λ (o : Option (List E)). IsSome o) (sym is) refl) in
          let long : length (node_text tree found.0) ≡ later - start = ap length found.2 ∙ length-between text start later within in
          let first = beginning_node tree trie (later - end) found.0 (end - start) found.1 (omega arith) in
          let text_is : node_text tree first.0 ≡ slice_range text start end = first.2 ∙ ap (take (end - start)) found.2 ∙ range_beginning text start end later le in
          let most = longest.most first.0 first.1 (subst (λ (x : List ℕ). EndsWith (slice_range text start end) x) (sym text_is) (ends_itself (slice_range text start end))) in
          absurd (omega (arith, ap length text_is, length-between text start end inside))
    ] refl

-- The longest node that ends a text has the text itself, if it is as long.
pub whole_text : {E : Type 0} (tree : Tree E) (t : List ℕ) (node : ℕ) → IsLongest tree.texts t node → length t ≤ length (node_text tree node) → node_text tree node ≡ t
whole_text tree t node longest le =
    let zero_is : length t - length (node_text tree node) ≡ 0 = omega arith in
    sym longest.ends.1 ∙ ap (λ (k : ℕ). drop k t) zero_is

-- One more byte of the text.
pub range_more : (text : List ℕ) (start end byte : ℕ) → start ≤ end → end < length text → byte ≡ slice_index text end → slice_range text start end ++ byte ∷ [] ≡ slice_range text start (end + 1)
range_more text start end byte order lt is = ap (λ b. slice_range text start end ++ b ∷ []) is ∙ sym (between_more text start end 0 order lt)

-- A node that is its own report has a key; any other node has none.
pub own_report : {E : Type 0} (tree : Tree E) → IsTrie tree → (node report : ℕ) → 0 < length (node_text tree node) → report ≡ node → IsReport tree (node_text tree node) report → IsSome (entries_of_key tree (node_text tree node))
own_report tree trie node report pos same is =
    let at = is.key (omega (arith, not_root tree trie node pos)) in
    subst (λ (k : ℕ). IsSome (entries_of_key tree (node_text tree k))) same at

pub other_report : {E : Type 0} (tree : Tree E) → IsTrie tree → (node report : ℕ) → node < length tree.texts → (report ≡ node → ⊥) → IsReport tree (node_text tree node) report → entries_of_key tree (node_text tree node) ≡ None
other_report tree trie node report lt other is =
    let t : List ℕ = node_text tree node in
    elim (cases_lt (length (node_text tree report)) (length t)) [
      | inl less ↦ is.none 0 (omega arith)
      | inr le ↦
          let zero_is : length t - length (node_text tree report) ≡ 0 = omega arith in
          let text_is : node_text tree report ≡ t = sym is.ends.1 ∙ ap (λ (k : ℕ). drop k t) zero_is in
          absurd (other (trie.distinct report node is.within lt text_is))
    ]

-- The text of a node is no longer than the longest key.
pub node_within : {C : Type 0} (tree : Tree (Entry C)) → IsTrie tree → EachBeginsKey tree → (longest node : ℕ) → NoKeyIsLonger (entries_of_key tree) longest → node < length tree.texts → length (node_text tree node) ≤ longest
node_within tree trie begins longest zero none lt = omega (arith, ap length trie.root)
node_within tree trie begins longest (suc node) none lt =
    let key = begins (suc node) (omega arith) lt in
    omega (arith, none key.0 key.1, ap length key.2, length-take (length (node_text tree (suc node))) key.0)

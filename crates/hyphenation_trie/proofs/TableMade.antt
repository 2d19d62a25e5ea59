-- How a table of steps is made of an automaton: from rows of nodes and what is known of them to a table of keys.
use Rattle.std.proofs.Common.{◌≡◌, ℕ, ◌+◌, ◌-◌, ◌*◌, ◌<◌, ◌≤◌, List, [], ◌∷◌, ◌++◌, length, drop, map, Option, Some, None, refl, sym, ap, subst, ◌∙◌, arith, inl, inr}
use Rattle.std.specs.Prelude.{IsSome, slice_index, slice_index_or}
use Rattle.std.proofs.lemmas.Bool.{cases_eq}
use Rattle.std.proofs.lemmas.List.{length-append, length-drop, length-map, get_or-map, append_assoc, append-nil}
use Rattle.hyphenation_breaks.specs.Ranks.{greatest_rank}
use Rattle.hyphenation_breaks.specs.declared.entry.Entry.{Entry}
use Rattle.hyphenation_trie.specs.Cells.{number_in, place_in}
use Rattle.hyphenation_trie.specs.Links.{EndsWith}
use Rattle.hyphenation_trie.specs.Private.Known.{AreKnown}
use Rattle.hyphenation_trie.specs.Steps.{AreStepsBy, HasChild, IsCellTo, IsLongestInner, cell_at}
use Rattle.hyphenation_trie.specs.Tables.{IsStepTo, IsTable, IsTail}
use Rattle.hyphenation_trie.specs.Trie.{Tree, node_text, entries_of_key, IsTrie}
use Rattle.hyphenation_trie.specs.Vectors.{AreNear, AreNearEntries, IsVector}
use Rattle.hyphenation_trie.specs.declared.table.Table.{Table}
use Rattle.hyphenation_trie.proofs.KeyNodes.{node_of_key}
use Rattle.hyphenation_trie.proofs.Tails.{Ends-drop, entries_same, count_same, none_longer}
use Rattle.hyphenation_trie.proofs.TrieNodes.{last_same}

-- a node's text without its last byte is the text of a node
text_above : {E : Type 0} (tree : Tree E) → IsTrie tree → (t : List ℕ) (b k : ℕ) → k < length tree.texts → node_text tree k ≡ t ++ b ∷ [] → (i : ℕ) × (i < length tree.texts) × (node_text tree i ≡ t)
text_above tree trie t b k lt e =
    let long : length (node_text tree k) ≡ length t + 1 = ap length e ∙ length-append t (b ∷ []) in
    elim (cases_eq k 0) [
      | inl is ↦ absurd (omega (arith, long, ap (λ (j : ℕ). length (node_text tree j)) is, ap length trie.root))
      | inr apart ↦
          let from = trie.closed k (omega arith) lt in
          (from.0, from.2, (last_same (node_text tree from.0) t from.1 b (sym from.3 ∙ e)).0)
    ]

-- the beginning of a node's text is the text of a node
prefix_node : {E : Type 0} (tree : Tree E) → IsTrie tree → (rest t : List ℕ) (k : ℕ) → k < length tree.texts → node_text tree k ≡ t ++ rest → (i : ℕ) × (i < length tree.texts) × (node_text tree i ≡ t)
prefix_node tree trie [] t k lt e = (k, lt, e ∙ append-nil t)
prefix_node tree trie (b ∷ rest) t k lt e =
    let up = prefix_node tree trie rest (t ++ b ∷ []) k lt (e ∙ sym (append_assoc t (b ∷ []) rest)) in
    text_above tree trie t b up.0 up.1 up.2

-- Among the nodes with children whose texts end a text, the node is the one with the longest.
module _ {E : Type 0} (tree : Tree (Entry E)) (trie : IsTrie tree) (text : List ℕ) (node : ℕ) (longest : IsLongestInner tree text node) where
  -- so no node with children has a longer end of the text,
  no_longer : (d i : ℕ) → d < length text - length (node_text tree node) → i < length tree.texts → node_text tree i ≡ drop d text → HasChild tree i → ⊥
  no_longer d i low lt is child =
      let most = longest.most i lt child (subst (λ (x : List ℕ). EndsWith text x) (sym is) (Ends-drop text d (omega arith))) in
      omega (arith, most, low, ap length is, length-drop d text)

  no_child : (d byte k : ℕ) → d < length text - length (node_text tree node) → k < length tree.texts → node_text tree k ≡ drop d text ++ byte ∷ [] → ⊥
  no_child d byte k low lt is =
      let i = text_above tree trie (drop d text) byte k lt is in
      no_longer d i.0 low i.1 i.2 (k, byte, lt, is ∙ ap (λ (x : List ℕ). x ++ byte ∷ []) (sym i.2))

  -- and no node has a text that is longer still
  no_node : (d byte : ℕ) (rest : List ℕ) (k : ℕ) → d < length text - length (node_text tree node) → k < length tree.texts → node_text tree k ≡ drop d text ++ byte ∷ rest → ⊥
  no_node d byte rest k low lt is =
      let up = prefix_node tree trie rest (drop d text ++ byte ∷ []) k lt (is ∙ sym (append_assoc (drop d text) (byte ∷ []) rest)) in
      no_child d byte up.0 low up.1 up.2

  -- the node's text is a tail
  inner_tail : IsTail (entries_of_key tree) text (node_text tree node)
  inner_tail = record {
    ends = longest.ends;
    none = λ d low byte rest.
        let key : List ℕ = drop d text ++ byte ∷ rest in
        elim (entries_of_key tree key) as (λ o. entries_of_key tree key ≡ o → o ≡ None) [
          | None ↦ λ is. refl
          | Some es ↦ λ is.
              let n = node_of_key tree.texts tree.entries key (subst (λ (o : Option (List (Entry E))). IsSome o) (sym is) refl) in
              absurd (no_node d byte rest n.0 low n.1 n.2)
        ] refl;
  }

-- the entries of all keys are near
all_near : {C : Type 0} (rank : C → ℕ → ℕ) (tree : Tree (Entry C)) (numbers : List ℕ) (vectors : List (List ℕ)) (counts : List ℕ) → AreKnown rank tree numbers vectors counts → AreNear (entries_of_key tree)
all_near {C} rank tree numbers vectors counts known = λ text entries long is.
    let n = node_of_key tree.texts tree.entries text (subst (λ (o : Option (List (Entry C))). IsSome o) (sym is) refl) in
    let here = (known.each n.0 n.1).known in
    subst (λ (t : List ℕ). AreNearEntries entries (length t)) n.2 (here.near entries (omega (arith, ap length n.2)) (ap (entries_of_key tree) n.2 ∙ is))

-- the texts of the rows
abbrev pub row_texts : {E : Type 0} → Tree E → List ℕ → List (List ℕ)
row_texts tree rows = map (node_text tree) rows

row_text : {E : Type 0} (tree : Tree E) (rows : List ℕ) (row : ℕ) → row < length rows → slice_index_or (row_texts tree rows) row [] ≡ node_text tree (slice_index rows row)
row_text tree rows row lt = get_or-map (node_text tree) rows row 0 [] lt

module _ {C : Type 0} (rank : C → ℕ → ℕ) (tree : Tree (Entry C)) (trie : IsTrie tree) (numbers rows : List ℕ) (quarter : ℕ) (table : Table) (known : AreKnown rank tree numbers table.vectors.items table.counts.items) where
  -- the vector and the count of the longest node that ends a text are those of the text
  known_step : (text : List ℕ) (cell : ℕ) → IsCellTo tree numbers rows quarter table.steps.split text cell → IsStepTo rank (entries_of_key tree) (row_texts tree rows) quarter table text (place_in table.steps.split cell) (number_in table.steps.split cell)
  known_step text cell to =
      let keys = entries_of_key tree in
      let t : List ℕ = node_text tree to.node in
      let longest = to.longest in
      let here = known.each to.node longest.within in
      let none = λ (d : ℕ) (low : d < length text - length t). none_longer tree text to.node d longest low in
      let vector : IsVector rank keys text (slice_index_or table.vectors.items (slice_index numbers to.node) []) = record {
        lanes = here.known.vector.lanes;
        each = λ lane distance e. here.known.vector.each lane distance e ∙ ap (λ es. greatest_rank rank es) (sym (entries_same keys text t longest.ends none distance));
      } in
      record {
        row = to.row;
        within = omega (arith, to.within, length-map rows (node_text tree));
        next_is = to.next;
        tail = subst (λ (x : List ℕ). IsTail keys text x) (sym (row_text tree rows to.row to.within)) (inner_tail tree trie text (slice_index rows to.row) to.inner);
        number_of = omega (arith, to.number, here.within);
        vector = subst (λ (n : ℕ). IsVector rank keys text (slice_index_or table.vectors.items n [])) (sym to.number) vector;
        counted = ap (slice_index table.counts.items) to.number ∙ here.known.counted ∙ sym (count_same keys text t longest.ends none);
      }

  pub table_is : AreStepsBy tree numbers rows quarter table.steps → IsTable rank (entries_of_key tree) (row_texts tree rows) quarter table
  table_is steps =
      let made = steps.cells in
      let many : length (row_texts tree rows) ≡ length rows = length-map rows (node_text tree) in
      record {
        near = all_near rank tree numbers table.vectors.items table.counts.items known;
        classes = steps.classes;
        below = steps.below;
        counts = known.counts_of;
        split = steps.split;
        has_root = omega (arith, made.has_root, many);
        root = row_text tree rows 0 made.has_root ∙ ap (node_text tree) made.root ∙ trie.root;
        room = subst (λ (n : ℕ). n * quarter * 4 ≤ length table.steps.cells.items) (sym many) made.room;
        steps = λ row byte lt small.
            let within : row < length rows = omega (arith, lt, many) in
            let cell : ℕ = cell_at table.steps (row * quarter) byte in
            subst (λ (x : List ℕ). IsStepTo rank (entries_of_key tree) (row_texts tree rows) quarter table (x ++ byte ∷ []) (place_in table.steps.split cell) (number_in table.steps.split cell)) (sym (row_text tree rows row within))
            (known_step (node_text tree (slice_index rows row) ++ byte ∷ []) cell (made.each row byte within small));
      }

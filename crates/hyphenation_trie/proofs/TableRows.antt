-- Rows of a table, and their cells.
use Rattle.std.proofs.Common.{◌≡◌, ◌≢◌, ℕ, zero, suc, ◌+◌, ◌*◌, ◌^◌, ◌<◌, ◌≤◌, Bool, true, false, List, [], ◌∷◌, ◌++◌, length, drop, get_or, set, slice_index, sym, ap, subst, refl, ◌∙◌, arith, ◌⊎◌, inl, inr}
use Rattle.std.specs.Prelude.{slice_index_or, replicate}
use Rattle.std.proofs.lemmas.Bool.{cases_Bool, cases_lt, cases_eq}
use Rattle.std.proofs.lemmas.List.{length-append, length-set, get_or-set_same, get_or-set_other, get_or_append_left, get_or_default, get_or_push, places}
use Rattle.std.proofs.Math.Nat.{mul-le-mul_right}
use Rattle.std.proofs.lemmas.Nat.{pow_pos, mod_low, shr_high}
use lib.Seq.{paste}
use Rattle.hyphenation_trie.specs.Trie.{Tree, node_text, IsTrie}
use Rattle.hyphenation_trie.specs.Cells.{IsSplit, number_in, place_in}
use Rattle.hyphenation_trie.specs.Links.{EndsWith, IsLongest}
use Rattle.hyphenation_trie.specs.Private.Known.{AreByDepth, AreClasses}
use Rattle.hyphenation_trie.specs.Steps.{HasChild, IsLongestInner, IsCellTo, AreRows}
use Rattle.hyphenation_trie.specs.Private.Links.{HasNoChild}
use Rattle.hyphenation_trie.specs.Private.Growing.{IsLastChild}
use Rattle.hyphenation_trie.specs.Private.States.{LinkedTree, IsLinked}
use Rattle.hyphenation_trie.specs.declared.table.split.Split.{Split}
use Rattle.hyphenation_trie.specs.Private.TableRows.{AreInner, HasRowOf, AreOwnRows, AreRowNodes, AreRowsOf, AreParts, cell_in, cell_of, IsChildCell, IsMadeOf}
use Rattle.hyphenation_trie.proofs.ChainsGrow.{zero_read}
use Rattle.hyphenation_trie.proofs.LinksMade.{link_less}
use Rattle.hyphenation_trie.proofs.Suffixes.{depth_pos, parent, Ends-refl, Ends-nil, Ends-same, Ends-rest, Ends-both, Ends-trans, Ends-whole, Ends-push}
use Rattle.hyphenation_trie.proofs.TrieNodes.{last_same, not_empty}

-- ---- nodes with children

-- a child is not the root
child_pos : {E : Type 0} (tree : Tree E) → IsTrie tree → (j : ℕ) (t : List ℕ) (b : ℕ) → node_text tree j ≡ t ++ b ∷ [] → 0 < j
child_pos tree trie zero t b is = absurd (not_empty t b (sym trie.root ∙ is))
child_pos tree trie (suc j) t b is = omega arith

-- the parent of a child is one node
one_parent : {E : Type 0} (tree : Tree E) → IsTrie tree → (j p k b c : ℕ) → p < length tree.texts → k < length tree.texts → node_text tree j ≡ node_text tree p ++ b ∷ [] → node_text tree j ≡ node_text tree k ++ c ∷ [] → (k ≡ p) × (c ≡ b)
one_parent tree trie j p k b c plt klt mine other =
    let parts = last_same (node_text tree k) (node_text tree p) c b (sym other ∙ mine) in
    (trie.distinct k p klt plt parts.0, parts.1)

-- the parent of one more node is marked
pub marked_more : {E : Type 0} (tree : Tree E) → IsTrie tree → (marks : List Bool) (node p byte : ℕ) → p < length tree.texts → node_text tree node ≡ node_text tree p ++ byte ∷ [] → AreInner tree marks node → AreInner tree (set marks p true) (node + 1)
marked_more tree trie marks node p byte plt is was = record {
  nodes = length-set marks p true ∙ was.nodes;
  each = λ j b k pos low klt child. elim (cases_eq k p) [
    | inl same ↦ ap (λ (i : ℕ). slice_index_or (set marks p true) i false) same ∙ get_or-set_same marks p true false (omega (arith, was.nodes))
    | inr other ↦ get_or-set_other marks p k true false other ∙ elim (cases_eq j node) [
      | inl here ↦ absurd (other (one_parent tree trie node p k byte b plt klt is (ap (λ (i : ℕ). node_text tree i) (sym here) ∙ child)).0)
      | inr before ↦ was.each j b k pos (omega arith) klt child
    ]
  ];
}

-- ---- rows of nodes

inner_self : {E : Type 0} (tree : Tree E) → (node : ℕ) → node < length tree.texts → IsLongestInner tree (node_text tree node) node
inner_self tree node lt = record { within = lt; ends = Ends-refl (node_text tree node); most = λ k klt child ends. ends.0 }

-- a node without children has the row of its link
inner_next : {E : Type 0} (tree : Tree E) → IsTrie tree → (node link inner : ℕ) → 0 < node → node < length tree.texts → (HasChild tree node → ⊥) → IsLongest tree.texts (drop 1 (node_text tree node)) link
    → IsLongestInner tree (node_text tree link) inner → IsLongestInner tree (node_text tree node) inner
inner_next tree trie node link inner pos lt none longest was =
    let text = node_text tree node in
    record {
      within = was.within;
      ends = Ends-trans text (node_text tree link) (node_text tree inner) (Ends-whole text (node_text tree link) longest.ends) was.ends;
      most = λ k klt child ends. elim (cases_eq (length (node_text tree k)) (length text)) [
        | inl same ↦
            let texts : node_text tree k ≡ text = Ends-same text text (node_text tree k) (Ends-refl text) ends same in
            absurd (none (subst (λ (i : ℕ). HasChild tree i) (trie.distinct k node klt lt texts) child))
        | inr other ↦
            let shorter : EndsWith (drop 1 text) (node_text tree k) = Ends-rest text (node_text tree k) ends (omega (arith, ends.0)) in
            was.most k klt child (Ends-both (drop 1 text) (node_text tree link) (node_text tree k) longest.ends shorter (longest.most k klt shorter))
      ];
    }

-- at first only the root has a row
pub own_start : (marks : List Bool) (nodes of : List ℕ) → nodes ≡ 0 ∷ [] → of ≡ replicate (length marks) 0 → length of ≡ length marks → AreOwnRows marks nodes of 1
own_start marks nodes of first zeros len =
    let one : length nodes ≡ 1 = ap length first in
    let root : slice_index nodes 0 ≡ 0 = ap (λ (xs : List ℕ). slice_index xs 0) first in
    let only : (r : ℕ) → r < length nodes → slice_index nodes r ≡ 0 = λ r lt. let is : r ≡ 0 = omega arith in ap (λ (k : ℕ). slice_index nodes k) is ∙ root in
    record {
      rows_of = len;
      has_root = omega arith;
      root = root;
      within = λ r lt. omega (arith, only r lt);
      marked = λ r pos lt. absurd (omega arith);
      own = λ r lt. let is : r ≡ 0 = omega arith in ap (λ (xs : List ℕ). slice_index xs (slice_index nodes r)) zeros ∙ zero_read (length marks) (slice_index nodes r) ∙ sym is;
      each = λ j pos low mark. absurd (omega arith);
    }

-- a marked node gets its row
pub own_more : (marks : List Bool) (nodes of : List ℕ) (node : ℕ) → 0 < node → node < length marks → slice_index_or marks node false ≡ true → AreOwnRows marks nodes of node → AreOwnRows marks (nodes ++ node ∷ []) (set of node (length nodes)) (node + 1)
own_more marks nodes of node some lt mark was =
    let n : ℕ = length nodes in
    let new : List ℕ = set of node n in
    let more : List ℕ = nodes ++ node ∷ [] in
    let count : length more ≡ n + 1 = length-append nodes (node ∷ []) in
    let other : (j : ℕ) → j ≢ node → slice_index new j ≡ slice_index of j = λ j apart. get_or-set_other of node j n 0 apart in
    let mine : slice_index new node ≡ n = get_or-set_same of node n 0 (omega (arith, lt, was.rows_of)) in
    let old_at : (r : ℕ) → r < n → slice_index more r ≡ slice_index nodes r = λ r low. get_or_append_left nodes (node ∷ []) 0 r low in
    let new_at : (r : ℕ) → r ≡ n → slice_index more r ≡ node = λ r is. get_or_push nodes node 0 r (sym is) in
    let split : (P : ℕ → Type 0) → ((r : ℕ) → r < n → P (slice_index nodes r)) → P node → (r : ℕ) → r < length more → P (slice_index more r) = λ P olds one r low. elim (cases_lt r n) [
      | inl before ↦ subst P (sym (old_at r before)) (olds r before)
      | inr end ↦ subst P (sym (new_at r (omega (arith, count)))) one
    ] in
    record {
      rows_of = length-set of node n ∙ was.rows_of;
      has_root = omega (arith, count);
      root = old_at 0 was.has_root ∙ was.root;
      within = split (λ i. i < node + 1) (λ r low. omega (arith, was.within r low)) (omega arith);
      marked = λ r pos low. elim (cases_lt r n) [
        | inl before ↦
            let old = was.marked r pos before in
            (omega (arith, old_at r before, old.0), ap (λ (i : ℕ). slice_index_or marks i false) (old_at r before) ∙ old.1)
        | inr end ↦
            let there = new_at r (omega (arith, count)) in
            (omega (arith, there, some), ap (λ (i : ℕ). slice_index_or marks i false) there ∙ mark)
      ];
      own = λ r low. elim (cases_lt r n) [
        | inl before ↦ ap (λ (i : ℕ). slice_index new i) (old_at r before) ∙ other (slice_index nodes r) (λ e. absurd (omega (arith, was.within r before, e))) ∙ was.own r before
        | inr end ↦
            let is : r ≡ n = omega (arith, count) in
            ap (λ (i : ℕ). slice_index new i) (new_at r is) ∙ mine ∙ sym is
      ];
      each = λ j pos low is_marked. elim (cases_eq j node) [
        | inl same ↦
            let row : slice_index new j ≡ n = ap (λ (i : ℕ). slice_index new i) same ∙ mine in
            (omega (arith, row, count), ap (λ (i : ℕ). slice_index more i) row ∙ new_at n refl ∙ sym same)
        | inr apart ↦
            let old = was.each j pos (omega arith) is_marked in
            (omega (arith, other j apart, old.0, count), ap (λ (i : ℕ). slice_index more i) (other j apart) ∙ old_at (slice_index of j) old.0 ∙ old.1)
      ];
    }

-- another node gets none
pub own_less : (marks : List Bool) (nodes of : List ℕ) (node : ℕ) → slice_index_or marks node false ≡ false → AreOwnRows marks nodes of node → AreOwnRows marks nodes of (node + 1)
own_less marks nodes of node none was = record {
  rows_of = was.rows_of;
  has_root = was.has_root;
  root = was.root;
  within = λ r low. omega (arith, was.within r low);
  marked = was.marked;
  own = was.own;
  each = λ j pos low is_marked. elim (cases_eq j node) [
    | inl same ↦ let bad : true ≡ false = sym is_marked ∙ ap (λ (i : ℕ). slice_index_or marks i false) same ∙ none in absurd cc
    | inr apart ↦ was.each j pos (omega arith) is_marked
  ];
}

-- ---- nodes in the order of their depths

-- the node is not the root, and not in the order before a bound
abbrev pub IsLeft : List ℕ → ℕ → ℕ → Type 0
IsLeft order bound j = (0 < j) × ((k : ℕ) → k < bound → slice_index order k ≢ j)

-- another node is visited
left_more : (order : List ℕ) (at j : ℕ) → j ≢ slice_index order at → IsLeft order at j → IsLeft order (at + 1) j
left_more order at j other left = (
  left.0,
  λ k lt e. elim (cases_eq k at) [
    | inl same ↦ absurd (other (sym e ∙ ap (λ (i : ℕ). slice_index order i) same))
    | inr apart ↦ left.1 k (omega arith) e
  ],
)

-- a shorter text was visited before
not_left : {E : Type 0} (tree : Tree E) (order : List ℕ) (at j : ℕ) → AreByDepth tree.texts order → at < length order → j < length tree.texts → length (node_text tree j) < length (node_text tree (slice_index order at)) → IsLeft order at j → ⊥
not_left tree order at j by lt within less left =
    let there = by.all j left.0 within in
    let same : length (node_text tree (slice_index order there.0)) ≡ length (node_text tree j) = ap (λ (i : ℕ). length (node_text tree i)) there.2 in
    elim (cases_lt there.0 at) [
      | inl before ↦ left.1 there.0 before there.2
      | inr after ↦ absurd (omega (arith, by.ascend at there.0 after there.1, less, same))
    ]

-- in the end each node was visited
none_left : {E : Type 0} (tree : Tree E) (order : List ℕ) (bound j : ℕ) → AreByDepth tree.texts order → length order ≤ bound → j < length tree.texts → IsLeft order bound j → ⊥
none_left tree order bound j by le within left = let there = by.all j left.0 within in left.1 there.0 (omega (arith, there.1)) there.2

-- ---- rows of nodes without children

-- the nodes before a bound in the order have their rows, and so have all with children
pub record AreNumbered {E : Type 0} (tree : Tree E) (order : List ℕ) (marks : List Bool) (nodes of : List ℕ) (bound : ℕ) : Type 0 where
  pub rows : AreRowNodes tree nodes of
  pub marked : (r : ℕ) → 0 < r → r < length nodes → slice_index_or marks (slice_index nodes r) false ≡ true
  pub each : (j : ℕ) → j < length tree.texts → HasRowOf tree nodes of j ⊎ ((slice_index_or marks j false ≡ false) × IsLeft order bound j)

-- at first those with children
pub numbered_start : {E : Type 0} (tree : Tree E) → IsTrie tree → (order : List ℕ) (marks : List Bool) (nodes of : List ℕ) → AreInner tree marks (length tree.texts) → AreOwnRows marks nodes of (length marks) → AreNumbered tree order marks nodes of 0
numbered_start tree trie order marks nodes of inner own =
    let held : (j : ℕ) → j < length tree.texts → slice_index of j < length nodes → slice_index nodes (slice_index of j) ≡ j → HasRowOf tree nodes of j = λ j lt row is. record {
      row = row;
      inner = subst (λ (i : ℕ). IsLongestInner tree (node_text tree j) i) (sym is) (inner_self tree j lt);
    } in
    record {
      rows = record {
        rows_of = own.rows_of ∙ inner.nodes;
        has_root = own.has_root;
        root = own.root;
        within = λ r lt. omega (arith, own.within r lt, inner.nodes);
        after_root = λ r pos lt. (own.marked r pos lt).0;
        own = own.own;
      };
      marked = λ r pos lt. (own.marked r pos lt).1;
      each = λ j lt. elim (cases_eq j 0) [
        | inl is ↦
            let row : slice_index of j ≡ 0 = ap (λ (i : ℕ). slice_index of i) (is ∙ sym own.root) ∙ own.own 0 own.has_root in
            inl (held j lt (omega (arith, row, own.has_root)) (ap (λ (i : ℕ). slice_index nodes i) row ∙ own.root ∙ sym is))
        | inr apart ↦ elim (cases_Bool (slice_index_or marks j false)) [
          | inl marked ↦ let has = own.each j (omega arith) (omega (arith, inner.nodes, lt)) marked in inl (held j lt has.0 has.1)
          | inr unmarked ↦ inr (unmarked, (omega arith, λ k low. absurd (omega arith)))
        ]
      ];
    }

-- a link has its row before the node
link_has : {E : Type 0} (tree : Tree E) → IsTrie tree → (order : List ℕ) (marks : List Bool) (nodes of : List ℕ) (at link : ℕ) → AreByDepth tree.texts order → at < length order
    → IsLongest tree.texts (drop 1 (node_text tree (slice_index order at))) link → AreNumbered tree order marks nodes of at → HasRowOf tree nodes of link
link_has tree trie order marks nodes of at link by lt longest numbered = elim (numbered.each link longest.within) [
  | inl has ↦ has
  | inr left ↦
      let node : ℕ = slice_index order at in
      let within = by.within at lt in
      absurd (not_left tree order at link by lt longest.within (link_less tree (node_text tree node) link (depth_pos tree trie node within.0 within.1) longest) left.1)
]

-- a node without children
pub numbered_leaf : {E : Type 0} (tree : Tree E) → IsTrie tree → (order : List ℕ) (marks : List Bool) (nodes of : List ℕ) (at link : ℕ) → AreByDepth tree.texts order → AreInner tree marks (length tree.texts) → at < length order
    → slice_index_or marks (slice_index order at) false ≡ false → IsLongest tree.texts (drop 1 (node_text tree (slice_index order at))) link → AreNumbered tree order marks nodes of at
    → AreNumbered tree order marks nodes (set of (slice_index order at) (slice_index of link)) (at + 1)
numbered_leaf {E} tree trie order marks nodes of at link by inner lt leaf longest numbered =
    let node : ℕ = slice_index order at in
    let row : ℕ = slice_index of link in
    let new : List ℕ = set of node row in
    let within = by.within at lt in
    let rows = numbered.rows in
    let has = link_has tree trie order marks nodes of at link by lt longest numbered in
    let none : HasChild tree node → ⊥ = λ child. let yes = inner.each child.0 child.1 node (child_pos tree trie child.0 (node_text tree node) child.1 child.3) child.2 within.1 child.3 in let bad : true ≡ false = sym yes ∙ leaf in absurd cc in
    let other : (j : ℕ) → j ≢ node → slice_index new j ≡ slice_index of j = λ j apart. get_or-set_other of node j row 0 apart in
    let mine : slice_index new node ≡ row = get_or-set_same of node row 0 (omega (arith, within.1, rows.rows_of)) in
    record {
      rows = record {
        rows_of = length-set of node row ∙ rows.rows_of;
        has_root = rows.has_root;
        root = rows.root;
        within = rows.within;
        after_root = rows.after_root;
        own = λ r rlt. other (slice_index nodes r) (λ e. elim (cases_eq r 0) [
          | inl first ↦ absurd (omega (arith, within.0, sym e ∙ ap (λ (i : ℕ). slice_index nodes i) first ∙ rows.root))
          | inr later ↦ let bad : true ≡ false = sym (numbered.marked r (omega arith) rlt) ∙ ap (λ (i : ℕ). slice_index_or marks i false) e ∙ leaf in absurd cc
        ]) ∙ rows.own r rlt;
      };
      marked = numbered.marked;
      each = λ j jlt. elim (cases_eq j node) [
        | inl same ↦ inl (subst (λ (i : ℕ). HasRowOf tree nodes new i) (sym same) (record {
          row = omega (arith, mine, has.row);
          inner = subst (λ (r : ℕ). IsLongestInner tree (node_text tree node) (slice_index nodes r)) (sym mine) (inner_next tree trie node link (slice_index nodes row) within.0 within.1 none longest has.inner);
        }))
        | inr apart ↦ elim (numbered.each j jlt) [
          | inl old ↦ inl (record {
            row = omega (arith, other j apart, old.row);
            inner = subst (λ (r : ℕ). IsLongestInner tree (node_text tree j) (slice_index nodes r)) (sym (other j apart)) old.inner;
          })
          | inr left ↦ inr (left.0, left_more order at j apart left.1)
        ]
      ];
    }

-- a node that has its row
pub numbered_again : {E : Type 0} (tree : Tree E) (order : List ℕ) (marks : List Bool) (nodes of : List ℕ) (at : ℕ) → slice_index_or marks (slice_index order at) false ≡ true → AreNumbered tree order marks nodes of at → AreNumbered tree order marks nodes of (at + 1)
numbered_again tree order marks nodes of at mark numbered = record {
  rows = numbered.rows;
  marked = numbered.marked;
  each = λ j jlt. elim (numbered.each j jlt) [
    | inl old ↦ inl old
    | inr left ↦ inr (left.0, left_more order at j (λ e. let bad : true ≡ false = sym mark ∙ ap (λ (i : ℕ). slice_index_or marks i false) (sym e) ∙ left.0 in absurd cc) left.1)
  ];
}

pub numbered_all : {E : Type 0} (tree : Tree E) (order : List ℕ) (marks : List Bool) (nodes of : List ℕ) (bound : ℕ) → AreByDepth tree.texts order → length order ≤ bound → AreNumbered tree order marks nodes of bound → AreRowsOf tree nodes of
numbered_all tree order marks nodes of bound by le numbered = record {
  rows = numbered.rows;
  each = λ j jlt. elim (numbered.each j jlt) [
    | inl has ↦ has
    | inr left ↦ absurd (none_left tree order bound j by le jlt left.1)
  ];
}

-- how the row of a node is read
pub read_row : {E : Type 0} (tree : Tree E) (nodes of : List ℕ) → AreRowsOf tree nodes of → (node row : ℕ) → node < length tree.texts → row ≡ get_or of node row → (row ≡ slice_index of node) × (row < length nodes)
read_row tree nodes of rows node row lt read =
    let is : row ≡ slice_index of node = read ∙ get_or_default of node row 0 (omega (arith, lt, rows.rows.rows_of)) in
    (is, omega (arith, is, (rows.each node lt).row))

-- ---- places

-- a row lies before the next one
pub row_after : (r s quarter : ℕ) → r < s → r * quarter + quarter ≤ s * quarter
row_after r s quarter lt =
    let up : suc r * quarter ≤ s * quarter = mul-le-mul_right quarter lt in
    omega (arith, up)

-- one cell is set
cell_set : (cells : List ℕ) (quarter rows to class value : ℕ) → length cells ≡ rows * quarter * 4 → to < rows → class < quarter * 4
    → (cell_in quarter (set cells (to * quarter * 4 + class) value) to class ≡ value)
    × ((k : ℕ) → k ≢ class → cell_in quarter (set cells (to * quarter * 4 + class) value) to k ≡ cell_in quarter cells to k)
    × ((r k : ℕ) → r ≢ to → k < quarter * 4 → cell_in quarter (set cells (to * quarter * 4 + class) value) r k ≡ cell_in quarter cells r k)
cell_set cells quarter rows to class value len lt low =
    let at : ℕ = to * quarter * 4 + class in (
      get_or-set_same cells at value 0 (omega (arith, len, row_after to rows quarter lt)),
      λ k apart. get_or-set_other cells at (to * quarter * 4 + k) value 0 (λ e. apart (omega (arith, e))),
      λ r k apart klt. get_or-set_other cells at (r * quarter * 4 + k) value 0 (λ e. elim (cases_lt r to) [
        | inl less ↦ absurd (omega (arith, e, row_after r to quarter less))
        | inr more ↦ absurd (omega (arith, e, row_after to r quarter (omega arith)))
      ]),
    )

-- a row is copied
pub row_copied : {E : Type 0} (tree : Tree E) (nodes of numbers classes : List ℕ) (quarter : ℕ) (split : Split) (rows from to n : ℕ) (old copied new : List ℕ) → AreClasses tree.texts classes quarter → length old ≡ rows * quarter * 4 → from < rows → to < rows → n ≡ quarter * 4
    → copied ≡ paste old (to * quarter * 4) (drop (from * quarter * 4) old) n → IsMadeOf tree nodes of numbers classes quarter split 0 to to copied new → IsMadeOf tree nodes of numbers classes quarter split 0 from to old new
row_copied tree nodes of numbers classes quarter split rows from to n old copied new class len low lt width copy made =
    let source = row_after from rows quarter low in
    let room = row_after to rows quarter lt in
    let same : (k : ℕ) → k < quarter * 4 → cell_in quarter copied to k ≡ cell_in quarter old from k = λ k klt. grind (arith, places) in
    let others : (r k : ℕ) → r ≢ to → k < quarter * 4 → cell_in quarter copied r k ≡ cell_in quarter old r k = λ r k apart klt. elim (cases_lt r to) [
      | inl less ↦ let up = row_after r to quarter less in grind (arith, places)
      | inr more ↦ let up = row_after to r quarter (omega arith) in grind (arith, places)
    ] in
    record {
      cells = λ b blt. subst (λ (x : ℕ). IsChildCell tree of numbers quarter split (slice_index nodes to) b 0 x (cell_in quarter new to (slice_index classes b))) (same (slice_index classes b) (class.below b blt)) (made.cells b blt);
      others = λ r k apart klt. made.others r k apart klt ∙ others r k apart klt;
    }

-- the cell of a child is set
pub made_more : {E : Type 0} (tree : Tree E) (nodes of numbers classes : List ℕ) (quarter : ℕ) (split : Split) (row child next byte : ℕ) (old now : List ℕ) → AreClasses tree.texts classes quarter → length now ≡ length nodes * quarter * 4 → row < length nodes
    → child < length tree.texts → byte < 256 → node_text tree child ≡ node_text tree (slice_index nodes row) ++ byte ∷ [] → IsLastChild tree (slice_index nodes row) child next
    → IsMadeOf tree nodes of numbers classes quarter split child row row old now
    → IsMadeOf tree nodes of numbers classes quarter split next row row old (set now (row * quarter * 4 + slice_index classes byte) (cell_of of numbers quarter split child))
made_more {E} tree nodes of numbers classes quarter split row child next byte old now class len rlt lt small is last was =
    let text : List ℕ = node_text tree (slice_index nodes row) in
    let write = cell_set now quarter (length nodes) row (slice_index classes byte) (cell_of of numbers quarter split child) len rlt (class.below byte small) in
    record {
      cells = λ b blt. elim (cases_eq (slice_index classes b) (slice_index classes byte)) [
        | inl same ↦
            let bytes : byte ≡ b = class.apart byte b small blt (sym same) (class.used child byte text lt small is) in
            inl (child, lt, is ∙ ap (λ (c : ℕ). text ++ c ∷ []) bytes, ap (λ (k : ℕ). cell_in quarter (set now (row * quarter * 4 + slice_index classes byte) (cell_of of numbers quarter split child)) row k) same ∙ write.0)
        | inr apart ↦ elim (was.cells b blt) [
          | inl known ↦ inl (known.0, known.1, known.2, write.1 (slice_index classes b) apart ∙ known.3)
          | inr free ↦ inr (
            write.1 (slice_index classes b) apart ∙ free.0,
            λ j after jlt e. elim (cases_lt child j) [
              | inl past ↦ free.1 j past jlt e
              | inr upto ↦ elim (cases_eq j child) [
                | inl here ↦ apart (ap (λ (c : ℕ). slice_index classes c) (last_same text text b byte (sym e ∙ ap (λ (i : ℕ). node_text tree i) here ∙ is)).1)
                | inr before ↦ last.none j b after (omega arith) e
              ]
            ],
          )
        ]
      ];
      others = λ r k apart klt. write.2 r k apart klt ∙ was.others r k apart klt;
    }

-- ---- cells of rows

self_longest : (texts : List (List ℕ)) (node : ℕ) → node < length texts → IsLongest texts (slice_index_or texts node []) node
self_longest texts node lt = record { within = lt; ends = Ends-refl (slice_index_or texts node []); most = λ k klt ends. ends.0 }

-- the place in a cell, and the number in it
cell_parts : (split : Split) → IsSplit split → (place number : ℕ) → place ≤ split.last_place → (place_in split (number * 2 ^ split.place_bits + place) ≡ place) × (number_in split (number * 2 ^ split.place_bits + place) ≡ number)
cell_parts split is place number low =
    let small : place < 2 ^ split.place_bits = omega (arith, is.last) in
    (mod_low number split.place_bits place small, shr_high number split.place_bits place small)

-- a cell of which all bits are 0
parts_of_none : (split : Split) → (place_in split 0 ≡ 0) × (number_in split 0 ≡ 0)
parts_of_none split =
    let none : 0 ≡ 0 * 2 ^ split.place_bits + 0 = omega arith in
    (ap (place_in split) none ∙ mod_low 0 split.place_bits 0 (pow_pos split.place_bits), ap (number_in split) none ∙ shr_high 0 split.place_bits 0 (pow_pos split.place_bits))

-- the cell of a child
cell_child : {E : Type 0} (tree : Tree E) (nodes of numbers classes : List ℕ) (quarter : ℕ) (split : Split) (text : List ℕ) (child : ℕ) → AreParts tree nodes of numbers classes quarter split → child < length tree.texts → node_text tree child ≡ text
    → IsCellTo tree numbers nodes quarter split text (cell_of of numbers quarter split child)
cell_child tree nodes of numbers classes quarter split text child parts lt is =
    let row : ℕ = slice_index of child in
    let has = parts.rows.each child lt in
    let read = cell_parts split parts.split_of (row * quarter) (slice_index numbers child) (omega (arith, row_after row (length nodes) quarter has.row, parts.places)) in
    record {
      row = row;
      within = has.row;
      next = read.0;
      inner = subst (λ (t : List ℕ). IsLongestInner tree t (slice_index nodes row)) is has.inner;
      node = child;
      longest = subst (λ (t : List ℕ). IsLongest tree.texts t child) is (self_longest tree.texts child lt);
      number = read.1;
    }

-- what ends a node's text and one more byte ends that of a node which is longest there, where the node has no child
goes_on : {E : Type 0} (tree : Tree E) → IsTrie tree → (p link inner b k : ℕ) → p < length tree.texts → HasNoChild tree p b → IsLongest tree.texts (drop 1 (node_text tree p)) link → IsLongestInner tree (node_text tree link) inner
    → k < length tree.texts → EndsWith (node_text tree p ++ b ∷ []) (node_text tree k) → EndsWith (node_text tree inner ++ b ∷ []) (node_text tree k)
goes_on {E} tree trie p link inner b k plt none longest has klt ends = elim (parent tree.texts trie.root trie.closed (node_text tree p) b k klt ends) [
  | inl nil ↦
      let is : k ≡ 0 = elim (cases_eq k 0) [ inl first ↦ first | inr later ↦ absurd (omega (arith, nil, depth_pos tree trie k (omega arith) klt)) ] in
      subst (λ (t : List ℕ). EndsWith (node_text tree inner ++ b ∷ []) t) (sym (ap (λ (i : ℕ). node_text tree i) is ∙ trie.root)) (Ends-nil (node_text tree inner ++ b ∷ []))
  | inr up ↦
      let text = node_text tree p in
      let front : List ℕ = node_text tree up.0 in
      let is : node_text tree k ≡ front ++ b ∷ [] = up.3 in
      let rest : EndsWith (drop 1 text) front = elim (cases_eq (length front) (length text)) [
        | inl same ↦ absurd (none k klt (is ∙ ap (λ (t : List ℕ). t ++ b ∷ []) (Ends-same text text front (Ends-refl text) up.2 same)))
        | inr shorter ↦ Ends-rest text front up.2 (omega (arith, up.2.0))
      ] in
      let of_link : EndsWith (node_text tree link) front = Ends-both (drop 1 text) (node_text tree link) front longest.ends rest (longest.most up.0 up.1 rest) in
      let of_inner : EndsWith (node_text tree inner) front = Ends-both (node_text tree link) (node_text tree inner) front has.ends of_link (has.most up.0 up.1 (k, b, klt, is) of_link) in
      subst (λ (t : List ℕ). EndsWith (node_text tree inner ++ b ∷ []) t) (sym is) (Ends-push (node_text tree inner) front b of_inner)
]

-- where a node has no child its cell is that of the row of its link
cell_link : {E : Type 0} (tree : Tree E) → IsTrie tree → (numbers nodes : List ℕ) (quarter : ℕ) (split : Split) (p link inner b cell : ℕ) → p < length tree.texts → HasNoChild tree p b → IsLongest tree.texts (drop 1 (node_text tree p)) link → IsLongestInner tree (node_text tree link) inner
    → IsCellTo tree numbers nodes quarter split (node_text tree inner ++ b ∷ []) cell → IsCellTo tree numbers nodes quarter split (node_text tree p ++ b ∷ []) cell
cell_link {E} tree trie numbers nodes quarter split p link inner b cell plt none longest has is =
    let text = node_text tree p in
    let inner_ends : EndsWith text (node_text tree inner) = Ends-trans text (node_text tree link) (node_text tree inner) (Ends-whole text (node_text tree link) longest.ends) has.ends in
    let pushed = Ends-push text (node_text tree inner) b inner_ends in
    record {
      row = is.row;
      within = is.within;
      next = is.next;
      inner = record {
        within = is.inner.within;
        ends = Ends-trans (text ++ b ∷ []) (node_text tree inner ++ b ∷ []) (node_text tree (slice_index nodes is.row)) pushed is.inner.ends;
        most = λ k klt child ends. is.inner.most k klt child (goes_on tree trie p link inner b k plt none longest has klt ends);
      };
      node = is.node;
      longest = record {
        within = is.longest.within;
        ends = Ends-trans (text ++ b ∷ []) (node_text tree inner ++ b ∷ []) (node_text tree is.node) pushed is.longest.ends;
        most = λ k klt ends. is.longest.most k klt (goes_on tree trie p link inner b k plt none longest has klt ends);
      };
      number = is.number;
    }

-- what ends one byte that is no child of the root is the root
root_only : {E : Type 0} (tree : Tree E) → IsTrie tree → (b k : ℕ) → HasNoChild tree 0 b → k < length tree.texts → EndsWith (node_text tree 0 ++ b ∷ []) (node_text tree k) → length (node_text tree k) ≤ 0
root_only tree trie b k none klt ends = elim (parent tree.texts trie.root trie.closed (node_text tree 0) b k klt ends) [
  | inl nil ↦ omega (arith, nil)
  | inr up ↦
      let front : List ℕ = node_text tree up.0 in
      let same : front ≡ node_text tree 0 = Ends-same (node_text tree 0) (node_text tree 0) front (Ends-refl (node_text tree 0)) up.2 (omega (arith, up.2.0, ap length trie.root)) in
      absurd (none k klt (up.3 ∙ ap (λ (t : List ℕ). t ++ b ∷ []) same))
]

-- where the root has no child its cell is 0
cell_root : {E : Type 0} (tree : Tree E) → IsTrie tree → (numbers nodes : List ℕ) (quarter : ℕ) (split : Split) (b : ℕ) → 0 < length nodes → slice_index nodes 0 ≡ 0 → slice_index numbers 0 ≡ 0 → HasNoChild tree 0 b
    → IsCellTo tree numbers nodes quarter split (node_text tree 0 ++ b ∷ []) 0
cell_root tree trie numbers nodes quarter split b some root number none =
    let ends : EndsWith (node_text tree 0 ++ b ∷ []) (node_text tree 0) = subst (λ (t : List ℕ). EndsWith (node_text tree 0 ++ b ∷ []) t) (sym trie.root) (Ends-nil (node_text tree 0 ++ b ∷ [])) in
    let inner : IsLongestInner tree (node_text tree 0 ++ b ∷ []) 0 = record {
      within = trie.has_root;
      ends = ends;
      most = λ k klt child e. omega (arith, root_only tree trie b k none klt e);
    } in
    let first : 0 ≡ 0 * quarter = omega arith in
    record {
      row = 0;
      within = some;
      next = (parts_of_none split).0 ∙ first;
      inner = subst (λ (i : ℕ). IsLongestInner tree (node_text tree 0 ++ b ∷ []) i) (sym root) inner;
      node = 0;
      longest = record { within = trie.has_root; ends = ends; most = λ k klt e. omega (arith, root_only tree trie b k none klt e) };
      number = (parts_of_none split).1 ∙ sym number;
    }

-- ---- rows in the order of the depths of their nodes

-- the cells of a row are right
abbrev pub IsRight : {E : Type 0} → Tree E → List ℕ → List ℕ → List ℕ → ℕ → Split → List ℕ → ℕ → Type 0
IsRight tree nodes numbers classes quarter split cells r =
    (b : ℕ) → b < 256 → IsCellTo tree numbers nodes quarter split (node_text tree (slice_index nodes r) ++ b ∷ []) (cell_in quarter cells r (slice_index classes b))

-- the rows of the root and of the nodes before a bound in the order are right
abbrev pub AreRight : {E : Type 0} → Tree E → List ℕ → List ℕ → List ℕ → List ℕ → ℕ → Split → ℕ → List ℕ → Type 0
AreRight tree order nodes numbers classes quarter split bound cells =
    (r : ℕ) → r < length nodes → IsRight tree nodes numbers classes quarter split cells r ⊎ IsLeft order bound (slice_index nodes r)

module _ {E : Type 0} (trie : LinkedTree E) (is : IsTrie trie.tree) (linked : IsLinked trie) (order : List ℕ) (by : AreByDepth trie.tree.texts order) (nodes of numbers classes : List ℕ) (quarter : ℕ) (split : Split)
    (parts : AreParts trie.tree nodes of numbers classes quarter split) where
  -- a row made of another one is right if its cells without a child are
  made_right : (from to : ℕ) (old new : List ℕ) → IsMadeOf trie.tree nodes of numbers classes quarter split 0 from to old new
      → ((b : ℕ) → b < 256 → HasNoChild trie.tree (slice_index nodes to) b → IsCellTo trie.tree numbers nodes quarter split (node_text trie.tree (slice_index nodes to) ++ b ∷ []) (cell_in quarter old from (slice_index classes b)))
      → IsRight trie.tree nodes numbers classes quarter split new to
  made_right from to old new made right = λ b blt.
      let tree = trie.tree in
      let text : List ℕ = node_text tree (slice_index nodes to) in
      elim (made.cells b blt) [
        | inl child ↦ subst (λ (x : ℕ). IsCellTo tree numbers nodes quarter split (text ++ b ∷ []) x) (sym child.3) (cell_child tree nodes of numbers classes quarter split (text ++ b ∷ []) child.0 parts child.1 child.2)
        | inr free ↦ subst (λ (x : ℕ). IsCellTo tree numbers nodes quarter split (text ++ b ∷ []) x) (sym free.0) (right b blt (λ j jlt e. free.1 j (child_pos tree is j text b e) jlt e))
      ]

  -- the root's row is made of cells of which all bits are 0
  pub right_start : (old new : List ℕ) → slice_index numbers 0 ≡ 0 → ((k : ℕ) → slice_index old k ≡ 0) → IsMadeOf trie.tree nodes of numbers classes quarter split 0 0 0 old new → AreRight trie.tree order nodes numbers classes quarter split 0 new
  right_start old new root zeros made = λ r rlt. elim (cases_eq r 0) [
    | inl first ↦ inl (subst (IsRight trie.tree nodes numbers classes quarter split new) (sym first) (made_right 0 0 old new made (λ b blt none.
        let tree = trie.tree in
        let node = parts.rows.rows.root in
        subst (λ (x : ℕ). IsCellTo tree numbers nodes quarter split (node_text tree (slice_index nodes 0) ++ b ∷ []) x) (sym (zeros (0 * quarter * 4 + slice_index classes b)))
        (subst (λ (i : ℕ). IsCellTo tree numbers nodes quarter split (node_text tree i ++ b ∷ []) 0) (sym node) (cell_root tree is numbers nodes quarter split b parts.rows.rows.has_root node root (subst (λ (i : ℕ). HasNoChild tree i b) node none))))))
    | inr later ↦ inr (parts.rows.rows.after_root r (omega arith) rlt, λ k low. absurd (omega arith))
  ]

  -- the row of one more node is made of that of its link
  pub right_more : (at link from to : ℕ) (old new : List ℕ) → at < length order → to < length nodes → slice_index nodes to ≡ slice_index order at → IsLongest trie.tree.texts (drop 1 (node_text trie.tree (slice_index order at))) link → from ≡ slice_index of link
      → IsMadeOf trie.tree nodes of numbers classes quarter split 0 from to old new → AreRight trie.tree order nodes numbers classes quarter split at old → AreRight trie.tree order nodes numbers classes quarter split (at + 1) new
  right_more at link from to old new lt tlt node longest from_is made was =
      let tree = trie.tree in
      let rows = parts.rows.rows in
      let p : ℕ = slice_index order at in
      let within = by.within at lt in
      let has = parts.rows.each link longest.within in
      let inner : IsLongestInner tree (node_text tree link) (slice_index nodes from) = subst (λ (r : ℕ). IsLongestInner tree (node_text tree link) (slice_index nodes r)) (sym from_is) has.inner in
      let less = link_less tree (node_text tree p) link (depth_pos tree is p within.0 within.1) longest in
      let right : IsRight trie.tree nodes numbers classes quarter split old from = elim (was from (omega (arith, from_is, has.row))) [
        | inl right ↦ right
        | inr left ↦ absurd (not_left tree order at (slice_index nodes from) by lt inner.within (omega (arith, inner.ends.0, less)) left)
      ] in
      λ r rlt. elim (cases_eq r to) [
        | inl same ↦ inl (subst (IsRight trie.tree nodes numbers classes quarter split new) (sym same) (made_right from to old new made (λ b blt none.
            subst (λ (i : ℕ). IsCellTo tree numbers nodes quarter split (node_text tree i ++ b ∷ []) (cell_in quarter old from (slice_index classes b))) (sym node)
            (cell_link tree is numbers nodes quarter split p link (slice_index nodes from) b (cell_in quarter old from (slice_index classes b)) within.1 (subst (λ (i : ℕ). HasNoChild tree i b) node none) longest inner (right b blt)))))
        | inr apart ↦ elim (was r rlt) [
          | inl done ↦ inl (λ b blt. subst (λ (x : ℕ). IsCellTo tree numbers nodes quarter split (node_text tree (slice_index nodes r) ++ b ∷ []) x) (sym (made.others r (slice_index classes b) apart (parts.classes_of.below b blt))) (done b blt))
          | inr left ↦ inr (left_more order at (slice_index nodes r) (λ e. apart (sym (rows.own r rlt) ∙ ap (λ (i : ℕ). slice_index of i) (e ∙ sym node) ∙ rows.own to tlt)) left)
        ]
      ]

  -- a node without children has no row
  pub right_less : (at : ℕ) (cells : List ℕ) → slice_index nodes (slice_index of (slice_index order at)) ≢ slice_index order at → AreRight trie.tree order nodes numbers classes quarter split at cells → AreRight trie.tree order nodes numbers classes quarter split (at + 1) cells
  right_less at cells apart was = λ r rlt. elim (was r rlt) [
    | inl done ↦ inl done
    | inr left ↦ inr (left_more order at (slice_index nodes r) (λ e. apart (ap (λ (j : ℕ). slice_index nodes (slice_index of j)) (sym e) ∙ ap (λ (i : ℕ). slice_index nodes i) (parts.rows.rows.own r rlt) ∙ e)) left)
  ]

  pub right_all : (bound : ℕ) (cells : List ℕ) → length order ≤ bound → length nodes * quarter * 4 ≤ length cells → AreRight trie.tree order nodes numbers classes quarter split bound cells → AreRows trie.tree numbers classes quarter split cells nodes
  right_all bound cells le room was = record {
    has_root = parts.rows.rows.has_root;
    root = parts.rows.rows.root;
    room = room;
    each = λ r b rlt blt. elim (was r rlt) [
      | inl right ↦ right b blt
      | inr left ↦ absurd (none_left trie.tree order bound (slice_index nodes r) by le (parts.rows.rows.within r rlt) left)
    ];
  }

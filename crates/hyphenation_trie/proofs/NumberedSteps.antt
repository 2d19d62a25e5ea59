-- Steps of a table with a number for each node: what the cell of a row leads to.
use Rattle.std.proofs.Common.{◌≡◌, ℕ, suc, ◌+◌, ◌*◌, ◌<◌, ◌≤◌, List, [], ◌∷◌, ◌++◌, length, slice_index, sym, ap, subst, arith, inl, inr}
use Rattle.std.proofs.Math.Nat.{mul-le-mul_right, suc-mul}
use Rattle.hyphenation_trie.specs.Cells.{number_in, place_in}
use Rattle.hyphenation_trie.specs.Links.{EndsWith, IsLongest}
use Rattle.hyphenation_trie.specs.Steps.{IsLongestInner, IsCellTo, AreSteps, StandsFor, IsStepOf, cell_at}
use Rattle.hyphenation_trie.specs.Trie.{Tree, node_text, IsTrie}
use Rattle.hyphenation_trie.specs.declared.table.steps.Steps.{Steps}
use Rattle.hyphenation_trie.proofs.Suffixes.{Ends-both, Ends-trans, Ends-push, Ends-nil, length-push, parent}

-- Among the nodes with children whose texts end a text, the node is the one with the longest.
module _ {E : Type 0} (tree : Tree E) (trie : IsTrie tree) (text : List ℕ) (byte node : ℕ) (now : IsLongestInner tree text node) where
  -- so a node that ends the text with one more byte ends the node's text with the byte
  ends_inner : (k : ℕ) → k < length tree.texts → EndsWith (text ++ byte ∷ []) (node_text tree k) → EndsWith (node_text tree node ++ byte ∷ []) (node_text tree k)
  ends_inner k lk e =
      let own = node_text tree node in
      let short : length (node_text tree k) ≤ length (own ++ byte ∷ []) =
      elim (parent tree.texts trie.root trie.closed text byte k lk e) [
        | inl nil ↦ omega arith
        | inr h ↦ omega (arith, now.most h.0 h.1 (k, byte, lk, h.3) h.2, h.4, length-push own byte)
      ] in
      Ends-both (text ++ byte ∷ []) (own ++ byte ∷ []) (node_text tree k) (Ends-push text own byte now.ends) e short

  -- the longest node that ends these ends both
  longest_on : (next : ℕ) → IsLongest tree.texts (node_text tree node ++ byte ∷ []) next → IsLongest tree.texts (text ++ byte ∷ []) next
  longest_on next then = record {
    within = then.within;
    ends = Ends-trans (text ++ byte ∷ []) (node_text tree node ++ byte ∷ []) (node_text tree next) (Ends-push text (node_text tree node) byte now.ends) then.ends;
    most = λ k lk e. then.most k lk (ends_inner k lk e);
  }

  inner_on : (next : ℕ) → IsLongestInner tree (node_text tree node ++ byte ∷ []) next → IsLongestInner tree (text ++ byte ∷ []) next
  inner_on next then = record {
    within = then.within;
    ends = Ends-trans (text ++ byte ∷ []) (node_text tree node ++ byte ∷ []) (node_text tree next) (Ends-push text (node_text tree node) byte now.ends) then.ends;
    most = λ k lk child e. then.most k lk child (ends_inner k lk e);
  }

-- what the cell of a row at a byte leads to
pub step_is : {E : Type 0} (tree : Tree E) → IsTrie tree → (numbers : List ℕ) (steps : Steps) (start : ℕ) (text : List ℕ) (byte : ℕ) → byte < 256 → StandsFor tree numbers steps start text
    → IsStepOf tree numbers steps (text ++ byte ∷ []) (place_in steps.split (cell_at steps start byte)) (number_in steps.split (cell_at steps start byte))
step_is tree trie numbers steps start text byte small on =
    let cell : ℕ = cell_at steps start byte in
    let there : cell ≡ cell_at steps (on.row * on.quarter) byte = ap (λ (r : ℕ). cell_at steps r byte) on.start_is in
    let node : ℕ = slice_index on.rows on.row in
    let to : IsCellTo tree numbers on.rows on.quarter steps.split (node_text tree node ++ byte ∷ []) cell =
    subst (λ (k : ℕ). IsCellTo tree numbers on.rows on.quarter steps.split (node_text tree node ++ byte ∷ []) k) (sym there) (on.are_steps.cells.each on.row byte on.within small) in
    record {
      stands = record {
        rows = on.rows;
        quarter = on.quarter;
        are_steps = on.are_steps;
        row = to.row;
        within = to.within;
        start_is = to.next;
        inner = inner_on tree trie text byte node on.inner (slice_index on.rows to.row) to.inner;
      };
      node = to.node;
      longest = longest_on tree trie text byte node on.inner to.node to.longest;
      number_is = to.number;
    }

-- the row ends within the cells
pub cell_within : {E : Type 0} (tree : Tree E) (numbers : List ℕ) (steps : Steps) (start : ℕ) (text : List ℕ) (byte : ℕ) → byte < 256 → StandsFor tree numbers steps start text
    → start * 4 + slice_index steps.classes byte < length steps.cells.items
cell_within tree numbers steps start text byte small on =
    let times = mul-le-mul_right {m = suc on.row} {n = length on.rows} on.quarter (omega (arith, on.within)) in
    let one = suc-mul on.row on.quarter in
    omega (arith, on.start_is, on.are_steps.cells.room, times, one, on.are_steps.below byte small)

-- the row of the empty text
pub first_stands : {E : Type 0} (tree : Tree E) → IsTrie tree → (numbers : List ℕ) (steps : Steps) → AreSteps tree numbers steps → StandsFor tree numbers steps 0 []
first_stands tree trie numbers steps is =
    let root = is.2.cells.root in
    record {
      rows = is.0;
      quarter = is.1;
      are_steps = is.2;
      row = 0;
      within = is.2.cells.has_root;
      start_is = omega arith;
      inner = subst (λ (k : ℕ). IsLongestInner tree [] k) (sym root) (record {
        within = trie.has_root;
        ends = subst (λ (t : List ℕ). EndsWith [] t) (sym trie.root) (Ends-nil []);
        most = λ k lk child e. omega (arith, e.0);
      });
    }

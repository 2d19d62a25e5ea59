-- Steps of a table: what the cell of a row leads to.
use Rattle.std.proofs.Common.{◌≡◌, ℕ, suc, ◌+◌, ◌*◌, ◌<◌, List, [], ◌∷◌, ◌++◌, length, slice_index, slice_index_or, refl, sym, ap, subst, ◌∙◌, arith}
use Rattle.std.proofs.Math.Nat.{mul-le-mul_right, suc-mul}
use Rattle.hyphenation_breaks.specs.Dictionary.{Patterns}
use Rattle.hyphenation_breaks.specs.Ranks.{greatest_rank}
use Rattle.hyphenation_trie.specs.Cells.{number_in, place_in}
use Rattle.hyphenation_trie.specs.Steps.{cell_at}
use Rattle.hyphenation_trie.specs.Tables.{IsTail, IsStepTo, IsTableOf, GoesOn, IsRead}
use Rattle.hyphenation_trie.specs.Vectors.{AreNear}
use Rattle.hyphenation_trie.specs.declared.table.Table.{Table}
use Rattle.hyphenation_trie.proofs.Tails.{same_before, same_count, tail_goes_on}

-- what the cell of a row at a byte leads to
pub read_is : {C : Type 0} (rank : C → ℕ → ℕ) (keys : Patterns C) (table : Table) (start : ℕ) (text : List ℕ) (byte : ℕ) → byte < 256 → GoesOn rank keys table start text
    → IsRead rank keys table (text ++ byte ∷ []) (place_in table.steps.split (cell_at table.steps start byte)) (number_in table.steps.split (cell_at table.steps start byte))
read_is rank keys table start text byte small on =
    let cell : ℕ = cell_at table.steps start byte in
    let there : cell ≡ cell_at table.steps (on.row * on.quarter) byte = ap (λ (r : ℕ). cell_at table.steps r byte) on.start_is in
    let tail : List ℕ = slice_index_or on.texts on.row [] in
    let step = on.is_table.steps on.row byte on.within small in
    let read : IsStepTo rank keys on.texts on.quarter table (tail ++ byte ∷ []) (place_in table.steps.split cell) (number_in table.steps.split cell) =
    subst (λ (k : ℕ). IsStepTo rank keys on.texts on.quarter table (tail ++ byte ∷ []) (place_in table.steps.split k) (number_in table.steps.split k)) (sym there) step in
    record {
      goes_on = record {
        texts = on.texts;
        quarter = on.quarter;
        is_table = on.is_table;
        row = read.row;
        within = read.within;
        start_is = read.next_is;
        tail = tail_goes_on keys text tail byte on.tail (slice_index_or on.texts read.row []) read.tail;
      };
      vector = record {
        lanes = read.vector.lanes;
        each = λ lane distance e. read.vector.each lane distance e ∙ ap (λ es. greatest_rank rank es) (sym (same_before keys text tail byte on.tail distance));
      };
      counted = read.counted ∙ sym (same_count keys text tail byte on.tail);
    }

-- the row ends within the cells
pub cell_within : {C : Type 0} (rank : C → ℕ → ℕ) (keys : Patterns C) (table : Table) (start : ℕ) (text : List ℕ) (byte : ℕ) → byte < 256 → GoesOn rank keys table start text
    → start * 4 + slice_index table.steps.classes byte < length table.steps.cells.items
cell_within rank keys table start text byte small on =
    let times = mul-le-mul_right {m = suc on.row} {n = length on.texts} on.quarter (omega (arith, on.within)) in
    let one = suc-mul on.row on.quarter in
    omega (arith, on.start_is, on.is_table.room, times, one, on.is_table.below byte small)

-- the number in the cell of a row is one of a vector
pub number_within : {C : Type 0} (rank : C → ℕ → ℕ) (keys : Patterns C) (table : Table) (start : ℕ) (text : List ℕ) (byte : ℕ) → byte < 256 → GoesOn rank keys table start text
    → number_in table.steps.split (cell_at table.steps start byte) < length table.vectors.items
number_within rank keys table start text byte small on =
    let there : cell_at table.steps start byte ≡ cell_at table.steps (on.row * on.quarter) byte = ap (λ (r : ℕ). cell_at table.steps r byte) on.start_is in
    let step = on.is_table.steps on.row byte on.within small in
    subst (λ (k : ℕ). number_in table.steps.split k < length table.vectors.items) (sym there) step.number_of

-- the row of the empty text
pub root_goes_on : {C : Type 0} (rank : C → ℕ → ℕ) (keys : Patterns C) (table : Table) → IsTableOf rank keys table → GoesOn rank keys table 0 []
root_goes_on rank keys table is =
    let texts = is.0 in
    let nil : slice_index_or texts 0 [] ≡ [] = is.2.root in
    record {
      texts = texts;
      quarter = is.1;
      is_table = is.2;
      row = 0;
      within = is.2.has_root;
      start_is = omega arith;
      tail = subst (λ (t : List ℕ). IsTail keys [] t) (sym nil) (record { ends = (omega arith, refl); none = λ d lt. absurd (omega arith) });
    }

-- the entries of the keys
pub keys_near : {C : Type 0} (rank : C → ℕ → ℕ) (keys : Patterns C) (table : Table) → IsTableOf rank keys table → AreNear keys
keys_near rank keys table is = is.2.near

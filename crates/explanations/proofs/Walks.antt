-- A walk from a start along the bytes of a text: one step more, its end, and its look-ups.
use Rattle.std.proofs.Common.{◌≡◌, ℕ, ◌+◌, ◌-◌, ◌<◌, ◌≤◌, List, [], ◌∷◌, ◌++◌, length, slice_index, ap, subst, ◌∙◌, arith, slice_range}
use Rattle.std.proofs.lemmas.List.Edits.{length-between}
use Rattle.hyphenation_breaks.specs.declared.entry.Entry.{Entry}
use Rattle.hyphenation_trie.specs.Laws.{KeysHaveNodes}
use Rattle.hyphenation_trie.specs.Links.{IsLongest}
use Rattle.hyphenation_trie.specs.Trie.{Tree, node_text, entries_of_key, IsTrie, EachBeginsKey}
use Rattle.explanations.specs.Rows.{PatternRow, NoKeyIsLonger}
use Rattle.explanations.specs.Private.Walking.{AreOccurrencesUpTo}
use Rattle.explanations.proofs.Prefixes.{range_more, whole_text, no_longer_key, node_within}
use Rattle.explanations.proofs.RowsSoFar.{start_done}

module _ {C : Type 0} (tree : Tree (Entry C)) (trie : IsTrie tree) (text : List ℕ) (start at node next byte : ℕ) where
  stepped : node_text tree node ≡ slice_range text start at → IsLongest tree.texts (node_text tree node ++ byte ∷ []) next
      → start ≤ at → at < length text → byte ≡ slice_index text at → IsLongest tree.texts (slice_range text start (at + 1)) next
  stepped is longest order lt read =
      subst (λ (t : List ℕ). IsLongest tree.texts t next) (ap (λ (x : List ℕ). x ++ byte ∷ []) is ∙ range_more text start at byte order lt read) longest

  -- The walk goes on: the next node has the text up to the next byte.
  pub goes_on : node_text tree node ≡ slice_range text start at → IsLongest tree.texts (node_text tree node ++ byte ∷ []) next
      → start ≤ at → at < length text → byte ≡ slice_index text at → at - start < length (node_text tree next) → node_text tree next ≡ slice_range text start (at + 1)
  goes_on is longest order lt read long =
      whole_text tree (slice_range text start (at + 1)) next (stepped is longest order lt read) (omega (arith, length-between text start (at + 1) (omega arith)))

  -- The walk ends, since the text up to the next byte begins no key.
  pub ends_here : KeysHaveNodes (Entry C) → (rows : List (PatternRow C)) → node_text tree node ≡ slice_range text start at
      → IsLongest tree.texts (node_text tree node ++ byte ∷ []) next → start ≤ at → at < length text → byte ≡ slice_index text at
      → length (node_text tree next) ≤ at - start → AreOccurrencesUpTo (entries_of_key tree) text start at rows
      → AreOccurrencesUpTo (entries_of_key tree) text (start + 1) (start + 1) rows
  ends_here nodes rows is longest order lt read short so_far =
      start_done (entries_of_key tree) text start at rows so_far
      (λ later more within. no_longer_key tree trie nodes text start (at + 1) next (omega arith) (omega arith) (stepped is longest order lt read) (omega arith) later (omega arith) within)

-- The walk ends with the text.
pub ends_with_text : {C : Type 0} (tree : Tree (Entry C)) (text : List ℕ) (start at : ℕ) (rows : List (PatternRow C)) → length text ≤ at
    → AreOccurrencesUpTo (entries_of_key tree) text start at rows → AreOccurrencesUpTo (entries_of_key tree) text (start + 1) (start + 1) rows
ends_with_text tree text start at rows past so_far = start_done (entries_of_key tree) text start at rows so_far (λ later more within. absurd (omega arith))

-- A walk is no longer than the longest key.
pub walk_within : {C : Type 0} (tree : Tree (Entry C)) → IsTrie tree → EachBeginsKey tree → (text : List ℕ) (start at node longest : ℕ) → NoKeyIsLonger (entries_of_key tree) longest
    → node < length tree.texts → node_text tree node ≡ slice_range text start at → at ≤ length text → at - start ≤ longest
walk_within tree trie begins text start at node longest none lt is within =
    omega (arith, node_within tree trie begins longest node none lt, ap length is, length-between text start at within)

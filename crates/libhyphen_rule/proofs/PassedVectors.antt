-- One byte more of a frame: the digits that the vector of its node gives.
use Rattle.std.proofs.Common.{◌≡◌, ℕ, ◌+◌, ◌-◌, ◌<◌, ◌≤◌, List, [], ◌∷◌, ◌++◌, length, take, get_or, Option, Some, None, refl, sym, ap, subst, ◌∙◌, arith}
use Rattle.std.specs.Prelude.{slice_index}
use Rattle.std.proofs.lemmas.List.{length-take, get_or_default, take_more}
use Rattle.hyphenation_dictionary.specs.Laws.{KeysAreLookedUp}
use Rattle.hyphenation_dictionary.specs.Parts.{patterns_of}
use Rattle.hyphenation_trie.specs.Laws.{KeysHaveNodes}
use Rattle.hyphenation_trie.specs.Links.{IsLongest}
use Rattle.hyphenation_trie.specs.Steps.{AreSteps, IsStepOf, StandsFor}
use Rattle.hyphenation_trie.specs.Trie.{Tree, node_text, IsTrie, EachBeginsKey}
use Rattle.hyphenation_trie.specs.declared.table.steps.Steps.{Steps}
use Rattle.libhyphen_files.specs.Patterns.{Pattern}
use Rattle.libhyphen_files.specs.Vectors.{AreVectors, AreVectorsBy, IsNodeVector, IsNumberOf, pattern_of_node}
use Rattle.libhyphen_files.specs.declared.vectors.NodeVectors.{NodeVectors}
use Rattle.libhyphen_rule.specs.Counting.{Counted, counted_up_to}
use Rattle.libhyphen_rule.specs.Private.Lanes.{AllKnown, AtRow, IsFound, IsPassed, TakesVector}
use Rattle.libhyphen_rule.specs.declared.plain_words.FramePass.{FramePass}
use Rattle.libhyphen_rule.proofs.LongestStart.{counted_none, counted_some}
use Rattle.libhyphen_rule.proofs.PlainDigits.{taken, found_more}

pub passed_more : (tree : Tree Pattern) (vectors : NodeVectors) → IsTrie tree → KeysHaveNodes Pattern → KeysAreLookedUp Pattern → EachBeginsKey tree
    → (frame : List ℕ) (at node : ℕ) (vector : List ℕ) (pass next : FramePass) (list new : List ℕ) → at < length frame → IsLongest tree.texts (take (at + 1) frame) node → IsNodeVector tree node vector
    → TakesVector vector at pass list next new → AtRow tree vectors (take (at + 1) frame) next.row → IsPassed tree vectors frame at pass list → IsPassed tree vectors frame (at + 1) next new
passed_more tree vectors trie keys looked begins frame at node vector pass next list new lt longest of_node takes there was =
    let bytes : ℕ = length (node_text tree node) in
    let short : bytes ≤ at + 1 = omega (arith, longest.ends.0, length-take (at + 1) frame) in
    let before : List Counted = counted_up_to (patterns_of tree) frame at in
    let after : List Counted = counted_up_to (patterns_of tree) frame (at + 1) in
    let p : Option Pattern = pattern_of_node tree node in
    let more : after ≡ taken before frame (at + 1) (at + 1 - bytes) p =
    elim p as (λ o. p ≡ o → after ≡ taken before frame (at + 1) (at + 1 - bytes) o) [
      | None ↦ λ is. counted_none tree trie keys looked begins frame at node lt longest (sym is)
      | Some q ↦ λ is. counted_some tree trie keys looked begins frame at node lt longest q (sym is)
    ] refl in
    record {
      lanes = takes.lanes;
      seen_lanes = takes.seen_lanes;
      at_row = there;
      found = λ all.
          let seen : AllKnown pass.seen = λ lane next_level. omega (arith, all lane next_level, takes.seen lane next_level) in
          let known : AllKnown vector = λ lane next_level. omega (arith, all lane next_level, takes.seen lane next_level) in
          subst (λ (cs : List Counted). IsFound cs (at + 1) next.last new) (sym more)
          (found_more before frame at bytes short p vector pass.last next.last list new
          (of_node.known (known 0 (omega arith))) known was.lanes takes.each takes.written takes.before (was.found seen));
    }

-- the vector that was read by a node's number
pub vector_read : (tree : Tree Pattern) (numbers : List ℕ) (vectors : NodeVectors) → AreVectorsBy tree numbers vectors → (node number : ℕ) (vector : List ℕ) → node < length tree.texts → number ≡ slice_index numbers node
    → vector ≡ get_or vectors.vectors.items number vector → IsNodeVector tree node vector
vector_read tree numbers vectors are node number vector lt is read =
    let of : IsNumberOf tree vectors.vectors.items node number = subst (λ (n : ℕ). IsNumberOf tree vectors.vectors.items node n) (sym is) (are.each node lt) in
    subst (λ (v : List ℕ). IsNodeVector tree node v) (sym (read ∙ get_or_default vectors.vectors.items number vector [] of.within)) of.vector

-- a step to the text with one byte more of a frame
pub step_on : (tree : Tree Pattern) (numbers : List ℕ) (steps : Steps) (frame : List ℕ) (at byte next number : ℕ) → at < length frame → byte ≡ slice_index frame at
    → IsStepOf tree numbers steps (take at frame ++ byte ∷ []) next number → IsStepOf tree numbers steps (take (at + 1) frame) next number
step_on tree numbers steps frame at byte next number lt read to =
    let more : take (at + 1) frame ≡ take at frame ++ byte ∷ [] = take_more frame at 0 lt ∙ ap (λ (b : ℕ). take at frame ++ b ∷ []) (sym read) in
    subst (λ (x : List ℕ). IsStepOf tree numbers steps x next number) (sym more) to

-- the first row is that of the empty text
pub first_at : (tree : Tree Pattern) (vectors : NodeVectors) → AreVectors tree vectors → (row : ℕ)
    → ((numbers : List ℕ) → AreSteps tree numbers vectors.steps → StandsFor tree numbers vectors.steps row []) → AtRow tree vectors [] row
first_at tree vectors are row first = record {
  numbers = are.0;
  are_vectors = are.1;
  stands = first are.0 are.1.steps;
}

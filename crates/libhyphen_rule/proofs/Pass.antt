-- One pass over the frame of a word.
use Rattle.std.proofs.Common.{◌≡◌, ℕ, ◌+◌, ◌-◌, ◌<◌, ◌≢◌, Bool, true, false, cond, List, [], ◌∷◌, length, drop, Option, Some, None, refl, sym, ap, ◌∙◌, arith, inl, inr}
use Rattle.std.proofs.lemmas.Bool.{cases_eq, ne_eqb}
use Rattle.std.specs.Prelude.{◌==◌, option_and_then, slice_get, slice_index, slice_range}
use Rattle.std.proofs.lemmas.List.{length-append, get_or-take, get_or-drop}
use Rattle.hyphenation_breaks.specs.Ascii.{dot}
use mir.Val.{bool_byte}
use Rattle.hyphenation_trie.specs.Trie.{Tree, node_text, entries_of_key, IsTrie}
use Rattle.libhyphen_files.specs.Patterns.{Pattern, first_place}
use Rattle.libhyphen_files.specs.Vectors.{pattern_of_node}

pub some_has_entries : (tree : Tree Pattern) (node : ℕ) → node ≢ 0
    → option_and_then (λ found. slice_get found 0) (entries_of_key tree (node_text tree node)) ≡ pattern_of_node tree node
some_has_entries tree node some =
    sym (ap (λ b. cond {A = Option Pattern} b None (option_and_then (λ found. slice_get found 0) (entries_of_key tree (node_text tree node)))) (ne_eqb node 0 some))

-- A node with a pattern has a text.
pub some_has_text : (tree : Tree Pattern) → IsTrie tree → (node : ℕ) (p : Pattern) → Some p ≡ pattern_of_node tree node → node < length tree.texts
    → 0 < length (node_text tree node)
some_has_text tree trie node p some within = elim (cases_eq node 0) [
  | inl root ↦ let none = some ∙ ap (λ (k : ℕ). pattern_of_node tree k) root in absurd cc
  | inr apart ↦
      let up = trie.closed node (omega arith) within in
      omega (arith, ap length up.3, length-append (node_text tree up.0) (up.1 ∷ []))
]

-- The first byte of a key, as the frame has it.
pub first_byte : (frame : List ℕ) (start end : ℕ) → start < end → slice_index (slice_range frame start end) 0 ≡ slice_index frame start
first_byte frame start end lt =
    get_or-take (end - start) (drop start frame) 0 0 (omega arith) ∙ get_or-drop start frame 0 0 ∙ ap (slice_index frame) (omega arith)

as_byte : (b : Bool) → cond b 1 0 ≡ bool_byte b
as_byte true = refl
as_byte false = refl

pub first_is : (frame : List ℕ) (start at end byte add : ℕ) → start < end → at ≡ start → byte ≡ slice_index frame at
    → add ≡ bool_byte (byte == dot) → start + first_place (slice_range frame start end) ≡ at + add
first_is frame start at end byte add lt same read is =
    let first : slice_index (slice_range frame start end) 0 ≡ byte = first_byte frame start end lt ∙ ap (slice_index frame) (sym same) ∙ sym read in
    let place : first_place (slice_range frame start end) ≡ add = ap (λ (k : ℕ). cond (k == dot) 1 0) first ∙ as_byte (byte == dot) ∙ sym is in
    ap (λ (k : ℕ). start + k) place ∙ ap (λ (k : ℕ). k + add) (sym same)

-- The patterns of the nodes of a trie.
use Rattle.std.proofs.Common.{◌≡◌, ℕ, ◌-◌, ◌<◌, ◌≢◌, cond, length, drop, Option, None, sym, ap, ◌∙◌, arith, inl, inr}
use Rattle.std.proofs.lemmas.Bool.{cases_eq, cases_lt, ne_eqb}
use Rattle.std.specs.Prelude.{option_and_then, slice_get}
use Rattle.hyphenation_trie.specs.Trie.{Tree, node_text, entries_of_key, IsTrie}
use Rattle.hyphenation_trie.specs.Links.{IsReport}
use Rattle.libhyphen_files.specs.Patterns.{Pattern}
use Rattle.libhyphen_files.specs.Vectors.{pattern_of_node}

-- The root has no pattern.
pub root_has_none : (tree : Tree Pattern) (node : ℕ) → node ≡ 0 → None ≡ pattern_of_node tree node
root_has_none tree node is = sym (ap (λ (k : ℕ). pattern_of_node tree k) is)

-- A node that is not its own report is no key.
pub no_entries : (tree : Tree Pattern) → IsTrie tree → (node report : ℕ) → node < length tree.texts
    → IsReport tree (node_text tree node) report → report ≢ node → entries_of_key tree (node_text tree node) ≡ None
no_entries tree trie node report within is apart =
    elim (cases_lt (length (node_text tree report)) (length (node_text tree node))) [
      | inl less ↦ is.none 0 (omega arith)
      | inr most ↦
          let none : length (node_text tree node) - length (node_text tree report) ≡ 0 = omega (arith, is.ends.0) in
          let same : node_text tree node ≡ node_text tree report = ap (λ (k : ℕ). drop k (node_text tree node)) (sym none) ∙ is.ends.1 in
          absurd (apart (trie.distinct report node is.within within (sym same)))
    ]

pub no_pattern : (tree : Tree Pattern) → IsTrie tree → (node report : ℕ) → node < length tree.texts
    → IsReport tree (node_text tree node) report → report ≢ node → None ≡ pattern_of_node tree node
no_pattern tree trie node report within is apart = elim (cases_eq node 0) [
  | inl root ↦ root_has_none tree node root
  | inr some ↦
      sym (ap (λ b. cond {A = Option Pattern} b None (option_and_then (λ found. slice_get found 0) (entries_of_key tree (node_text tree node)))) (ne_eqb node 0 some)
      ∙ ap (option_and_then (λ found. slice_get found 0)) (no_entries tree trie node report within is apart))
]

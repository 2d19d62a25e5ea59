-- A byte begins a key if a node leads to it from the root, and else it begins none.
use Rattle.std.proofs.Common.{◌≡◌, ℕ, zero, suc, ◌==◌, true, false, ◌-◌, ◌<◌, ◌≤◌, List, [], ◌∷◌, ◌++◌, length, Option, Some, None, refl, sym, ap, ◌∙◌, arith, drop, take, subst, inl, inr}
use Rattle.std.specs.Prelude.{not, IsSome, option_and_then, slice_get}
use Rattle.std.proofs.lemmas.Bool.{cases_eq, ne_eqb}
use Rattle.std.proofs.lemmas.List.{length-append}
use Rattle.hyphenation_dictionary.specs.Laws.{KeysAreLookedUp}
use Rattle.hyphenation_dictionary.specs.Parts.{patterns_of}
use Rattle.hyphenation_trie.specs.Laws.{KeysHaveNodes}
use Rattle.hyphenation_trie.specs.Links.{EndsWith, IsLongest}
use Rattle.hyphenation_trie.specs.Trie.{EachBeginsKey, Tree, node_text, entries_of_key, IsTrie}
use Rattle.libhyphen_files.specs.Patterns.{Pattern}
use Rattle.libhyphen_files.specs.Vectors.{BeginsNoKey, BeginsSomeKey}

-- the text before the last one of two bytes or more begins with the same byte
front : (text : List ℕ) (last byte next : ℕ) (rest : List ℕ) → text ++ last ∷ [] ≡ byte ∷ next ∷ rest → (more : List ℕ) × (text ≡ byte ∷ more) × (length more ≤ length rest)
front [] last byte next rest is = absurd cc
front (b ∷ bs) last byte next rest is =
    let same : b ∷ bs ≡ byte ∷ bs = cc in
    (bs, same, omega (arith, ap length is, length-append bs (last ∷ [])))

-- if the text of a node begins with a byte, a node has the text of only this byte
pub first_node : {E : Type 0} (tree : Tree E) → IsTrie tree → (size byte : ℕ) (rest : List ℕ) (node : ℕ) → length rest ≤ size → node < length tree.texts → node_text tree node ≡ byte ∷ rest
    → (first : ℕ) × (first < length tree.texts) × (node_text tree first ≡ byte ∷ [])
first_node tree trie size byte [] node le within is = (node, within, is)
first_node tree trie zero byte (next ∷ rest) node le within is = absurd (omega (arith, le))
first_node tree trie (suc size) byte (next ∷ rest) node le within is =
    let some : 0 < node = above node is in
    let up = trie.closed node some within in
    let before = front (node_text tree up.0) up.1 byte next rest (sym up.3 ∙ is) in
    first_node tree trie size byte before.0 up.0 (omega (arith, le, before.2)) up.2 before.1
  where
    above : (k : ℕ) → node_text tree k ≡ byte ∷ next ∷ rest → 0 < k
    above zero e = let none = sym trie.root ∙ e in absurd cc
    above (suc k) e = omega arith

-- a text ends with itself
ends : (text end : List ℕ) → text ≡ end → EndsWith text end
ends text end same =
    let none : length text - length end ≡ 0 = omega (arith, ap length same) in
    (omega (arith, ap length same), ap (λ (k : ℕ). drop k text) none ∙ same)

is_none : {X : Type 0} (o : Option X) → (IsSome o → ⊥) → o ≡ None
is_none None none = refl
is_none (Some x) none = absurd (none refl)

pub begins_no_key : (tree : Tree Pattern) → IsTrie tree → KeysHaveNodes Pattern → KeysAreLookedUp Pattern → (byte root node : ℕ) → root ≡ 0 → node ≡ 0 → IsLongest tree.texts (node_text tree root ++ byte ∷ []) node → BeginsNoKey (patterns_of tree) byte
begins_no_key tree trie have looked byte root node at_root is longest rest =
    ap (option_and_then (λ found. slice_get found 0)) (looked tree trie (byte ∷ rest) ∙ is_none (entries_of_key tree (byte ∷ rest)) no_key)
  where
    no_key : IsSome (entries_of_key tree (byte ∷ rest)) → ⊥
    no_key some =
        let found = have tree (byte ∷ rest) some in
        let first = first_node tree trie (length rest) byte rest found.0 (omega arith) found.1 found.2 in
        let text : node_text tree root ++ byte ∷ [] ≡ byte ∷ [] = ap (λ (k : ℕ). node_text tree k ++ byte ∷ []) at_root ∙ ap (λ (xs : List ℕ). xs ++ byte ∷ []) trie.root in
        let same : node_text tree root ++ byte ∷ [] ≡ node_text tree first.0 = text ∙ sym first.2 in
        let most = longest.most first.0 first.1 (ends (node_text tree root ++ byte ∷ []) (node_text tree first.0) same) in
        let none : length (node_text tree node) ≡ 0 = ap (λ (k : ℕ). length (node_text tree k)) is ∙ ap length trie.root in
        absurd (omega (arith, most, none, ap length first.2))

pub zero_if : (node : ℕ) → not (node == 0) ≡ false → node ≡ 0
zero_if node unset = elim (cases_eq node 0) [
  | inl is ↦ is
  | inr some ↦ let set : not (node == 0) ≡ true = ap not (ne_eqb node 0 some) in absurd cc
]

pub some_if : (node : ℕ) → not (node == 0) ≡ true → 0 < node
some_if zero set = absurd cc
some_if (suc node) set = omega arith

-- a text that ends one of one byte, and has some bytes, is that text
whole_end : (byte : ℕ) (end : List ℕ) → EndsWith (byte ∷ []) end → 0 < length end → end ≡ byte ∷ []
whole_end byte end ends some =
    let one : length (byte ∷ []) - length end ≡ 0 = omega (arith, some) in
    sym (ap (λ (k : ℕ). drop k (byte ∷ [])) (sym one) ∙ ends.1)

-- a text that begins with that of one byte
begins_with_one : (byte : ℕ) (q : List ℕ) → byte ∷ [] ≡ take 1 q → (rest : List ℕ) × (q ≡ byte ∷ rest)
begins_with_one byte [] is = absurd cc
begins_with_one byte (b ∷ bs) is = (bs, let same : b ≡ byte = cc in ap (λ (x : ℕ). x ∷ bs) same)

pub begins_some_key : (tree : Tree Pattern) → IsTrie tree → KeysAreLookedUp Pattern → EachBeginsKey tree → (byte root node : ℕ) → root ≡ 0 → 0 < node → IsLongest tree.texts (node_text tree root ++ byte ∷ []) node → BeginsSomeKey (patterns_of tree) byte
begins_some_key tree trie looked begins byte root node at_root some longest =
    let text : node_text tree root ++ byte ∷ [] ≡ byte ∷ [] = ap (λ (k : ℕ). node_text tree k ++ byte ∷ []) at_root ∙ ap (λ (xs : List ℕ). xs ++ byte ∷ []) trie.root in
    let key = begins node some longest.within in
    let long : 0 < length (node_text tree node) = above (node_text tree node) (λ e. apart e) in
    let is : node_text tree node ≡ byte ∷ [] = whole_end byte (node_text tree node) (subst (λ (t : List ℕ). EndsWith t (node_text tree node)) text longest.ends) long in
    let front : byte ∷ [] ≡ take 1 key.0 = sym is ∙ key.2 ∙ ap (λ (t : List ℕ). take (length t) key.0) is in
    let split = begins_with_one byte key.0 front in
    (split.0, subst (λ (o : Option (List Pattern)). IsSome o) (sym (looked tree trie (byte ∷ split.0))) (subst (λ (q : List ℕ). IsSome (entries_of_key tree q)) split.1 key.1))
  where
    above : (t : List ℕ) → (t ≡ [] → ⊥) → 0 < length t
    above [] some = absurd (some refl)
    above (x ∷ xs) some = omega arith

    apart : node_text tree node ≡ [] → ⊥
    apart e = let same = trie.distinct node 0 longest.within trie.has_root (e ∙ sym trie.root) in absurd (omega (arith, same, some))

-- The longest beginning of a key that ends at a place of a frame is the text of the longest node there.
use Rattle.std.proofs.Common.{◌≡◌, ℕ, zero, suc, ◌+◌, ◌-◌, ◌<◌, ◌≤◌, nat_eq, nat_cmp, Bool, true, false, cond, List, [], ◌∷◌, ◌++◌, length, take, drop, get_or, Option, Some, None, is_some, refl, sym, ap, subst, ◌∙◌, arith, inl, inr}
use Rattle.std.proofs.lemmas.Bool.{cases_eq, false_from_ne_true, or_left, or_right, or_cases}
use Rattle.std.proofs.lemmas.List.{length-append, length-drop, length-take, drop-take, take-append-le, take_all, take_more, append-nil}
use Rattle.std.proofs.lemmas.List.Elements.{filter_map-append}
use Rattle.std.proofs.lemmas.List.Folds.{Any-from_list_any, list_any_at}
use Rattle.std.specs.Cmp.Lexicographic.{slice_cmp, pointwise, nat_list_eq_equiv, same_text, texts_ties}
use Rattle.std.specs.FinMap as finite
use Rattle.std.specs.List.{find, cons_option, filter_map, list_any, range_with_len, starts_with}
use Rattle.std.specs.Ordering.{eq_by_cmp}
use Rattle.std.specs.Prelude.{IsSome, option_and_then, option_map, slice_get, slice_range}
use Rattle.hyphenation_breaks.specs.Dictionary.{TextMap}
use Rattle.hyphenation_dictionary.specs.Laws.{KeysAreLookedUp}
use Rattle.hyphenation_dictionary.specs.Parts.{patterns_of}
use Rattle.hyphenation_trie.specs.Laws.{KeysHaveNodes, LongestGoesOn}
use Rattle.hyphenation_trie.specs.Links.{EndsWith, IsLongest}
use Rattle.hyphenation_trie.specs.Trie.{Tree, node_text, entries_of_key, IsTrie, EachBeginsKey}
use Rattle.libhyphen_files.specs.Patterns.{Pattern}
use Rattle.libhyphen_rule.specs.Counting.{begins_key, longest_start, Counted, counted_from, counted_if_key, counted_at, counted_up_to}
use Rattle.libhyphen_files.specs.Vectors.{pattern_of_node}
use Rattle.libhyphen_rule.proofs.Pass.{some_has_entries}

-- ---- The first number that passes.

find_first : (test : ℕ → Bool) (a n s : ℕ) → a ≤ s → s < a + n → ((k : ℕ) → a ≤ k → k < s → test k ≡ false) → test s ≡ true
    → find test (range_with_len a n) ≡ Some s
find_first test a zero s low high before here = absurd (omega arith)
find_first test a (suc n) s low high before here = elim (cases_eq a s) [
  | inl is ↦
      ap (λ b. cond {A = Option ℕ} b (Some a) (find test (range_with_len (a + 1) n))) (ap test is ∙ here) ∙ ap Some is
  | inr apart ↦
      ap (λ b. cond {A = Option ℕ} b (Some a) (find test (range_with_len (a + 1) n))) (before a (omega arith) (omega arith))
      ∙ find_first test (a + 1) n s (omega arith) (omega arith) (λ k lo hi. before k (omega arith) hi) here
]

find_none : (test : ℕ → Bool) (a n : ℕ) → ((k : ℕ) → a ≤ k → k < a + n → test k ≡ false) → find test (range_with_len a n) ≡ None
find_none test a zero none = refl
find_none test a (suc n) none =
    ap (λ b. cond {A = Option ℕ} b (Some a) (find test (range_with_len (a + 1) n))) (none a (omega arith) (omega arith))
    ∙ find_none test (a + 1) n (λ k lo hi. none k (omega arith) (omega arith))

-- ---- Beginnings of keys.

pub any_weaker : {X : Type 0} (one other : X → Bool) → ((x : X) → one x ≡ true → other x ≡ true) → (xs : List X)
    → list_any one xs ≡ true → list_any other xs ≡ true
any_weaker one other weaker [] any = any
any_weaker one other weaker (x ∷ xs) any = elim (or_cases (one x) (list_any one xs) any) [
  | inl here ↦ or_left (other x) (list_any other xs) (weaker x here)
  | inr later ↦ or_right (other x) (list_any other xs) (any_weaker one other weaker xs later)
]

begins_equal : (text key : List ℕ) → text ≡ take (length text) key → starts_with nat_eq key text ≡ true
begins_equal text key front =
    subst (λ (t : List ℕ). pointwise nat_eq text t ≡ true) front (nat_list_eq_equiv.refl text)

-- The beginning of a key begins a key.
key_begins : {X : Type 0} (patterns : TextMap X) (text key : List ℕ) → IsSome (finite.get patterns key)
    → text ≡ take (length text) key → list_any (λ k. starts_with nat_eq k text) (finite.keys patterns) ≡ true
key_begins patterns text key some front =
    any_weaker (eq_by_cmp (slice_cmp nat_cmp) key) (λ k. starts_with nat_eq k text)
    (λ k ties. subst (λ (t : List ℕ). starts_with nat_eq t text ≡ true) (same_text key k (sym (texts_ties key k ∙ ties))) (begins_equal text key front))
    (finite.keys patterns) (sym (finite.contains_key-keys patterns key) ∙ some)

-- A key that a text begins.
record Begins {X : Type 0} (patterns : TextMap X) (text key : List ℕ) : Type 0 where
  pub some : IsSome (finite.get patterns key)
  pub front : text ≡ take (length text) key

begun : {X : Type 0} (patterns : TextMap X) (text : List ℕ)
    → list_any (λ k. starts_with nat_eq k text) (finite.keys patterns) ≡ true → (key : List ℕ) × Begins patterns text key
begun patterns text begins =
    let any = Any-from_list_any (λ key. starts_with nat_eq key text) (finite.keys patterns) begins in
    let ties : eq_by_cmp (slice_cmp nat_cmp) any.1 any.1 ≡ true = sym (texts_ties any.1 any.1) ∙ nat_list_eq_equiv.refl any.1 in
    let here : eq_by_cmp (slice_cmp nat_cmp) any.1 (get_or (finite.keys patterns) any.0 any.1) ≡ true =
    ap (eq_by_cmp (slice_cmp nat_cmp) any.1) any.3 ∙ ties in (
      any.1,
      record {
        some = finite.contains_key-keys patterns any.1
            ∙ list_any_at (eq_by_cmp (slice_cmp nat_cmp) any.1) (finite.keys patterns) any.0 any.1 any.2 here;
        front = same_text text (take (length text) any.1) (sym any.4);
      },
    )

front_of : (n : ℕ) (text parent rest : List ℕ) → text ≡ parent ++ rest → n ≤ length parent → take n text ≡ take n parent
front_of n text parent rest is short = ap (take n) is ∙ take-append-le n parent rest short

node_is : (n : ℕ) (found node key text : List ℕ) → found ≡ take n node → node ≡ key → text ≡ take n key → found ≡ text
node_is n found node key text is same front = is ∙ ap (take n) same ∙ sym front

front_again : (text short long : List ℕ) → text ≡ short → long ≡ short → text ≡ long
front_again text short long is same = is ∙ sym same

module _ (tree : Tree Pattern) (trie : IsTrie tree) where
  -- The beginning of a node's text is the text of a node.
  front_node : (more j n : ℕ) → j < length tree.texts → length (node_text tree j) ≡ n + more
      → (i : ℕ) × (i < length tree.texts) × (node_text tree i ≡ take n (node_text tree j))
  front_node zero j n within size = (j, within, sym (take_all n (node_text tree j) (omega arith)))
  front_node (suc more) j n within size = elim (cases_eq j 0) [
    | inl is ↦ absurd (omega (arith, ap (λ (k : ℕ). length (node_text tree k)) is, ap length trie.root))
    | inr some ↦
        let up = trie.closed j (omega arith) within in
        let parent : List ℕ = node_text tree up.0 in
        let long = length-append parent (up.1 ∷ []) in
        let found = front_node more up.0 n up.2 (omega (arith, ap length up.3)) in
        let short : n ≤ length parent = omega (arith, ap length up.3) in
        let front : take n (node_text tree j) ≡ take n parent = front_of n (node_text tree j) parent (up.1 ∷ []) up.3 short in
        (found.0, found.1, front_again (node_text tree found.0) (take n parent) (take n (node_text tree j)) found.2 front)
  ]

  module _ (nodes : KeysHaveNodes Pattern) (looked : KeysAreLookedUp Pattern) (begins : EachBeginsKey tree) where
    has_node : (text : List ℕ) → begins_key (patterns_of tree) text ≡ true → (i : ℕ) × (i < length tree.texts) × (node_text tree i ≡ text)
    has_node text is =
        let key = begun (patterns_of tree) text is in
        let some : IsSome (entries_of_key tree key.0) = ap is_some (sym (looked tree trie key.0)) ∙ key.1.some in
        let node = nodes tree key.0 some in
        let size : length text ≤ length key.0 = omega (arith, ap length key.1.front, length-take (length text) key.0) in
        let found = front_node (length key.0 - length text) node.0 (length text) node.1 (omega (arith, ap length node.2)) in
        (found.0, found.1, node_is (length text) (node_text tree found.0) (node_text tree node.0) key.0 text found.2 node.2 key.1.front)

    node_begins : (node : ℕ) → 0 < node → node < length tree.texts → begins_key (patterns_of tree) (node_text tree node) ≡ true
    node_begins node some within =
        let key = begins node some within in
        key_begins (patterns_of tree) (node_text tree node) key.0 (ap is_some (looked tree trie key.0) ∙ key.1) key.2

    -- ---- The pattern that counts at an end.

    module _ (frame : List ℕ) (end node : ℕ) (le : end ≤ length frame) (longest : IsLongest tree.texts (take end frame) node) where
      text_is : (k : ℕ) → k ≤ end → slice_range frame k end ≡ drop k (take end frame)
      text_is k low =
          let n : k + (end - k) ≡ end = omega arith in
          sym (ap (λ (m : ℕ). drop k (take m frame)) (sym n) ∙ drop-take k (end - k) frame)

      size_is : (k : ℕ) → k ≤ end → length (slice_range frame k end) ≡ end - k
      size_is k low = omega (arith, ap length (text_is k low), length-drop k (take end frame), length-take end frame)

      -- A beginning of a key that ends there is no longer.
      no_longer : (k : ℕ) → k < end → begins_key (patterns_of tree) (slice_range frame k end) ≡ true → end - k ≤ length (node_text tree node)
      no_longer k low is =
          let found = has_node (slice_range frame k end) is in
          let size = size_is k (omega arith) in
          let whole = length-take end frame in
          let from : length (take end frame) - length (slice_range frame k end) ≡ k = omega arith in
          let ends : EndsWith (take end frame) (slice_range frame k end) =
          (omega arith, ap (λ (m : ℕ). drop m (take end frame)) from ∙ sym (text_is k (omega arith))) in
          omega (arith, longest.most found.0 found.1 (subst (λ (x : List ℕ). EndsWith (take end frame) x) (sym found.2) ends), ap length found.2, size)

      none_before : (k : ℕ) → k < end - length (node_text tree node) → begins_key (patterns_of tree) (slice_range frame k end) ≡ false
      none_before k low = false_from_ne_true (begins_key (patterns_of tree) (slice_range frame k end)) (λ is. omega (arith, no_longer k (omega arith) is))

      counted_is : counted_at (patterns_of tree) frame end ≡ option_map (counted_from frame end (end - length (node_text tree node))) (pattern_of_node tree node)
      unfolding longest_start
      counted_is = elim (cases_eq node 0) [
        | inl root ↦
            let nil : length (node_text tree node) ≡ 0 = ap (λ (k : ℕ). length (node_text tree k)) root ∙ ap length trie.root in
            let start : longest_start (patterns_of tree) frame end ≡ None =
            find_none (λ k. begins_key (patterns_of tree) (slice_range frame k end)) 0 end (λ k lo hi. none_before k (omega arith)) in
            ap (option_and_then (counted_if_key (patterns_of tree) frame end)) start
            ∙ ap (option_map (counted_from frame end (end - length (node_text tree node)))) (sym (ap (λ (k : ℕ). pattern_of_node tree k) root))
        | inr some ↦
            let up = trie.closed node (omega arith) longest.within in
            let long = length-append (node_text tree up.0) (up.1 ∷ []) in
            let s : ℕ = end - length (node_text tree node) in
            let whole = length-take end frame in
            let from : length (take end frame) - length (node_text tree node) ≡ s = omega arith in
            let text : slice_range frame s end ≡ node_text tree node =
            text_is s (omega arith) ∙ ap (λ (m : ℕ). drop m (take end frame)) (sym from) ∙ longest.ends.1 in
            let here : begins_key (patterns_of tree) (slice_range frame s end) ≡ true =
            ap (begins_key (patterns_of tree)) text ∙ node_begins node (omega arith) longest.within in
            let start : longest_start (patterns_of tree) frame end ≡ Some s =
            find_first (λ k. begins_key (patterns_of tree) (slice_range frame k end)) 0 end s (omega arith) (omega (arith, ap length up.3, longest.ends.0)) (λ k lo hi. none_before k hi) here in
            ap (option_and_then (counted_if_key (patterns_of tree) frame end)) start
            ∙ ap (option_map (counted_from frame end s))
            (ap (option_and_then (λ found. slice_get found 0)) (looked tree trie (slice_range frame s end) ∙ ap (entries_of_key tree) text)
            ∙ some_has_entries tree node some)
      ]

-- ---- One end more.

pub range_more : (a n : ℕ) → range_with_len a (n + 1) ≡ range_with_len a n ++ (a + n) ∷ []
range_more a zero = ap (λ (k : ℕ). k ∷ []) (omega arith)
range_more a (suc n) =
    let rest : range_with_len (a + 1) (n + 1) ≡ range_with_len (a + 1) n ++ (a + suc n) ∷ [] =
    range_more (a + 1) n ∙ ap (λ (k : ℕ). range_with_len (a + 1) n ++ k ∷ []) (omega arith) in
    let count : suc n + 1 ≡ suc (n + 1) = omega arith in
    ap (range_with_len a) count ∙ ap (λ (xs : List ℕ). a ∷ xs) rest

counted_more : (patterns : TextMap (List Pattern)) (frame : List ℕ) (at : ℕ)
    → counted_up_to patterns frame (at + 1) ≡ counted_up_to patterns frame at ++ cons_option (counted_at patterns frame (at + 1)) []
unfolding counted_up_to
counted_more patterns frame at =
    ap (filter_map (counted_at patterns frame)) (range_more 1 at)
    ∙ filter_map-append (counted_at patterns frame) (range_with_len 1 at) ((1 + at) ∷ [])
    ∙ ap (λ (k : ℕ). filter_map (counted_at patterns frame) (range_with_len 1 at) ++ cons_option (counted_at patterns frame k) []) (omega arith)

-- The pattern of the longest node counts, and nothing else does.
module _ (tree : Tree Pattern) (trie : IsTrie tree) (nodes : KeysHaveNodes Pattern) (looked : KeysAreLookedUp Pattern) (begins : EachBeginsKey tree)
    (frame : List ℕ) (at node : ℕ) (lt : at < length frame) (longest : IsLongest tree.texts (take (at + 1) frame) node) where
  pub counted_none : None ≡ pattern_of_node tree node → counted_up_to (patterns_of tree) frame (at + 1) ≡ counted_up_to (patterns_of tree) frame at
  counted_none none =
      let here = counted_is tree trie nodes looked begins frame (at + 1) node (omega arith) longest in
      counted_more (patterns_of tree) frame at
      ∙ ap (λ o. counted_up_to (patterns_of tree) frame at ++ cons_option {X = Counted} o [])
      (here ∙ ap (option_map (counted_from frame (at + 1) (at + 1 - length (node_text tree node)))) (sym none))
      ∙ append-nil (counted_up_to (patterns_of tree) frame at)

  pub counted_some : (p : Pattern) → Some p ≡ pattern_of_node tree node
      → counted_up_to (patterns_of tree) frame (at + 1)
      ≡ counted_up_to (patterns_of tree) frame at ++ counted_from frame (at + 1) (at + 1 - length (node_text tree node)) p ∷ []
  counted_some p some =
      let here = counted_is tree trie nodes looked begins frame (at + 1) node (omega arith) longest in
      counted_more (patterns_of tree) frame at
      ∙ ap (λ o. counted_up_to (patterns_of tree) frame at ++ cons_option {X = Counted} o [])
      (here ∙ ap (option_map (counted_from frame (at + 1) (at + 1 - length (node_text tree node)))) (sym some))

-- The node after a byte more is the longest there.
pub longest_more : (tree : Tree Pattern) → IsTrie tree → LongestGoesOn Pattern → (frame : List ℕ) (at byte node next : ℕ) → at < length frame
    → byte ≡ get_or frame at 0 → IsLongest tree.texts (take at frame) node
    → IsLongest tree.texts (node_text tree node ++ byte ∷ []) next → IsLongest tree.texts (take (at + 1) frame) next
longest_more tree trie goes_on frame at byte node next lt read longest step =
    let more : take (at + 1) frame ≡ take at frame ++ byte ∷ [] = take_more frame at 0 lt ∙ ap (λ (b : ℕ). take at frame ++ b ∷ []) (sym read) in
    subst (λ (x : List ℕ). IsLongest tree.texts x next) (sym more) (goes_on tree trie (take at frame) byte node next longest step)

-- Before the first byte the root is the longest.
pub longest_none : (tree : Tree Pattern) → IsTrie tree → (frame : List ℕ) (root : ℕ) → root ≡ 0 → IsLongest tree.texts (take 0 frame) root
longest_none tree trie frame root is =
    let nil : length (node_text tree 0) ≡ 0 = ap length trie.root in
    subst (λ (k : ℕ). IsLongest tree.texts (take 0 frame) k) (sym is) (record {
      within = trie.has_root;
      ends = subst (λ (s : List ℕ). EndsWith [] s) (sym trie.root) (omega arith, refl);
      most = λ k lk ends. omega (arith, ends.0);
    })

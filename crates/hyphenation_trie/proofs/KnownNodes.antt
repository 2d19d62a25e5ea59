-- How the vectors of nodes are made by their links.
use Rattle.std.proofs.Common.{◌≡◌, ℕ, suc, ◌+◌, ◌-◌, ◌<◌, ◌≤◌, max, ◌==◌, Bool, true, false, cond, List, [], ◌∷◌, ◌++◌, length, take, drop, get_or, set, map, filter, fold, replicate, Option, Some, None, refl, sym, ap, subst, ◌∙◌, arith, inl, inr, if◌then◌else◌, nat_le, true≢false}
use Rattle.std.specs.Prelude.{is_some, unwrap_or, count_by, slice_index, slice_index_or}
use Rattle.std.specs.List.{flat_map, range_with_len}
use Rattle.std.proofs.lemmas.Bool.{cases_lt, cases_eq, eq-eqb, ne_eqb}
use Rattle.std.proofs.lemmas.Grind.{fold-append}
use Rattle.std.proofs.lemmas.List.{length-replicate, length-take, length-set, get_or-set_same, get_or-set_other, get_or_default, get_or-take, map-append, take_more}
use Rattle.std.proofs.lemmas.List.Elements.{filter-append, filter_agree}
use Rattle.hyphenation_breaks.specs.Dictionary.{Patterns, greatest}
use Rattle.hyphenation_breaks.specs.Ranks.{greatest_rank, rank_as_byte}
use Rattle.hyphenation_breaks.specs.declared.entry.Entry.{Entry}
use Rattle.hyphenation_trie.specs.Links.{IsLongest}
use Rattle.hyphenation_trie.specs.Private.Known.{AreByDepth, AreKnown, IsKnown, IsKnownNode, IsRaisedBy}
use Rattle.hyphenation_trie.specs.Pairs.{ArePairs, IsPairAt, KeepsPairs}
use Rattle.hyphenation_trie.specs.Private.Vectors.{AreKnownTo, IsKnownAt}
use Rattle.hyphenation_trie.specs.Trie.{Tree, node_text, entries_of_key, IsTrie}
use Rattle.hyphenation_trie.specs.Vectors.{AreNearEntries, entries_before, keys_at_end}
use Rattle.hyphenation_trie.proofs.ChainsGrow.{zero_read}
use Rattle.hyphenation_trie.proofs.LinksMade.{link_less}
use Rattle.hyphenation_trie.proofs.Suffixes.{depth_pos}
use Rattle.hyphenation_trie.proofs.Tails.{count_append, count_same, count_shift, entries_same, flat_map_shift, none_counted, none_longer, one_counted, same_tests}

-- ---- the greatest of ranks

greatest_from : (a : ℕ) (ns : List ℕ) → fold max a ns ≡ max a (greatest ns)
greatest_from a [] = omega arith
greatest_from a (n ∷ ns) = omega (arith, greatest_from (max a n) ns, greatest_from (max 0 n) ns)

greatest_rank-append : {C : Type 0} (rank : C → ℕ → ℕ) (xs ys : List (Entry C)) → greatest_rank rank (xs ++ ys) ≡ max (greatest_rank rank xs) (greatest_rank rank ys)
greatest_rank-append rank xs ys =
    let vs : List ℕ = map (λ e. rank e.change e.value) xs in
    let ws : List ℕ = map (λ e. rank e.change e.value) ys in
    ap greatest (map-append (λ e. rank e.change e.value) xs ys) ∙ fold-append max 0 vs ws ∙ greatest_from (greatest vs) ws

one_rank : {C : Type 0} (rank : C → ℕ → ℕ) (p : Entry C → Bool) (e : Entry C) → greatest_rank rank (filter p (e ∷ [])) ≡ cond (p e) (rank e.change e.value) 0
one_rank {C} rank p e = elim (p e) as (λ b. greatest_rank rank (cond {A = List (Entry C)} b (e ∷ []) []) ≡ cond b (rank e.change e.value) 0) [ true ↦ omega arith | false ↦ refl ]

filtered_more : {C : Type 0} (rank : C → ℕ → ℕ) (p : Entry C → Bool) (es : List (Entry C)) (k : ℕ) (e : Entry C) → k < length es → e ≡ get_or es k e
    → greatest_rank rank (filter p (take (k + 1) es)) ≡ max (greatest_rank rank (filter p (take k es))) (cond (p e) (rank e.change e.value) 0)
filtered_more rank p es k e lt read =
    let more : take (k + 1) es ≡ take k es ++ e ∷ [] = take_more es k e lt ∙ ap (λ x. take k es ++ x ∷ []) (sym read) in
    ap (λ xs. greatest_rank rank (filter p xs)) more ∙ ap (greatest_rank rank) (filter-append p (take k es) (e ∷ []))
    ∙ greatest_rank-append rank (filter p (take k es)) (filter p (e ∷ [])) ∙ ap (max (greatest_rank rank (filter p (take k es)))) (one_rank rank p e)

-- ---- a vector raised to entries

pub set_raises : (now : List ℕ) (at v lane : ℕ) → at < length now → get_or now at 0 < v → get_or (set now at v) lane 0 ≡ max (get_or now lane 0) (cond (lane == at) v 0)
set_raises now at v lane lt less = elim (cases_eq lane at) [
  | inl is ↦
      let here : get_or (set now at v) lane 0 ≡ v = ap (λ (k : ℕ). get_or (set now at v) k 0) is ∙ get_or-set_same now at v 0 lt in
      let test : cond (lane == at) v 0 ≡ v = ap (λ b. cond b v 0) (eq-eqb lane at is) in
      omega (arith, here, test, ap (λ (k : ℕ). get_or now k 0) is)
  | inr apart ↦
      let there : get_or (set now at v) lane 0 ≡ get_or now lane 0 = get_or-set_other now at lane v 0 apart in
      let test : cond (lane == at) v 0 ≡ 0 = ap (λ b. cond b v 0) (ne_eqb lane at apart) in
      omega (arith, there, test)
]

pub keep_raises : (now : List ℕ) (at v lane : ℕ) → v ≤ get_or now at 0 → get_or now lane 0 ≡ max (get_or now lane 0) (cond (lane == at) v 0)
keep_raises now at v lane le = elim (cases_eq lane at) [
  | inl is ↦
      let test : cond (lane == at) v 0 ≡ v = ap (λ b. cond b v 0) (eq-eqb lane at is) in
      omega (arith, test, ap (λ (k : ℕ). get_or now k 0) is)
  | inr apart ↦
      let test : cond (lane == at) v 0 ≡ 0 = ap (λ b. cond b v 0) (ne_eqb lane at apart) in
      omega (arith, test)
]

-- one more entry, with its rank
pub raised_next : {C : Type 0} (rank : C → ℕ → ℕ) (old now next : List ℕ) (es : List (Entry C)) (k : ℕ) (e : Entry C) (v bytes : ℕ) → k < length es → e ≡ get_or es k e → v ≡ rank e.change e.value → e.place ≤ bytes → bytes - e.place ≤ 15
    → IsRaisedBy rank old now (take k es) bytes → length next ≡ 16 → ((lane : ℕ) → get_or next lane 0 ≡ max (get_or now lane 0) (cond (lane == 15 - (bytes - e.place)) v 0))
    → IsRaisedBy rank old next (take (k + 1) es) bytes
raised_next {C} rank old now next es k e v bytes lt read v_is le close was lanes raised = record {
  lanes = lanes;
  each = λ lane distance is.
      let p : Entry C → Bool = λ entry. entry.place + distance == bytes in
      let same = same_tests lane (15 - (bytes - e.place)) (e.place + distance) bytes (λ h. omega arith) (λ h. omega arith) in
      let here : get_or next lane 0 ≡ max (get_or now lane 0) (cond (p e) (rank e.change e.value) 0) = raised lane ∙ ap (λ b. max (get_or now lane 0) (cond b v 0)) same
      ∙ ap (λ (r : ℕ). max (get_or now lane 0) (cond (p e) r 0)) v_is in
      omega (arith, here, was.each lane distance is, filtered_more rank p es k e lt read);
}

pub near_next : {C : Type 0} (es : List (Entry C)) (k : ℕ) (e : Entry C) (bytes : ℕ) → k < length es → e ≡ get_or es k e → e.place ≤ bytes → bytes - e.place ≤ 15
    → AreNearEntries (take k es) bytes → AreNearEntries (take (k + 1) es) bytes
near_next {C} es k e bytes lt read le close near = λ entry among.
    let i : ℕ = among.0 in
    let n = length-take (k + 1) es in
    elim (cases_lt i k) [
      | inl low ↦ near entry (i, (omega (arith, length-take k es), among.1.1 ∙ get_or-take (k + 1) es i entry (omega arith) ∙ sym (get_or-take k es i entry low)))
      | inr high ↦
          let at : i ≡ k = omega (arith, among.1.0) in
          let same : entry ≡ e = among.1.1 ∙ get_or-take (k + 1) es i entry (omega arith) ∙ ap (λ (j : ℕ). get_or es j entry) at ∙ get_or_default es k entry e lt ∙ sym read in
          let places : entry.place ≡ e.place = ap (λ x. x.place) same in
          (omega arith, omega arith)
    ]

-- ---- a text and the text without its first byte

pub entries_first : {C : Type 0} (rank : C → ℕ → ℕ) (keys : Patterns C) (text : List ℕ) (distance : ℕ) → 0 < length text
    → greatest_rank rank (entries_before keys text distance)
    ≡ max (greatest_rank rank (filter (λ entry. entry.place + distance == length text) (unwrap_or (keys text) []))) (greatest_rank rank (entries_before keys (drop 1 text) distance))
entries_first rank keys [] distance pos = absurd (omega arith)
entries_first rank keys (x ∷ rest) distance pos =
    let text : List ℕ = x ∷ rest in
    let f = λ (d : ℕ). filter (λ entry. d + entry.place + distance == length text) (unwrap_or (keys (drop d text)) []) in
    let h = λ (d : ℕ). filter (λ entry. d + entry.place + distance == length rest) (unwrap_or (keys (drop d rest)) []) in
    let own = filter_agree (λ entry. 0 + entry.place + distance == length text) (λ entry. entry.place + distance == length text) (λ entry. same_tests (0 + entry.place + distance) (length text) (entry.place + distance) (length text) (λ e. omega arith) (λ e. omega arith)) (unwrap_or (keys text) []) in
    greatest_rank-append rank (f 0) (flat_map f (range_with_len (0 + 1) (length rest)))
    ∙ ap (λ es. max (greatest_rank rank es) (greatest_rank rank (flat_map f (range_with_len (0 + 1) (length rest))))) own
    ∙ ap (λ es. max (greatest_rank rank (filter (λ entry. entry.place + distance == length text) (unwrap_or (keys text) []))) (greatest_rank rank es))
    (flat_map_shift f h (0 + 1) 0 (length rest) (λ d lt.
    let at : (0 + 1) + d ≡ suc d = omega arith in
    let first : 0 + d ≡ d = omega arith in
    ap f at
    ∙ filter_agree (λ entry. suc d + entry.place + distance == length text) (λ entry. d + entry.place + distance == length rest) (λ entry. same_tests (suc d + entry.place + distance) (length text) (d + entry.place + distance) (length rest) (λ e. omega arith) (λ e. omega arith)) (unwrap_or (keys (drop d rest)) [])
    ∙ ap h (sym first)))

pub count_first : {C : Type 0} (keys : Patterns C) (text : List ℕ) → 0 < length text → keys_at_end keys text ≡ cond (is_some (keys text)) 1 0 + keys_at_end keys (drop 1 text)
count_first keys [] pos = absurd (omega arith)
count_first keys (x ∷ rest) pos =
    let text : List ℕ = x ∷ rest in
    let p = λ (d : ℕ). is_some (keys (drop d text)) in
    let q = λ (d : ℕ). is_some (keys (drop d rest)) in
    let one : count_by p (0 ∷ []) ≡ cond (is_some (keys text)) 1 0 = elim (is_some (keys text)) as (λ v. is_some (keys text) ≡ v → count_by p (0 ∷ []) ≡ cond v 1 0) [
      | true ↦ λ h. one_counted p 0 h
      | false ↦ λ h. none_counted p 0 h
    ] refl in
    let rest_is = count_shift p q (0 + 1) 0 (length rest) (λ d lt.
    let at : (0 + 1) + d ≡ suc d = omega arith in
    let first : 0 + d ≡ d = omega arith in
    ap p at ∙ ap q (sym first)) in
    count_append p (0 ∷ []) (range_with_len (0 + 1) (length rest)) ∙ ap (λ (k : ℕ). k + count_by p (range_with_len (0 + 1) (length rest))) one ∙ ap (λ (k : ℕ). cond (is_some (keys text)) 1 0 + k) rest_is

-- ---- nodes

-- the empty text
pub known_root : {C : Type 0} (rank : C → ℕ → ℕ) (keys : Patterns C) (text vector : List ℕ) (count : ℕ) → text ≡ [] → length vector ≡ 16 → ((lane : ℕ) → get_or vector lane 0 ≡ 0) → count ≡ 0 → IsKnown rank keys text vector count
known_root rank keys text vector count nil lanes zeros none = subst (λ (t : List ℕ). IsKnown rank keys t vector count) (sym nil) (record {
  vector = record { lanes = lanes; each = λ lane distance e. zeros lane };
  counted = none;
  near = λ entries long is. absurd (omega arith);
})

-- entries, if any, are near
abbrev MatchEntries : {C : Type 0} → Option (List (Entry C)) → ℕ → Type 0
MatchEntries None bytes = Unit {0}
MatchEntries (Some entries) bytes = AreNearEntries entries bytes

-- the number of keys that end a node's text, by that of its link
count_next : {C : Type 0} (tree : Tree (Entry C)) → IsTrie tree → (node link : ℕ) → 0 < node → node < length tree.texts → IsLongest tree.texts (drop 1 (node_text tree node)) link
    → keys_at_end (entries_of_key tree) (node_text tree node) ≡ cond (is_some (entries_of_key tree (node_text tree node))) 1 0 + keys_at_end (entries_of_key tree) (node_text tree link)
count_next tree trie node link pos lt longest =
    let text = node_text tree node in
    count_first (entries_of_key tree) text (depth_pos tree trie node pos lt)
    ∙ ap (λ (k : ℕ). cond (is_some (entries_of_key tree text)) 1 0 + k) (count_same (entries_of_key tree) (drop 1 text) (node_text tree link) longest.ends (λ d low. none_longer tree (drop 1 text) link d longest low))

module _ {C : Type 0} (rank : C → ℕ → ℕ) (tree : Tree (Entry C)) (trie : IsTrie tree) where
  -- the vector of a node, by that of its link
  pub value_next : (node link distance : ℕ) → 0 < node → node < length tree.texts → IsLongest tree.texts (drop 1 (node_text tree node)) link
      → greatest_rank rank (entries_before (entries_of_key tree) (node_text tree node) distance)
      ≡ max (greatest_rank rank (filter (λ entry. entry.place + distance == length (node_text tree node)) (unwrap_or (entries_of_key tree (node_text tree node)) [])))
      (greatest_rank rank (entries_before (entries_of_key tree) (node_text tree link) distance))
  value_next node link distance pos lt longest =
      let text = node_text tree node in
      let own : ℕ = greatest_rank rank (filter (λ entry. entry.place + distance == length text) (unwrap_or (entries_of_key tree text) [])) in
      entries_first rank (entries_of_key tree) text distance (depth_pos tree trie node pos lt)
      ∙ ap (λ es. max own (greatest_rank rank es)) (entries_same (entries_of_key tree) (drop 1 text) (node_text tree link) longest.ends (λ d low. none_longer tree (drop 1 text) link d longest low) distance)

  -- a node that is a key
  pub known_key : (node link : ℕ) (old new : List ℕ) (count : ℕ) (entries : List (Entry C)) → 0 < node → node < length tree.texts → IsLongest tree.texts (drop 1 (node_text tree node)) link
      → IsKnown rank (entries_of_key tree) (node_text tree link) old count → Some entries ≡ entries_of_key tree (node_text tree node)
      → IsRaisedBy rank old new entries (length (node_text tree node)) → AreNearEntries entries (length (node_text tree node))
      → IsKnown rank (entries_of_key tree) (node_text tree node) new (count + 1)
  known_key node link old new count entries pos lt longest known is raised near = record {
    vector = record {
      lanes = raised.lanes;
      each = λ lane distance e.
          let own = ap (λ o. greatest_rank rank (filter (λ entry. entry.place + distance == length (node_text tree node)) (unwrap_or o []))) is in
          omega (arith, raised.each lane distance e, known.vector.each lane distance e, value_next node link distance pos lt longest, own);
    };
    counted =
        let some : ◌≡◌ {A = ℕ} (cond (is_some (entries_of_key tree (node_text tree node))) 1 0) 1 = ap (λ o. cond {A = ℕ} (is_some o) 1 0) (sym is) in
        omega (arith, known.counted, count_next tree trie node link pos lt longest, some);
    near = λ others long other_is. subst (λ o. MatchEntries o (length (node_text tree node))) (is ∙ other_is) near;
  }

  -- a node that is none
  pub known_none : (node link : ℕ) (old : List ℕ) (count : ℕ) → 0 < node → node < length tree.texts → IsLongest tree.texts (drop 1 (node_text tree node)) link
      → IsKnown rank (entries_of_key tree) (node_text tree link) old count → None ≡ entries_of_key tree (node_text tree node)
      → IsKnown rank (entries_of_key tree) (node_text tree node) old count
  known_none node link old count pos lt longest known is = record {
    vector = record {
      lanes = known.vector.lanes;
      each = λ lane distance e.
          let own = ap (λ o. greatest_rank rank (filter (λ entry. entry.place + distance == length (node_text tree node)) (unwrap_or o []))) is in
          omega (arith, known.vector.each lane distance e, value_next node link distance pos lt longest, own);
    };
    counted =
        let some : ◌≡◌ {A = ℕ} (cond (is_some (entries_of_key tree (node_text tree node))) 1 0) 0 = ap (λ o. cond {A = ℕ} (is_some o) 1 0) (sym is) in
        omega (arith, known.counted, count_next tree trie node link pos lt longest, some);
    near = λ others long other_is. let bad = is ∙ other_is in absurd cc;
  }

-- ---- pairs and their numbers

pub known_at : {C : Type 0} (rank : C → ℕ → ℕ) (tree : Tree (Entry C)) (vectors : List (List ℕ)) (counts : List ℕ) (number node : ℕ) (vector : List ℕ) (count : ℕ) → IsPairAt vectors counts number vector count
    → IsKnown rank (entries_of_key tree) (node_text tree node) vector count → IsKnownAt rank tree vectors counts number node
known_at rank tree vectors counts number node vector count pair known = record {
  within = pair.within;
  known = subst (λ (v : List ℕ). IsKnown rank (entries_of_key tree) (node_text tree node) v (slice_index counts number)) (sym pair.vector_is)
      (subst (λ (n : ℕ). IsKnown rank (entries_of_key tree) (node_text tree node) vector n) (sym pair.count_is) known);
}

-- ---- the nodes in the order of their depths

node_known : {C : Type 0} (rank : C → ℕ → ℕ) (tree : Tree (Entry C)) (numbers : List ℕ) (vectors : List (List ℕ)) (counts : List ℕ) (node number : ℕ) → slice_index numbers node ≡ number → IsKnownAt rank tree vectors counts number node
    → IsKnownNode rank tree numbers vectors counts node
node_known rank tree numbers vectors counts node number e at =
    let there : IsKnownAt rank tree vectors counts (slice_index numbers node) node = subst (λ (k : ℕ). IsKnownAt rank tree vectors counts k node) (sym e) at in
    record { within = there.within; known = there.known }

first_known : {C : Type 0} (rank : C → ℕ → ℕ) (tree : Tree (Entry C)) → IsTrie tree → (order numbers : List ℕ) → numbers ≡ replicate (length tree.texts) 0 → AreKnownTo rank tree order numbers (replicate 16 0 ∷ []) (0 ∷ []) 0
first_known rank tree trie order numbers zeros =
    let root : slice_index numbers 0 ≡ 0 = ap (λ (ns : List ℕ). slice_index ns 0) zeros ∙ zero_read (length tree.texts) 0 in
    record {
      nodes = ap length zeros ∙ length-replicate (length tree.texts) 0;
      pairs = record { counts_of = refl; few = omega arith };
      root = root;
      first = node_known rank tree numbers (replicate 16 0 ∷ []) (0 ∷ []) 0 0 root (record { within = omega arith; known = known_root rank (entries_of_key tree) (node_text tree 0) (replicate 16 0) 0 trie.root refl (zero_read 16) refl });
      each = λ i lt. absurd (omega arith);
    }

-- the root is known by its pair, which is the first one
pub known_start : {C : Type 0} (rank : C → ℕ → ℕ) (tree : Tree (Entry C)) → IsTrie tree → (order numbers : List ℕ) (no_vectors vectors : List (List ℕ)) (n : ℕ) (no_counts counts : List ℕ) → n ≡ length tree.texts → numbers ≡ replicate n 0
    → no_vectors ≡ [] → vectors ≡ no_vectors ++ replicate 16 0 ∷ [] → no_counts ≡ [] → counts ≡ no_counts ++ 0 ∷ [] → AreKnownTo rank tree order numbers vectors counts 0
known_start rank tree trie order numbers no_vectors vectors n no_counts counts nodes zeros no_vector one_vector no_count one_count =
    let vectors_are : vectors ≡ replicate 16 0 ∷ [] = one_vector ∙ ap (λ (vs : List (List ℕ)). vs ++ replicate 16 0 ∷ []) no_vector in
    let counts_are : counts ≡ 0 ∷ [] = one_count ∙ ap (λ (ns : List ℕ). ns ++ 0 ∷ []) no_count in
    subst (λ (vs : List (List ℕ)). AreKnownTo rank tree order numbers vs counts 0) (sym vectors_are)
    (subst (λ (ns : List ℕ). AreKnownTo rank tree order numbers (replicate 16 0 ∷ []) ns 0) (sym counts_are) (first_known rank tree trie order numbers (zeros ∙ ap (λ (k : ℕ). replicate {A = ℕ} k 0) nodes)))

module _ {C : Type 0} (rank : C → ℕ → ℕ) (tree : Tree (Entry C)) (trie : IsTrie tree) (order : List ℕ) (by_depth : AreByDepth tree.texts order) where
  -- the link of the next node is known
  pub link_known : (numbers : List ℕ) (vectors : List (List ℕ)) (counts : List ℕ) (n link : ℕ) → n < length order → IsLongest tree.texts (drop 1 (node_text tree (slice_index order n))) link
      → AreKnownTo rank tree order numbers vectors counts n → IsKnownNode rank tree numbers vectors counts link
  link_known numbers vectors counts n link lt longest known = elim (cases_eq link 0) [
    | inl is ↦ subst (λ (k : ℕ). IsKnownNode rank tree numbers vectors counts k) (sym is) known.first
    | inr apart ↦
        let node : ℕ = slice_index order n in
        let here = by_depth.within n lt in
        let there = by_depth.all link (omega arith) longest.within in
        let less : length (node_text tree link) < length (node_text tree node) = link_less tree (node_text tree node) link (depth_pos tree trie node here.0 here.1) longest in
        elim (cases_lt there.0 n) [
          | inl low ↦ subst (λ (k : ℕ). IsKnownNode rank tree numbers vectors counts k) there.2 (known.each there.0 low)
          | inr high ↦ absurd (omega (arith, less, by_depth.ascend n there.0 high there.1, ap (λ (k : ℕ). length (node_text tree k)) there.2))
        ]
  ]

  pub known_more : (numbers : List ℕ) (old_vectors vectors : List (List ℕ)) (old_counts counts : List ℕ) (n number : ℕ) → n < length order → KeepsPairs old_vectors old_counts vectors counts → ArePairs vectors counts
      → IsKnownAt rank tree vectors counts number (slice_index order n) → AreKnownTo rank tree order numbers old_vectors old_counts n
      → AreKnownTo rank tree order (set numbers (slice_index order n) number) vectors counts (n + 1)
  known_more numbers old_vectors vectors old_counts counts n number lt kept pairs new known =
      let node : ℕ = slice_index order n in
      let now : List ℕ = set numbers node number in
      let here = by_depth.within n lt in
      let at : (j : ℕ) → ((j ≡ node → ⊥) → IsKnownNode rank tree numbers old_vectors old_counts j) → IsKnownNode rank tree now vectors counts j = λ j rest. elim (cases_eq j node) [
        | inl is ↦ node_known rank tree now vectors counts j number (ap (λ (k : ℕ). slice_index now k) is ∙ get_or-set_same numbers node number 0 (omega (arith, known.nodes, here.1))) (subst (λ (k : ℕ). IsKnownAt rank tree vectors counts number k) (sym is) new)
        | inr apart ↦
            let was = rest apart in
            let k : ℕ = slice_index numbers j in
            node_known rank tree now vectors counts j k (get_or-set_other numbers node j number 0 apart) (known_at rank tree vectors counts k j (slice_index_or old_vectors k []) (slice_index old_counts k) (kept k was.within) was.known)
      ] in
      record {
        nodes = length-set numbers node number ∙ known.nodes;
        pairs = pairs;
        root = get_or-set_other numbers node 0 number 0 (λ e. omega (arith, e, here.0)) ∙ known.root;
        first = at 0 (λ apart. known.first);
        each = λ i low. at (slice_index order i) (λ apart. elim (cases_lt i n) [
          | inl before ↦ known.each i before
          | inr past ↦ let same : i ≡ n = omega arith in absurd (apart (ap (λ (k : ℕ). slice_index order k) same))
        ]);
      }

  pub known_all : (numbers : List ℕ) (vectors : List (List ℕ)) (counts : List ℕ) (n : ℕ) → length order ≤ n → AreKnownTo rank tree order numbers vectors counts n → AreKnown rank tree numbers vectors counts
  known_all numbers vectors counts n past known = record {
    nodes = known.nodes;
    counts_of = known.pairs.counts_of;
    few = known.pairs.few;
    root = known.root;
    each = λ j lt. elim (cases_eq j 0) [
      | inl is ↦ subst (λ (k : ℕ). IsKnownNode rank tree numbers vectors counts k) (sym is) known.first
      | inr apart ↦
          let there = by_depth.all j (omega arith) lt in
          subst (λ (k : ℕ). IsKnownNode rank tree numbers vectors counts k) there.2 (known.each there.0 (omega (arith, there.1, past)))
    ];
  }

-- ---- ranks that are bytes

in_byte : (is_in : Bool) (byte rank : ℕ) → Some byte ≡ if is_in then Some rank else None → byte ≡ rank
in_byte true byte rank is = ap (λ found. unwrap_or found 0) is
in_byte false byte rank is = absurd (true≢false (ap is_some is))

pub rank_of_byte : (byte rank : ℕ) → Some byte ≡ rank_as_byte rank → byte ≡ rank
rank_of_byte byte rank is = in_byte (nat_le rank 255) byte rank is

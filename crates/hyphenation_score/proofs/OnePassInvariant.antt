-- The invariant of the pass over the frame of a word.
use Rattle.std.proofs.Common.{◌≡◌, ◌+◌, ◌-◌, ◌*◌, ◌<◌, ◌≤◌, ℕ, List, [], ◌∷◌, ◌++◌, length, take, drop, slice_index, refl, ap, sym, subst, ◌∙◌, arith, None, add-one}
use Rattle.std.specs.List.{range_with_len, sum_by}
use Rattle.std.proofs.Math.Seq.{get_or-append_seam}
use Rattle.std.proofs.lemmas.List.{length-take, get_or_append_left}
use Rattle.hyphenation_trie.specs.Trie.{Tree, node_text, entries_of_key, IsTrie, EachBeginsKey}
use Rattle.hyphenation_trie.specs.Links.{IsLongest, keys_in}
use Rattle.hyphenation_breaks.specs.declared.entry.Entry.{Entry}
use Rattle.hyphenation_trie.specs.Laws.{KeysHaveNodes, LongestGoesOn}
use Rattle.hyphenation_score.specs.Scoring.{frame}
use Rattle.hyphenation_score.specs.OnePass.{keys_ending, occurrences}
use Rattle.hyphenation_score.specs.Private.OnePass.{entries_of_ends, bearers_to, bearers_by_ends, AreAfter}
use Rattle.hyphenation_score.proofs.OnePass.{length-frame, read_more, sum_more, flat_map_more, after_none, after_more, ending_is, alone_is, counted_is, keys_in_most}

-- The first bytes of the frame are read: the node, the slots at first and now, and the counts at first and now.
pub record Passed {C S State : Type 0} (meaning : S → State) (after : State → Entry C → State) (tree : Tree (Entry C)) (word : List ℕ) (first : List S) (at node : ℕ) (slots : List S) (made_first reported_first made reported : ℕ) : Type 0 where
  pub longest : IsLongest tree.texts (take at (frame word)) node
  pub len : length slots ≡ length first
  pub met : AreAfter meaning after first (bearers_by_ends (entries_of_key tree) (frame word) at) slots
  pub most : made + length (node_text tree node) ≤ made_first + 2 * at
  pub alone : ((q : List ℕ) → entries_of_key tree q ≡ None) → made ≤ made_first + at
  pub least : made_first + at ≤ made
  pub reported_is : reported ≡ reported_first + sum_by (λ end. keys_ending (entries_of_key tree) (frame word) end) (range_with_len 1 at)
  pub few : reported ≤ reported_first + at * (length word + 2)

module _ {C S State : Type 0} {meaning : S → State} {after : State → Entry C → State} (tree : Tree (Entry C)) (word : List ℕ) (trie : IsTrie tree) where
  pub passed_none : (slots : List S) (root made reported : ℕ) → root ≡ 0 → Passed meaning after tree word slots 0 root slots made reported made reported
  passed_none slots root made reported is =
      let nil : length (node_text tree 0) ≡ 0 = ap length trie.root in
      subst (λ (k : ℕ). Passed meaning after tree word slots 0 k slots made reported made reported) (sym is) (record {
        longest = record { within = trie.has_root; ends = subst (λ (s : List ℕ). (length s ≤ 0) × (drop (0 - length s) [] ≡ s)) (sym trie.root) (omega arith, refl); most = λ k lk ends. omega (arith, ends.0) };
        len = refl;
        met = after_none meaning after slots (bearers_by_ends (entries_of_key tree) (frame word) 0) (λ p. refl);
        most = omega arith;
        alone = λ none. omega arith;
        least = omega arith;
        reported_is = omega arith;
        few = omega arith;
      })

  module _ {first slots : List S} {at node m0 r0 m r : ℕ} (p : Passed meaning after tree word first at node slots m0 r0 m r) where
    pub passed_reported : at ≡ length word + 2 → r ≡ r0 + occurrences (entries_of_key tree) (frame word)
    passed_reported is = p.reported_is ∙ ap (λ (k : ℕ). r0 + sum_by (λ end. keys_ending (entries_of_key tree) (frame word) end) (range_with_len 1 k)) (is ∙ sym (length-frame word))

    -- One byte more is read.
    pub passed_more : KeysHaveNodes (Entry C) → LongestGoesOn (Entry C) → EachBeginsKey tree → (byte next met_at end m' r' : ℕ) (new : List S)
        → at < length word + 2 → byte ≡ slice_index (frame word) at → met_at ≡ at + 1 → end ≡ at + 1
        → IsLongest tree.texts (node_text tree node ++ byte ∷ []) next
        → length new ≡ length slots
        → AreAfter meaning after slots (entries_of_ends (entries_of_key tree) (node_text tree next) met_at) new
        → m + 1 ≤ m' → m' + length (node_text tree next) ≤ m + length (node_text tree node) + 2 → m' ≤ m + length (node_text tree node) + 1
        → r' ≡ r + keys_in tree (node_text tree next) (length (node_text tree next))
        → Passed meaning after tree word first end next new m0 r0 m' r'
    passed_more nodes goes_on begins byte next met_at end m' r' new inside byte_is met_is ends_at step len met least most alone counted =
        let lt : at < length (frame word) = omega (arith, length-frame word) in
        let longest = subst (λ (k : ℕ). IsLongest tree.texts (take k (frame word)) next) (sym ends_at) (read_more tree.texts (frame word) (take at (frame word)) at byte next lt byte_is refl (goes_on tree trie (take at (frame word)) byte node next p.longest step)) in
        let last : 1 + at ≡ end = omega arith in
        let within : end ≤ length (frame word) = omega arith in
        record {
          longest = longest;
          len = len ∙ p.len;
          met = after_more meaning after first slots new (bearers_by_ends (entries_of_key tree) (frame word) at) (entries_of_ends (entries_of_key tree) (node_text tree next) end) (bearers_by_ends (entries_of_key tree) (frame word) end) p.len
              (λ q. ap (λ (k : ℕ). bearers_by_ends (entries_of_key tree) (frame word) k q) ends_at ∙ flat_map_more (bearers_to (entries_of_key tree) (frame word) q) 1 at ∙ ap (λ (k : ℕ). bearers_by_ends (entries_of_key tree) (frame word) at q ++ bearers_to (entries_of_key tree) (frame word) q k) last
              ∙ ap (λ es. bearers_by_ends (entries_of_key tree) (frame word) at q ++ es) (ending_is tree nodes (frame word) end q next within longest))
              p.met (subst (λ (k : ℕ). AreAfter meaning after slots (entries_of_ends (entries_of_key tree) (node_text tree next) k) new) (met_is ∙ sym ends_at) met);
          most = let was = p.most in omega arith;
          alone = λ none.
              let was = p.alone none in
              let zero_is = alone_is tree begins none node p.longest.within in
              let nil = ap (λ (k : ℕ). length (node_text tree k)) zero_is ∙ ap length trie.root in
              omega arith;
          least = let was = p.least in omega arith;
          reported_is =
              let f = λ (end : ℕ). keys_ending (entries_of_key tree) (frame word) end in
              let more = ap (λ (k : ℕ). sum_by f (range_with_len 1 k)) ends_at ∙ sum_more f 1 at ∙ ap (λ (k : ℕ). sum_by f (range_with_len 1 at) + f k) last in
              let is = counted_is tree nodes (frame word) end next within longest in
              omega (arith, counted, p.reported_is, more, is);
          few =
              let was = p.few in
              let size = keys_in_most tree (node_text tree next) (length (node_text tree next)) in
              let short = longest.ends.0 in
              let long = length-take end (frame word) in
              omega (arith, counted, length-frame word, ap (λ (k : ℕ). k * (length word + 2)) ends_at);
        }

-- The byte of a word, and the dot after it, in the frame.
module _ (word : List ℕ) where
  pub word_byte : (at : ℕ) → at < length word → slice_index word at ≡ slice_index (frame word) (at + 1)
  word_byte at lt = sym (get_or_append_left word (46 ∷ []) 0 at lt) ∙ ap (slice_index (frame word)) (sym (add-one at))

  pub last_byte : 46 ≡ slice_index (frame word) (length word + 1)
  last_byte = sym (get_or-append_seam word 46 [] 0) ∙ ap (slice_index (frame word)) (sym (add-one (length word)))

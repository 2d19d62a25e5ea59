-- The entries and keys that one pass meets, by the ends of the keys.
use Rattle.std.proofs.Common.{◌≡◌, ℕ, zero, suc, ◌+◌, ◌-◌, ◌<◌, ◌≤◌, ◌==◌, Bool, true, false, List, [], ◌∷◌, ◌++◌, length, take, drop, get_or, filter, Option, Some, None, refl, sym, ap, subst, ◌∙◌, arith, add-zero, zero-add, inl, inr}
use Rattle.std.specs.Prelude.{slice_range, IsSome, is_some, unwrap_or, count_by}
use Rattle.std.specs.List.{flat_map, fold, range_with_len, slice_index_or, sum_by}
use Rattle.std.proofs.lemmas.Bool.{cases_eq}
use Rattle.std.proofs.lemmas.List.Sums.{fold-append, sum_by-append}
use Rattle.std.proofs.lemmas.List.{length-append, take_more, length-take, length-drop, append-nil, drop-drop, drop-take}
use Rattle.std.proofs.lemmas.Grind.{flat_map-append, common_steps}
use Rattle.std.proofs.lemmas.List.Elements.{filter-append}
use Rattle.hyphenation_breaks.specs.declared.entry.Entry.{Entry}
use Rattle.hyphenation_breaks.specs.Dictionary.{Patterns}
use Rattle.hyphenation_breaks.specs.Ranks.{greatest_rank}
use Rattle.hyphenation_trie.specs.Trie.{Tree, node_text, entries_of_key, IsTrie, EachBeginsKey}
use Rattle.hyphenation_trie.specs.Links.{EndsWith, IsLongest, IsReport, keys_in}
use Rattle.hyphenation_trie.specs.Laws.{KeysHaveNodes}
use Rattle.hyphenation_score.specs.Scoring.{frame, bearers_between, bearers_from, bearers, values}
use Rattle.hyphenation_score.specs.OnePass.{keys_ending, occurrences}
use Rattle.hyphenation_score.specs.Private.OnePass.{bearing, entries_of_end, entries_of_ends, bearers_to, bearers_by_ends, AreAfter}
use Rattle.hyphenation_score.proofs.GreatestValues.{greatest_rank-within, row_rank}
use Rattle.hyphenation_score.proofs.NumberRows.{range-append, range_more, flat_map_none}

-- a text without its first bytes ends the text
pub Ends-drop : (t : List ℕ) (k : ℕ) → k ≤ length t → EndsWith t (drop k t)
Ends-drop t k le =
    let len : length (drop k t) ≡ length t - k = length-drop k t in
    let n : length t - length (drop k t) ≡ k = omega arith in
    (omega arith, ap (λ (m : ℕ). drop m t) n)

pub Ends-trans : (t u s : List ℕ) → EndsWith t u → EndsWith u s → EndsWith t s
Ends-trans t u s eu es =
    let n : (length t - length u) + (length u - length s) ≡ length t - length s = omega (arith, eu.0, es.0) in
    (omega (arith, eu.0, es.0), ap (λ (k : ℕ). drop k t) (sym n) ∙ sym (drop-drop (length u - length s) (length t - length u) t) ∙ ap (λ (x : List ℕ). drop (length u - length s) x) eu.1 ∙ es.1)

-- only the root has an empty text
pub depth_pos : {E : Type 0} (tree : Tree E) → IsTrie tree → (j : ℕ) → 0 < j → j < length tree.texts → 0 < length (node_text tree j)
depth_pos tree trie j pos lj =
    let up = trie.closed j pos lj in
    omega (arith, ap length up.3, length-append (node_text tree up.0) (up.1 ∷ []))

-- ---- the entries met for each place

-- a list of a row more
pub flat_map_more : {A : Type 0} (f : ℕ → List A) (a n : ℕ) → flat_map f (range_with_len a (n + 1)) ≡ flat_map f (range_with_len a n) ++ f (a + n)
flat_map_more f a n = ap (flat_map f) (range_more a n) ∙ flat_map-append f (range_with_len a n) ((a + n) ∷ []) ∙ ap (λ ys. flat_map f (range_with_len a n) ++ ys) (append-nil (f (a + n)))

module _ {C S State : Type 0} (meaning : S → State) (after : State → Entry C → State) (old : List S) where
  -- where nothing is met the slots are the old ones
  pub after_none : (f : ℕ → List (Entry C)) → ((p : ℕ) → f p ≡ []) → AreAfter meaning after old f old
  after_none f none = λ i d lt. sym (ap (fold after (meaning (slice_index_or old i d))) (none (i + 1)))

  -- what is met next comes after what was met
  pub after_more : (now new : List S) (f g h : ℕ → List (Entry C)) → length now ≡ length old → ((p : ℕ) → h p ≡ f p ++ g p) → AreAfter meaning after old f now → AreAfter meaning after now g new → AreAfter meaning after old h new
  after_more now new f g h len parts first next = λ i d lt.
      let start : State = meaning (slice_index_or old i d) in
      next i d (omega (arith, lt, len)) ∙ ap (λ s. fold after s (g (i + 1))) (first i d lt) ∙ sym (fold-append after start (f (i + 1)) (g (i + 1))) ∙ sym (ap (fold after start) (parts (i + 1)))

-- the entries of a key that bear, one by one
pub bearing_more : {C : Type 0} (es : List (Entry C)) (k : ℕ) (e : Entry C) (start : ℕ) → k < length es → e ≡ get_or es k e → (p : ℕ) → bearing (take (k + 1) es) start p ≡ bearing (take k es) start p ++ bearing (e ∷ []) start p
bearing_more es k e start lt read p =
    ap (λ xs. bearing xs start p) (take_more es k e lt ∙ ap (λ x. take k es ++ x ∷ []) (sym read)) ∙ filter-append (λ entry. start + entry.place == p + 1) (take k es) (e ∷ [])

-- ---- keys by their ends

flat_map_shift : {A : Type 0} (f g : ℕ → List A) (a b n : ℕ) → ((d : ℕ) → d < n → f (a + d) ≡ g (b + d)) → flat_map f (range_with_len a n) ≡ flat_map g (range_with_len b n)
flat_map_shift f g a b zero h = refl
flat_map_shift f g a b (suc n) h =
    let first : f a ≡ g b = ap f (omega arith) ∙ h 0 (omega arith) ∙ ap g (omega arith) in
    let rest = flat_map_shift f g (a + 1) (b + 1) n (λ d lt. ap f (omega arith) ∙ h (suc d) (omega arith) ∙ ap g (omega arith)) in
    ap (λ xs. xs ++ flat_map f (range_with_len (a + 1) n)) first ∙ ap (λ ys. g b ++ ys) rest

pub slice_is : (framed : List ℕ) (s e : ℕ) → s ≤ e → slice_range framed s e ≡ drop s (take e framed)
slice_is framed s e le =
    let n : s + (e - s) ≡ e = omega arith in
    sym (ap (λ (k : ℕ). drop s (take k framed)) (sym n) ∙ drop-take s (e - s) framed)

-- no key is longer that ends a text than the longest node
none_longer : {E : Type 0} (tree : Tree E) → KeysHaveNodes E → (t : List ℕ) (node k : ℕ) → IsLongest tree.texts t node → k < length t - length (node_text tree node) → entries_of_key tree (drop k t) ≡ None
none_longer {E} tree nodes t node k longest high =
    elim (entries_of_key tree (drop k t)) as (λ o. entries_of_key tree (drop k t) ≡ o → o ≡ None) [
      | None ↦ λ is. refl
      | Some es ↦ λ is.
          let n = nodes tree (drop k t) (subst (λ (o : Option (List E)). IsSome o) (sym is) refl) in
          let most = longest.most n.0 n.1 (subst (λ (x : List ℕ). EndsWith t x) (sym n.2) (Ends-drop t k (omega arith))) in
          absurd (omega (arith, ap length n.2, length-drop k t))
    ] refl

-- the keys that end there end the text of the longest node
pub ending_is : {C : Type 0} (tree : Tree (Entry C)) → KeysHaveNodes (Entry C) → (framed : List ℕ) (end p node : ℕ) → end ≤ length framed → IsLongest tree.texts (take end framed) node
    → bearers_to (entries_of_key tree) framed p end ≡ entries_of_ends (entries_of_key tree) (node_text tree node) end p
ending_is {C} tree nodes framed end p node le longest =
    let T : List ℕ = take end framed in
    let t : List ℕ = node_text tree node in
    let len : length T ≡ end = omega (arith, length-take end framed) in
    let below : length t ≤ length T = longest.ends.0 in
    let e0 : ℕ = end - length t in
    let f = λ (start : ℕ). bearers_between (entries_of_key tree) framed p start end in
    let front : flat_map f (range_with_len 0 e0) ≡ [] = flat_map_none f 0 e0 (λ k low high.
    ap (λ o. filter (λ entry. k + entry.place == p + 1) (unwrap_or o [])) (ap (entries_of_key tree) (slice_is framed k end (omega arith)) ∙ none_longer tree nodes T node k longest (omega arith))) in
    let parts : range_with_len 0 end ≡ range_with_len 0 e0 ++ range_with_len e0 (length t) =
    ap (range_with_len 0) (omega arith) ∙ range-append 0 e0 (length t) ∙ ap (λ (k : ℕ). range_with_len 0 e0 ++ range_with_len k (length t)) (omega arith) in
    ap (flat_map f) parts ∙ flat_map-append f (range_with_len 0 e0) (range_with_len e0 (length t)) ∙ ap (λ xs. xs ++ flat_map f (range_with_len e0 (length t))) front
    ∙ flat_map_shift f (λ d. entries_of_end (entries_of_key tree) t end p d) e0 0 (length t) (λ d lt.
    let same : slice_range framed (e0 + d) end ≡ drop (0 + d) t =
    slice_is framed (e0 + d) end (omega arith) ∙ sym (drop-drop d e0 T) ∙ ap (λ (k : ℕ). drop d (drop k T)) (omega arith) ∙ ap (drop d) longest.ends.1 ∙ ap (λ (k : ℕ). drop k t) (omega arith) in
    ap (λ x. filter (λ entry. (e0 + d) + entry.place == p + 1) (unwrap_or (entries_of_key tree x) [])) same
    ∙ ap (λ (k : ℕ). filter (λ entry. k + entry.place == p + 1) (unwrap_or (entries_of_key tree (drop (0 + d) t)) [])) (omega arith))

-- ---- starts and ends changed about

-- the greatest over all starts and then ends is the greatest over all ends and then starts
pub by_ends : {C : Type 0} (rank : C → ℕ → ℕ) (keys : Patterns C) (framed : List ℕ) (p : ℕ)
    → greatest_rank rank (bearers_by_ends keys framed (length framed) p) ≡ greatest_rank rank (bearers keys framed p)
by_ends rank keys framed p =
    let n : ℕ = length framed in
    let starts = λ (s : ℕ). bearers_from keys framed p s in
    let ends = λ (e : ℕ). bearers_to keys framed p e in
    let most = greatest_rank-within rank ends 1 n (greatest_rank rank (flat_map starts (range_with_len 0 n))) (λ e low high. greatest_rank-within rank (λ s. bearers_between keys framed p s e) 0 e _ (λ s slow shigh.
    omega (arith, row_rank rank (λ e. bearers_between keys framed p s e) (s + 1) (n - s) e (omega arith) (omega arith), row_rank rank starts 0 n s (omega arith) (omega arith)))) in
    let least = greatest_rank-within rank starts 0 n (greatest_rank rank (flat_map ends (range_with_len 1 n))) (λ s low high. greatest_rank-within rank (λ e. bearers_between keys framed p s e) (s + 1) (n - s) _ (λ e elow ehigh.
    omega (arith, row_rank rank (λ s. bearers_between keys framed p s e) 0 e s (omega arith) (omega arith), row_rank rank ends 1 n e (omega arith) (omega arith)))) in
    omega (arith, most, least)

-- without keys the root is the only node
pub alone_is : {E : Type 0} (tree : Tree E) → EachBeginsKey tree → ((q : List ℕ) → entries_of_key tree q ≡ None) → (j : ℕ) → j < length tree.texts → j ≡ 0
alone_is {E} tree begins none j lj = elim (cases_eq j 0) [
  | inl is ↦ is
  | inr apart ↦
      let b = begins j (omega arith) lj in
      let some : IsSome {T = List E} None = subst (λ (o : Option (List E)). IsSome o) (none b.0) b.1 in
      absurd cc
]

-- ---- visits

-- no key ends between a key's node and the next report
pub none_next : {E : Type 0} (tree : Tree E) (t : List ℕ) (at next : ℕ) → EndsWith t (node_text tree at) → IsReport tree (drop 1 (node_text tree at)) next
    → (k : ℕ) → length t - length (node_text tree at) < k → k < length t - length (node_text tree next) → entries_of_key tree (drop k t) ≡ None
none_next tree t at next ends report k low high =
    let d0 : ℕ = length t - length (node_text tree at) in
    let m : ℕ = k - d0 - 1 in
    let n : d0 + (1 + m) ≡ k = omega arith in
    let same : drop m (drop 1 (node_text tree at)) ≡ drop k t = drop-drop m 1 (node_text tree at) ∙ ap (drop (1 + m)) (sym ends.1) ∙ drop-drop (1 + m) d0 t ∙ ap (λ (x : ℕ). drop x t) n in
    ap (entries_of_key tree) (sym same) ∙ report.none m (omega (arith, ends.0, report.ends.0, length-drop 1 (node_text tree at)))

-- the entries that bear on the word's place p, of the keys that are this text without fewer than n of its first bytes
abbrev pub visited : {C : Type 0} → Patterns C → List ℕ → ℕ → ℕ → ℕ → List (Entry C)
visited keys t end n p = flat_map (λ d. entries_of_end keys t end p d) (range_with_len 0 n)

-- the entries met after one more visit
pub visited_more : {C : Type 0} (tree : Tree (Entry C)) (t : List ℕ) (end at to depth : ℕ) (es : List (Entry C)) → EndsWith t (node_text tree at) → length t ≤ end → depth ≡ length (node_text tree at)
    → Some es ≡ entries_of_key tree (node_text tree at) → length (node_text tree to) < length (node_text tree at)
    → ((k : ℕ) → length t - length (node_text tree at) < k → k < length t - length (node_text tree to) → entries_of_key tree (drop k t) ≡ None)
    → (p : ℕ) → visited (entries_of_key tree) t end (length t - length (node_text tree to)) p ≡ visited (entries_of_key tree) t end (length t - length (node_text tree at)) p ++ bearing es (end - depth) p
visited_more tree t end at to depth es ends le deep is less none p =
    let f = λ (d : ℕ). entries_of_end (entries_of_key tree) t end p d in
    let d0 : ℕ = length t - length (node_text tree at) in
    let gap : ℕ = length (node_text tree at) - length (node_text tree to) - 1 in
    let n : length t - length (node_text tree to) ≡ (d0 + 1) + gap = omega (arith, ends.0) in
    let rest : flat_map f (range_with_len (d0 + 1) gap) ≡ [] = flat_map_none f (d0 + 1) gap (λ k low high.
    ap (λ o. bearing (unwrap_or o []) (end - (length t - k)) p) (none k (omega arith) (omega (arith, ends.0)))) in
    let start : end - (length t - d0) ≡ end - depth = omega (arith, ends.0) in
    let last : f (0 + d0) ≡ bearing es (end - depth) p =
    ap f (omega arith) ∙ ap (λ (k : ℕ). bearing (unwrap_or (entries_of_key tree (drop d0 t)) []) k p) start ∙ ap (λ o. bearing (unwrap_or o []) (end - depth) p) (ap (entries_of_key tree) ends.1 ∙ sym is) in
    ap (λ (k : ℕ). flat_map f (range_with_len 0 k)) n ∙ ap (flat_map f) (range-append 0 (d0 + 1) gap) ∙ flat_map-append f (range_with_len 0 (d0 + 1)) (range_with_len (0 + (d0 + 1)) gap)
    ∙ ap (λ (k : ℕ). flat_map f (range_with_len 0 (d0 + 1)) ++ flat_map f (range_with_len k gap)) (omega arith) ∙ ap (λ ys. flat_map f (range_with_len 0 (d0 + 1)) ++ ys) rest ∙ append-nil (flat_map f (range_with_len 0 (d0 + 1)))
    ∙ flat_map_more f 0 d0 ∙ ap (λ ys. flat_map f (range_with_len 0 d0) ++ ys) last

-- before the first report nothing is met
pub visited_first : {C : Type 0} (tree : Tree (Entry C)) (t : List ℕ) (end to : ℕ) → IsReport tree t to → (p : ℕ) → visited (entries_of_key tree) t end (length t - length (node_text tree to)) p ≡ []
visited_first tree t end to report p = flat_map_none (λ d. entries_of_end (entries_of_key tree) t end p d) 0 (length t - length (node_text tree to)) (λ k low high.
    ap (λ o. bearing (unwrap_or o []) (end - (length t - k)) p) (report.none k (omega arith)))

-- ---- the number of visits

count_append : (p : ℕ → Bool) (xs ys : List ℕ) → count_by p (xs ++ ys) ≡ count_by p xs + count_by p ys
count_append p xs ys = grind (arith, common_steps)

count_none : (p : ℕ → Bool) (a n : ℕ) → ((k : ℕ) → a ≤ k → k < a + n → p k ≡ false) → count_by p (range_with_len a n) ≡ 0
count_none p a zero h = refl
count_none p a (suc n) h = let one = h a (omega arith) (omega arith) in let rest = count_none p (a + 1) n (λ k low high. h k (omega arith) (omega arith)) in grind (arith, common_steps)

one_counted : (p : ℕ → Bool) (k : ℕ) → p k ≡ true → count_by p (k ∷ []) ≡ 1
one_counted p k e = grind (arith, common_steps)

-- none before the first
pub counted_first : {E : Type 0} (tree : Tree E) (t : List ℕ) (to : ℕ) → IsReport tree t to → keys_in tree t (length t - length (node_text tree to)) ≡ 0
counted_first tree t to report = count_none (λ d. is_some (entries_of_key tree (drop d t))) 0 (length t - length (node_text tree to)) (λ k low high. ap is_some (report.none k (omega arith)))

-- one visit is one key
pub counted_more : {E : Type 0} (tree : Tree E) (t : List ℕ) (at to : ℕ) → EndsWith t (node_text tree at) → length (node_text tree to) < length (node_text tree at) → IsSome (entries_of_key tree (node_text tree at))
    → ((k : ℕ) → length t - length (node_text tree at) < k → k < length t - length (node_text tree to) → entries_of_key tree (drop k t) ≡ None)
    → keys_in tree t (length t - length (node_text tree to)) ≡ keys_in tree t (length t - length (node_text tree at)) + 1
counted_more tree t at to ends less key none =
    let p = λ (d : ℕ). is_some (entries_of_key tree (drop d t)) in
    let d0 : ℕ = length t - length (node_text tree at) in
    let gap : ℕ = length (node_text tree at) - length (node_text tree to) - 1 in
    let n : length t - length (node_text tree to) ≡ (d0 + 1) + gap = omega (arith, ends.0) in
    let rest : count_by p (range_with_len (d0 + 1) gap) ≡ 0 = count_none p (d0 + 1) gap (λ k low high. ap is_some (none k (omega arith) (omega (arith, ends.0)))) in
    let here : is_some (entries_of_key tree (drop d0 t)) ≡ true = ap (λ (x : List ℕ). is_some (entries_of_key tree x)) ends.1 ∙ key in
    let zero_more : 0 + (d0 + 1) ≡ d0 + 1 = omega arith in
    let zero_last : 0 + d0 ≡ d0 = omega arith in
    ap (λ (k : ℕ). count_by p (range_with_len 0 k)) n ∙ ap (count_by p) (range-append 0 (d0 + 1) gap) ∙ count_append p (range_with_len 0 (d0 + 1)) (range_with_len (0 + (d0 + 1)) gap)
    ∙ ap (λ (k : ℕ). count_by p (range_with_len 0 (d0 + 1)) + count_by p (range_with_len k gap)) zero_more ∙ ap (λ (k : ℕ). count_by p (range_with_len 0 (d0 + 1)) + k) rest
    ∙ add-zero (count_by p (range_with_len 0 (d0 + 1))) ∙ ap (count_by p) (range_more 0 d0) ∙ count_append p (range_with_len 0 d0) ((0 + d0) ∷ [])
    ∙ ap (λ (k : ℕ). count_by p (range_with_len 0 d0) + count_by p (k ∷ [])) zero_last ∙ ap (λ (k : ℕ). count_by p (range_with_len 0 d0) + k) (one_counted p d0 here)

none_counted : (p : ℕ → Bool) (k : ℕ) → p k ≡ false → count_by p (k ∷ []) ≡ 0
none_counted p k e = grind (arith, common_steps)

one_same : (p q : ℕ → Bool) (a b : ℕ) → p a ≡ q b → count_by p (a ∷ []) ≡ count_by q (b ∷ [])
one_same p q a b e = elim (p a) as (λ v. p a ≡ v → count_by p (a ∷ []) ≡ count_by q (b ∷ [])) [
  | true ↦ λ h. one_counted p a h ∙ sym (one_counted q b (sym e ∙ h))
  | false ↦ λ h. none_counted p a h ∙ sym (none_counted q b (sym e ∙ h))
] refl

count_shift : (p q : ℕ → Bool) (a b n : ℕ) → ((d : ℕ) → d < n → p (a + d) ≡ q (b + d)) → count_by p (range_with_len a n) ≡ count_by q (range_with_len b n)
count_shift p q a b zero h = refl
count_shift p q a b (suc n) h =
    let first : p a ≡ q b = ap p (omega arith) ∙ h 0 (omega arith) ∙ ap q (omega arith) in
    let rest = count_shift p q (a + 1) (b + 1) n (λ d lt. ap p (omega arith) ∙ h (suc d) (omega arith) ∙ ap q (omega arith)) in
    let split = count_append p (a ∷ []) (range_with_len (a + 1) n) in
    let parts = count_append q (b ∷ []) (range_with_len (b + 1) n) in
    split ∙ ap (λ (x : ℕ). x + count_by p (range_with_len (a + 1) n)) (one_same p q a b first) ∙ ap (λ (x : ℕ). count_by q (b ∷ []) + x) rest ∙ sym parts

count_most : (p : ℕ → Bool) (a n : ℕ) → count_by p (range_with_len a n) ≤ n
count_most p a zero = omega arith
count_most p a (suc n) =
    let split = count_append p (a ∷ []) (range_with_len (a + 1) n) in
    let one : count_by p (a ∷ []) ≤ 1 = elim (p a) as (λ v. p a ≡ v → count_by p (a ∷ []) ≤ 1) [ true ↦ λ h. omega (arith, one_counted p a h) | false ↦ λ h. omega (arith, none_counted p a h) ] refl in
    omega (arith, split, one, count_most p (a + 1) n)

pub keys_in_most : {E : Type 0} (tree : Tree E) (t : List ℕ) (n : ℕ) → keys_in tree t n ≤ n
keys_in_most tree t n = count_most (λ d. is_some (entries_of_key tree (drop d t))) 0 n

-- the keys that end there are those that end the text of the longest node
pub counted_is : {C : Type 0} (tree : Tree (Entry C)) → KeysHaveNodes (Entry C) → (framed : List ℕ) (end node : ℕ) → end ≤ length framed → IsLongest tree.texts (take end framed) node
    → keys_ending (entries_of_key tree) framed end ≡ keys_in tree (node_text tree node) (length (node_text tree node))
counted_is {C} tree nodes framed end node le longest =
    let T : List ℕ = take end framed in
    let t : List ℕ = node_text tree node in
    let len : length T ≡ end = omega (arith, length-take end framed) in
    let below : length t ≤ length T = longest.ends.0 in
    let e0 : ℕ = end - length t in
    let p = λ (start : ℕ). is_some (entries_of_key tree (slice_range framed start end)) in
    let q = λ (d : ℕ). is_some (entries_of_key tree (drop d t)) in
    let front : count_by p (range_with_len 0 e0) ≡ 0 = count_none p 0 e0 (λ k low high.
    ap is_some (ap (entries_of_key tree) (slice_is framed k end (omega arith)) ∙ none_longer tree nodes T node k longest (omega arith))) in
    let parts : range_with_len 0 end ≡ range_with_len 0 e0 ++ range_with_len e0 (length t) =
    ap (range_with_len 0) (omega arith) ∙ range-append 0 e0 (length t) ∙ ap (λ (k : ℕ). range_with_len 0 e0 ++ range_with_len k (length t)) (omega arith) in
    ap (count_by p) parts ∙ count_append p (range_with_len 0 e0) (range_with_len e0 (length t)) ∙ ap (λ (x : ℕ). x + count_by p (range_with_len e0 (length t))) front ∙ zero-add (count_by p (range_with_len e0 (length t)))
    ∙ count_shift p q e0 0 (length t) (λ d lt.
    let same : slice_range framed (e0 + d) end ≡ drop (0 + d) t =
    slice_is framed (e0 + d) end (omega arith) ∙ sym (drop-drop d e0 T) ∙ ap (λ (k : ℕ). drop d (drop k T)) (omega arith) ∙ ap (drop d) longest.ends.1 ∙ ap (λ (k : ℕ). drop k t) (omega arith) in
    ap (λ x. is_some (entries_of_key tree x)) same)

-- ---- equal patterns

pub same_keys : {A B : Type 0} (f g : A → B) → ((x : A) → f x ≡ g x) → f ≡ g
same_keys f g h = λ i x. h x i

pub values_same : {C : Type 0} (keys other : Patterns C) (word : List ℕ) → ((text : List ℕ) → keys text ≡ other text) → values keys word ≡ values other word
values_same keys other word h = ap (λ ks. values ks word) (same_keys keys other h)

pub occurrences_same : {C : Type 0} (keys other : Patterns C) (framed : List ℕ) → ((text : List ℕ) → keys text ≡ other text) → occurrences keys framed ≡ occurrences other framed
occurrences_same keys other framed h = ap (λ ks. occurrences ks framed) (same_keys keys other h)

-- ---- one byte more

pub length-frame : (word : List ℕ) → length (frame word) ≡ length word + 2
length-frame word = omega (arith, length-append word (46 ∷ []))

pub read_more : (texts : List (List ℕ)) (framed t : List ℕ) (at byte node : ℕ) → at < length framed → byte ≡ get_or framed at 0 → t ≡ take at framed → IsLongest texts (t ++ byte ∷ []) node → IsLongest texts (take (at + 1) framed) node
read_more texts framed t at byte node lt read is longest =
    let more : take (at + 1) framed ≡ t ++ byte ∷ [] = take_more framed at 0 lt ∙ ap (λ (b : ℕ). take at framed ++ b ∷ []) (sym read) ∙ ap (λ (x : List ℕ). x ++ byte ∷ []) (sym is) in
    subst (λ (x : List ℕ). IsLongest texts x node) (sym more) longest

pub sum_more : (f : ℕ → ℕ) (a n : ℕ) → sum_by f (range_with_len a (n + 1)) ≡ sum_by f (range_with_len a n) + f (a + n)
sum_more f a n = omega (arith, ap (sum_by f) (range_more a n), sum_by-append f (range_with_len a n) ((a + n) ∷ []))

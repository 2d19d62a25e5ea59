-- The nodes of a key's beginnings, and the endings of a text that can exceed it.
use Rattle.std.proofs.Common.{◌≡◌, ℕ, zero, suc, ◌+◌, ◌-◌, ◌<◌, ◌≤◌, ◌==◌, ◌||◌, Bool, true, false, List, [], ◌∷◌, ◌++◌, length, take, drop, filter, get_or, Option, Some, None, refl, sym, ap, ◌∙◌, arith}
use Rattle.std.specs.Prelude.{nat_eq, nat_lt, if◌then◌else◌, IsSome, unwrap_or, slice_index_or}
use Rattle.std.specs.Cmp.Lexicographic.{pointwise, same_text}
use Rattle.std.specs.List.{list_any, range_with_len}
use Rattle.std.proofs.lemmas.List.{length-append, length-take, length-drop, take_more, take_all, take-take, take-append-le, drop-drop}
use Rattle.hyphenation_breaks.specs.Dictionary.{Patterns}
use Rattle.hyphenation_breaks.specs.declared.entry.Entry.{Entry}
use Rattle.hyphenation_trie.specs.Trie.{Tree, node_text, entries_at, entries_of_key, IsTrie}
use Rattle.hyphenation_trie.specs.Links.{EndsWith, IsLongest, IsReport}
use Rattle.hyphenation_score.specs.Scoring.{greatest_value}
use Rattle.libreoffice_files.specs.Longest.{is_exceeded_from, own_value}

-- ---- The nodes of a key's beginnings.

-- the element at an index, one later with an element before
later : (t : List ℕ) (ts : List (List ℕ)) (q : List ℕ) → ((k : ℕ) × (k < length ts) × (slice_index_or ts k [] ≡ q)) → (k : ℕ) × (k < suc (length ts)) × (slice_index_or (t ∷ ts) k [] ≡ q)
later t ts q found = (suc found.0, omega (arith, found.1), found.2)

-- a text that has entries is the text of a node
node_at : {E : Type 0} (ts : List (List ℕ)) (es : List (Option (List E))) (q : List ℕ) → IsSome (entries_at ts es q) → (k : ℕ) × (k < length ts) × (slice_index_or ts k [] ≡ q)
node_at [] es q some = absurd cc
node_at (t ∷ ts) [] q some = absurd cc
node_at {E} (t ∷ ts) (e ∷ es) q some = by (pointwise nat_eq t q) refl some (λ h. later t ts q (node_at ts es q h))
  where
    by : (b : Bool) → pointwise nat_eq t q ≡ b → IsSome (if b then e else entries_at ts es q) → (IsSome (entries_at ts es q) → (k : ℕ) × (k < suc (length ts)) × (slice_index_or (t ∷ ts) k [] ≡ q))
        → (k : ℕ) × (k < suc (length ts)) × (slice_index_or (t ∷ ts) k [] ≡ q)
    by true h some rest = (zero, omega arith, same_text t q (sym h))
    by false h some rest = rest some

-- the node before one whose text begins a key
node_before : {E : Type 0} (t : Tree E) (q : List ℕ) (n : ℕ) → IsTrie t → n < length q → ((k : ℕ) × (k < length t.texts) × (node_text t k ≡ take (suc n) q)) → (k : ℕ) × (k < length t.texts) × (node_text t k ≡ take n q)
node_before {E} t q n trie lt found = by found.0 found.1 found.2
  where
    long : length (take (suc n) q) ≡ suc n
    long = omega (arith, length-take (suc n) q)

    by : (k : ℕ) → k < length t.texts → node_text t k ≡ take (suc n) q → (i : ℕ) × (i < length t.texts) × (node_text t i ≡ take n q)
    by zero lt is = absurd (omega (arith, long, ap length is, ap length trie.root))
    by (suc k) lt is =
        let up = trie.closed (suc k) (omega arith) lt in
        let whole : node_text t up.0 ++ up.1 ∷ [] ≡ take (suc n) q = sym up.3 ∙ is in
        let size : length (node_text t up.0) ≡ n = omega (arith, long, ap length whole, length-append (node_text t up.0) (up.1 ∷ [])) in
        let front : take n (node_text t up.0 ++ up.1 ∷ []) ≡ node_text t up.0 = take-append-le n (node_text t up.0) (up.1 ∷ []) (omega arith) ∙ take_all n (node_text t up.0) (omega arith) in
        (up.0, up.2, sym front ∙ ap (λ (x : List ℕ). take n x) whole ∙ take-take n (suc n) q (omega arith))

-- each beginning of a key is the text of a node
node_of_beginning : {E : Type 0} (t : Tree E) (q : List ℕ) (n m : ℕ) → IsTrie t → IsSome (entries_of_key t q) → length q ≡ n + m → (k : ℕ) × (k < length t.texts) × (node_text t k ≡ take n q)
node_of_beginning t q n zero trie some e =
    let found = node_at t.texts t.entries q some in
    (found.0, found.1, found.2 ∙ sym (take_all n q (omega arith)))
node_of_beginning t q n (suc m) trie some e = node_before t q n trie (omega arith) (node_of_beginning t q (suc n) m trie some (omega arith))

-- a step along a key leads to the node of its next beginning
pub step_along : {E : Type 0} (t : Tree E) (q : List ℕ) (n from to b : ℕ) → IsTrie t → IsSome (entries_of_key t q) → n < length q → node_text t from ≡ take n q → b ≡ get_or q n 0
    → IsLongest t.texts (node_text t from ++ b ∷ []) to → node_text t to ≡ take (n + 1) q
step_along t q n from to b trie some lt text byte longest =
    let next : node_text t from ++ b ∷ [] ≡ take (n + 1) q = ap (λ (x : List ℕ). x ++ b ∷ []) text ∙ ap (λ (x : ℕ). take n q ++ x ∷ []) byte ∙ sym (take_more q n 0 lt) in
    let found = node_of_beginning t q (n + 1) (length q - (n + 1)) trie some (omega arith) in
    let whole : node_text t found.0 ≡ node_text t from ++ b ∷ [] = found.2 ∙ sym next in
    let none : length (node_text t from ++ b ∷ []) - length (node_text t found.0) ≡ 0 = omega (arith, ap length whole) in
    let ends : EndsWith (node_text t from ++ b ∷ []) (node_text t found.0) = (omega (arith, ap length whole), ap (λ (k : ℕ). drop k (node_text t from ++ b ∷ [])) none ∙ sym whole) in
    let most = longest.most found.0 found.1 ends in
    let gone : length (node_text t from ++ b ∷ []) - length (node_text t to) ≡ 0 = omega (arith, ap length whole, most) in
    sym longest.ends.1 ∙ ap (λ (k : ℕ). drop k (node_text t from ++ b ∷ [])) gone ∙ next

-- ---- Endings.

-- the first of a row of numbers
pub any_first : (f : ℕ → Bool) (a n : ℕ) → 0 < n → list_any f (range_with_len a n) ≡ (f a || list_any f (range_with_len (a + 1) (n - 1)))
any_first f a zero some = absurd (omega arith)
any_first f a (suc n) some = ap (λ (k : ℕ). f a || list_any f (range_with_len (a + 1) k)) (omega arith)

-- numbers at which a test fails make no difference
any_skip : (f : ℕ → Bool) (a n m : ℕ) → ((j : ℕ) → j < n → f (a + j) ≡ false) → list_any f (range_with_len a (n + m)) ≡ list_any f (range_with_len (a + n) m)
any_skip f a zero m none =
    let len : 0 + m ≡ m = omega arith in
    let from : a ≡ a + 0 = omega arith in
    ap (λ (k : ℕ). list_any f (range_with_len a k)) len ∙ ap (λ (k : ℕ). list_any f (range_with_len k m)) from
any_skip f a (suc n) m none =
    let here : a ≡ a + 0 = omega arith in
    let len : suc n + m - 1 ≡ n + m = omega arith in
    let from : a + 1 + n ≡ a + suc n = omega arith in
    any_first f a (suc n + m) (omega arith)
    ∙ ap (λ (b : Bool). b || list_any f (range_with_len (a + 1) (suc n + m - 1))) (ap f here ∙ none 0 (omega arith))
    ∙ ap (λ (k : ℕ). list_any f (range_with_len (a + 1) k)) len
    ∙ any_skip f (a + 1) n m (λ j lt. let next : a + 1 + j ≡ a + suc j = omega arith in ap f next ∙ none (suc j) (omega arith))
    ∙ ap (λ (k : ℕ). list_any f (range_with_len k m)) from

-- an ending that is no key exceeds no text
unexceeded : {C : Type 0} (t : Tree (Entry C)) (text u : List ℕ) (j : ℕ) → length u ≤ length text → drop (length text - length u) text ≡ u → entries_of_key t (drop j (drop 1 u)) ≡ None
    → is_exceeded_from (entries_of_key t) text (length text - length u + 1 + j) ≡ false
unexceeded {C} t text u j le at none =
    let sum : (length text - length u) + (1 + j) ≡ length text - length u + 1 + j = omega arith in
    let same : drop (length text - length u + 1 + j) text ≡ drop j (drop 1 u) =
    ap (λ (k : ℕ). drop k text) (sym sum) ∙ sym (drop-drop (1 + j) (length text - length u) text) ∙ ap (λ (x : List ℕ). drop (1 + j) x) at ∙ sym (drop-drop j 1 u) in
    ap (λ (o : Option (List (Entry C))). list_any (λ entry. nat_lt (own_value (entries_of_key t) text ((length text - length u + 1 + j) + entry.place)) entry.value) (unwrap_or o []))
    (ap (λ (x : List ℕ). entries_of_key t x) same ∙ none)

-- no ending exceeds a text between one and the next that is a key
pub next_ending : {C : Type 0} (t : Tree (Entry C)) (text u : List ℕ) (report : ℕ) → EndsWith text u → 0 < length u → IsReport t (drop 1 u) report
    → list_any (λ start. is_exceeded_from (entries_of_key t) text start) (range_with_len (length text - length u + 1) (length u - 1))
    ≡ list_any (λ start. is_exceeded_from (entries_of_key t) text start) (range_with_len (length text - length (node_text t report)) (length (node_text t report)))
next_ending {C} t text u report ends some is =
    let short : length (node_text t report) ≤ length u - 1 = omega (arith, is.ends.0, length-drop 1 u) in
    let f : ℕ → Bool = λ start. is_exceeded_from (entries_of_key t) text start in
    let a : ℕ = length text - length u + 1 in
    let n : ℕ = length u - 1 - length (node_text t report) in
    let m : ℕ = length (node_text t report) in
    let len : length u - 1 ≡ n + m = omega (arith, short) in
    let from : a + n ≡ length text - length (node_text t report) = omega (arith, short, ends.0, some) in
    ap (λ (k : ℕ). list_any f (range_with_len a k)) len
    ∙ any_skip f a n m (λ j lt. unexceeded t text u j (omega (arith, ends.0)) ends.1 (is.none j (omega (arith, length-drop 1 u))))
    ∙ ap (λ (k : ℕ). list_any f (range_with_len k m)) from

-- the entries of an ending, as entries of a text
pub exceeded_from : {C : Type 0} (keys : Patterns C) (text u : List ℕ) (es own : List (Entry C)) (start : ℕ) → drop start text ≡ u → Some es ≡ keys u → own ≡ unwrap_or (keys text) []
    → list_any (λ entry. nat_lt (greatest_value (filter (λ e. e.place == start + entry.place) own)) entry.value) es ≡ is_exceeded_from keys text start
exceeded_from {C} keys text u es own start at key own_is =
    ap (λ (o : List (Entry C)). list_any (λ entry. nat_lt (greatest_value (filter (λ e. e.place == start + entry.place) o)) entry.value) es) own_is
    ∙ ap (λ (o : Option (List (Entry C))). list_any (λ entry. nat_lt (own_value keys text (start + entry.place)) entry.value) (unwrap_or o [])) (key ∙ ap keys (sym at))

-- a text ends itself
pub ends_self : (t : List ℕ) → EndsWith t t
ends_self t = let n : length t - length t ≡ 0 = omega arith in (omega arith, ap (λ (k : ℕ). drop k t) n)

-- an end of the rest of an ending is an end of the whole
pub ends_rest : (text u s : List ℕ) → EndsWith text u → 0 < length u → EndsWith (drop 1 u) s → EndsWith text s
ends_rest text u s outer some inner =
    let size = length-drop 1 u in
    let le : length s ≤ length u - 1 = omega (arith, size, inner.0) in
    let sum : (length text - length u) + (1 + (length (drop 1 u) - length s)) ≡ length text - length s = omega (arith, size, le, outer.0, some) in (
      omega (arith, le, outer.0),
      ap (λ (k : ℕ). drop k text) (sym sum) ∙ sym (drop-drop (1 + (length (drop 1 u) - length s)) (length text - length u) text)
          ∙ ap (λ (x : List ℕ). drop (1 + (length (drop 1 u) - length s)) x) outer.1 ∙ sym (drop-drop (length (drop 1 u) - length s) 1 u) ∙ inner.1,
    )

-- a node other than the root has a text
pub node_some : {E : Type 0} (t : Tree E) (node : ℕ) → IsTrie t → 0 < node → node < length t.texts → 0 < length (node_text t node)
node_some t node trie pos lt = let up = trie.closed node pos lt in omega (arith, ap length up.3, length-append (node_text t up.0) (up.1 ∷ []))

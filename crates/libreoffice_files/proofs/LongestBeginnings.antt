-- Closed patterns give, only by the longest beginnings, the values that all of them give.
use Rattle.std.proofs.Common.{◌≡◌, ℕ, zero, suc, ◌+◌, ◌-◌, ◌<◌, ◌≤◌, ◌⊎◌, ◌==◌, max, nat_eq, nat_lt, nat_cmp, Bool, true, false, cond}
use Rattle.std.proofs.Common.{List, [], ◌∷◌, length, take, drop, get_or, filter, map, fold, slice_range, Option, Some, None, is_some, IsSome, unwrap_or}
use Rattle.std.proofs.Common.{refl, sym, ap, subst, ◌∙◌, inl, inr, arith}
use Rattle.std.proofs.lemmas.Bool.{both_ways, cases_eq, cases_lt, cases_Bool, eqb-true, false_from_ne_true, ltb-false, or_parts, or_right, or_left, or_cases}
use Rattle.std.proofs.lemmas.List.{drop-drop, drop-take, length-drop, length-take, take_all}
use Rattle.std.proofs.lemmas.List.Folds.{Any-from_list_any, list_any_at}
use Rattle.std.specs.Cmp.Lexicographic.{slice_cmp, pointwise, nat_list_eq_equiv, same_text, texts_ties}
use Rattle.std.specs.FinMap as finite
use Rattle.std.specs.List.{list_any, range_with_len, starts_with, IsAmong}
use Rattle.std.specs.Ordering.{eq_by_cmp}
use Rattle.hyphenation_breaks.specs.Dictionary.{Patterns, TextMap, greatest}
use Rattle.hyphenation_breaks.specs.declared.entry.Entry.{Entry}
use Rattle.hyphenation_score.specs.Laws.{ValueIsBorne, ValueIsGreatest}
use Rattle.hyphenation_score.specs.Scoring.{frame, greatest_value, value_at}
use Rattle.hyphenation_score.specs.Winners.{Bears}
use Rattle.libreoffice_files.specs.Longest.{entries_of, begins_pattern, own_value, is_exceeded_from, is_exceeded, IsClosed}
use Rattle.libreoffice_files.specs.Longest.{IsLongestBeginning, ClosedReadAlike}

-- ---- lists and numbers

-- where no element passes, one that is given does not
none_at : {X : Type 0} (test : X → Bool) (xs : List X) (x : X) → list_any test xs ≡ false → IsAmong xs x → test x ≡ false
none_at test xs x none among =
    false_from_ne_true (test x) (λ passes.
    both_ways (list_any test xs) none (list_any_at test xs among.0 x among.1.0 (ap test (sym among.1.1) ∙ passes)))

-- where no number in a row passes, one among them does not
none_between : (test : ℕ → Bool) (a n k : ℕ) → list_any test (range_with_len a n) ≡ false → a ≤ k → k < a + n → test k ≡ false
none_between test a zero k none low high = absurd (omega arith)
none_between test a (suc n) k none low high =
    let parts = or_parts (test a) (list_any test (range_with_len (a + 1) n)) none in
    elim (cases_eq k a) [
      | inl is ↦ ap test is ∙ parts.0
      | inr apart ↦ none_between test (a + 1) n k parts.1 (omega arith) (omega arith)
    ]

-- a weaker test passes too
any_weaker : {X : Type 0} (one other : X → Bool) → ((x : X) → one x ≡ true → other x ≡ true) → (xs : List X)
    → list_any one xs ≡ true → list_any other xs ≡ true
any_weaker one other weaker [] any = any
any_weaker one other weaker (x ∷ xs) any = elim (or_cases (one x) (list_any one xs) any) [
  | inl here ↦ or_left (other x) (list_any other xs) (weaker x here)
  | inr later ↦ or_right (other x) (list_any other xs) (any_weaker one other weaker xs later)
]

-- The first number that passes.
record IsFirst (test : ℕ → Bool) (first : ℕ) : Type 0 where
  pub passes : test first ≡ true
  pub before : (k : ℕ) → k < first → test k ≡ false

-- it is below n, or none below n passes
first_below : (test : ℕ → Bool) (n : ℕ) → ((first : ℕ) × (first < n) × IsFirst test first) ⊎ ((k : ℕ) → k < n → test k ≡ false)
first_below test zero = inr (λ k below. absurd (omega arith))
first_below test (suc n) = elim (first_below test n) [
  | inl found ↦ inl (found.0, omega (arith, found.1), found.2)
  | inr none ↦ elim (cases_Bool (test n)) [
    | inl passes ↦ inl (n, omega arith, record { passes = passes; before = none })
    | inr fails ↦ inr (λ k below. elim (cases_eq k n) [ inl is ↦ ap test is ∙ fails | inr apart ↦ none k (omega arith) ])
  ]
]

-- where a number passes, the first is no greater
first_within : (test : ℕ → Bool) (n : ℕ) → test n ≡ true → (first : ℕ) × (first ≤ n) × IsFirst test first
first_within test n passes = elim (first_below test n) [
  | inl found ↦ (found.0, omega (arith, found.1), found.2)
  | inr none ↦ (n, omega arith, record { passes = passes; before = none })
]

-- the length of a part
length_slice : (framed : List ℕ) (start end : ℕ) → end ≤ length framed → length (slice_range framed start end) ≡ end - start
length_slice framed start end within =
    omega (arith, length-take (end - start) (drop start framed), length-drop start framed)

-- the end of a part
slice_end : (framed : List ℕ) (start later end : ℕ) → start ≤ later → later ≤ end
    → drop (later - start) (slice_range framed start end) ≡ slice_range framed later end
slice_end framed start later end low high =
    let count : end - start ≡ (later - start) + (end - later) = omega arith in
    let from : start + (later - start) ≡ later = omega arith in
    ap (λ (n : ℕ). drop (later - start) (take n (drop start framed))) count
    ∙ drop-take (later - start) (end - later) (drop start framed)
    ∙ ap (λ (xs : List ℕ). take (end - later) xs) (drop-drop (later - start) start framed)
    ∙ ap (λ (n : ℕ). take (end - later) (drop n framed)) from

-- ---- entries

-- an element of the rest is an element
among_rest : {X : Type 0} (x y : X) (xs : List X) → IsAmong xs y → IsAmong (x ∷ xs) y
among_rest x y xs among = (suc among.0, (omega (arith, among.1.0), among.1.1))

-- a start of the greatest number counts as one more number
greatest_from : (a : ℕ) (ns : List ℕ) → fold max a ns ≡ max a (greatest ns)
greatest_from a [] = omega arith
greatest_from a (n ∷ ns) = omega (arith, greatest_from (max a n) ns, greatest_from (max 0 n) ns)

-- the greatest value is that of the first entry, or of the rest
greatest_first : {C : Type 0} (x : Entry C) (es : List (Entry C)) → greatest_value (x ∷ es) ≡ max x.value (greatest_value es)
greatest_first x es = omega (arith, greatest_from (max 0 x.value) (map (λ e. e.value) es))

-- The greatest value of the entries that pass, given by one of them.
record Gives {C : Type 0} (test : Entry C → Bool) (es : List (Entry C)) (e : Entry C) : Type 0 where
  pub among : IsAmong es e
  pub passes : test e ≡ true
  pub greatest : e.value ≡ greatest_value (filter test es)

-- where it is not 0, one does
giver : {C : Type 0} (test : Entry C → Bool) (es : List (Entry C)) → 0 < greatest_value (filter test es)
    → (e : Entry C) × Gives test es e
giver test [] some = absurd (omega arith)
giver {C} test (x ∷ es) some = elim (cases_Bool (test x)) [
  | inr fails ↦
      let is : filter test (x ∷ es) ≡ filter test es = ap (λ b. cond {A = List (Entry C)} b (x ∷ filter test es) (filter test es)) fails in
      let value : greatest_value (filter test (x ∷ es)) ≡ greatest_value (filter test es) = ap greatest_value is in
      let later = giver test es (omega (arith, value)) in
      (later.0, record { among = among_rest x later.0 es later.1.among; passes = later.1.passes; greatest = later.1.greatest ∙ sym value })
  | inl passes ↦
      let is : filter test (x ∷ es) ≡ x ∷ filter test es = ap (λ b. cond {A = List (Entry C)} b (x ∷ filter test es) (filter test es)) passes in
      let value : greatest_value (filter test (x ∷ es)) ≡ max x.value (greatest_value (filter test es)) =
      ap greatest_value is ∙ greatest_first x (filter test es) in
      elim (cases_lt x.value (greatest_value (filter test es))) [
        | inl less ↦
            let later = giver test es (omega arith) in (
              later.0,
              record {
                among = among_rest x later.0 es later.1.among;
                passes = later.1.passes;
                greatest = omega (arith, value, later.1.greatest);
              },
            )
        | inr most ↦ (x, record { among = (0, (omega arith, refl)); passes = passes; greatest = omega (arith, value) })
      ]
]

-- The entry of a text that gives a place of its own the text's value there.
record Owns {C : Type 0} (keys : Patterns C) (text : List ℕ) (place : ℕ) (e : Entry C) : Type 0 where
  pub entries : List (Entry C)
  pub key : keys text ≡ Some entries
  pub among : IsAmong entries e
  pub there : e.place ≡ place
  pub value : e.value ≡ own_value keys text place

-- where that is not 0, there is one
owner : {C : Type 0} (keys : Patterns C) (text : List ℕ) (place : ℕ) → 0 < own_value keys text place
    → (e : Entry C) × Owns keys text place e
owner {C} keys text place some =
    let value : Option (List (Entry C)) → ℕ = λ o. greatest_value (filter (λ e. e.place == place) (unwrap_or o [])) in
    elim (keys text) as (λ o. keys text ≡ o → 0 < value o → (e : Entry C) × Owns keys text place e) [
      | None ↦ λ is pos. absurd (omega arith)
      | Some entries ↦ λ is pos.
          let found = giver (λ e. e.place == place) entries pos in (
            found.0,
            record {
              entries = entries;
              key = is;
              among = found.1.among;
              there = eqb-true found.0.place place found.1.passes;
              value = found.1.greatest ∙ sym (ap value is);
            },
          )
    ] refl some

-- ---- beginnings of patterns

-- a text begins itself
begins_itself : (text key : List ℕ) → text ≡ key → starts_with nat_eq key text ≡ true
begins_itself text key same =
    let whole : take (length text) text ≡ text = take_all (length text) text (omega arith) in
    subst (λ (k : List ℕ). pointwise nat_eq text (take (length text) k) ≡ true) same
    (ap (λ (t : List ℕ). pointwise nat_eq text t) whole ∙ nat_list_eq_equiv.refl text)

-- a pattern begins a pattern
pattern_begins : {C : Type 0} (patterns : TextMap (List (Entry C))) (text : List ℕ) → IsSome (entries_of patterns text)
    → begins_pattern patterns text ≡ true
pattern_begins patterns text some =
    any_weaker (eq_by_cmp (slice_cmp nat_cmp) text) (λ key. starts_with nat_eq key text)
    (λ key ties. begins_itself text key (same_text text key (sym (texts_ties text key ∙ ties))))
    (finite.keys patterns) (sym (finite.contains_key-keys patterns text) ∙ some)

-- The pattern that a text begins.
record Begins {C : Type 0} (patterns : TextMap (List (Entry C))) (text key : List ℕ) : Type 0 where
  pub some : IsSome (entries_of patterns key)
  pub front : text ≡ take (length text) key

-- there is one
begun : {C : Type 0} (patterns : TextMap (List (Entry C))) (text : List ℕ) → begins_pattern patterns text ≡ true
    → (key : List ℕ) × Begins patterns text key
begun patterns text begins =
    let any = Any-from_list_any (λ key. starts_with nat_eq key text) (finite.keys patterns) begins in
    let ties : eq_by_cmp (slice_cmp nat_cmp) any.1 any.1 ≡ true = sym (texts_ties any.1 any.1) ∙ nat_list_eq_equiv.refl any.1 in
    let here : eq_by_cmp (slice_cmp nat_cmp) any.1 (get_or (finite.keys patterns) any.0 any.1) ≡ true =
    ap (eq_by_cmp (slice_cmp nat_cmp) any.1) any.3 ∙ ties in (
      any.1,
      record {
        some = finite.contains_key-keys patterns any.1
            ∙ list_any_at (eq_by_cmp (slice_cmp nat_cmp) any.1) (finite.keys patterns) any.0 any.1 any.2 here;
        front = same_text text (take (length text) any.1) (sym any.4);
      },
    )

-- ---- closed patterns

-- the end of a beginning of a pattern does not exceed that
not_exceeded : {C : Type 0} (patterns : TextMap (List (Entry C))) (text : List ℕ) (start : ℕ) → IsClosed (entries_of patterns)
    → begins_pattern patterns text ≡ true → 0 < start → start < length text → is_exceeded_from (entries_of patterns) text start ≡ false
not_exceeded {C} patterns text start closed begins some within =
    let key = begun patterns text begins in
    let size : length text ≤ length key.0 = omega (arith, ap length key.1.front, length-take (length text) key.0) in
    let front : is_exceeded (entries_of patterns) (take (length text) key.0) ≡ false =
    none_between (λ len. is_exceeded (entries_of patterns) (take len key.0)) 1 (length key.0) (length text)
    (closed key.0 key.1.some) (omega arith) (omega arith) in
    let whole : is_exceeded (entries_of patterns) text ≡ false =
    subst (λ (t : List ℕ). is_exceeded (entries_of patterns) t ≡ false) (sym key.1.front) front in
    none_between (λ at. is_exceeded_from (entries_of patterns) text at) 1 (length text - 1) start whole (omega arith) (omega arith)

-- so it gives as much as each entry of what it ends with
owns_most : {C : Type 0} (keys : Patterns C) (text : List ℕ) (start : ℕ) (entries : List (Entry C)) (entry : Entry C)
    → is_exceeded_from keys text start ≡ false → keys (drop start text) ≡ Some entries → IsAmong entries entry
    → entry.value ≤ own_value keys text (start + entry.place)
owns_most {C} keys text start entries entry kept is among =
    let test : Entry C → Bool = λ e. nat_lt (own_value keys text (start + e.place)) e.value in
    let none : list_any test entries ≡ false = sym (ap (λ o. list_any test (unwrap_or o [])) is) ∙ kept in
    ltb-false (own_value keys text (start + entry.place)) entry.value (none_at test entries entry none among)

-- ---- the longest beginning

-- where a pattern is in a frame, the longest beginning that ends there starts no later
longest_there : {C : Type 0} (patterns : TextMap (List (Entry C))) (framed : List ℕ) (start end : ℕ) → start < end → end ≤ length framed
    → IsSome (entries_of patterns (slice_range framed start end))
    → (first : ℕ) × (first ≤ start) × IsLongestBeginning patterns framed first end
longest_there patterns framed start end some within is =
    let test : ℕ → Bool = λ s. begins_pattern patterns (slice_range framed s end) in
    let first = first_within test start (pattern_begins patterns (slice_range framed start end) is) in (
      first.0,
      first.1,
      record {
        nonempty = omega (arith, first.1);
        within = within;
        begins = first.2.passes;
        longest = λ other less begins. elim (cases_lt other first.0) [
          | inl before ↦ absurd (both_ways (test other) (first.2.before other before) begins)
          | inr after ↦ after
        ];
      },
    )

-- an entry that bears on a place gives it no more, in closed patterns, than an entry of the longest beginning
borne_by_longest : {C : Type 0} (patterns : TextMap (List (Entry C))) (word : List ℕ) (p start end : ℕ) (entry : Entry C)
    → IsClosed (entries_of patterns) → Bears (entries_of patterns) word p start end entry → 0 < entry.value
    → (first : ℕ) × (other : Entry C) × (IsLongestBeginning patterns (frame word) first end)
    × (Bears (entries_of patterns) word p first end other) × (entry.value ≤ other.value)
borne_by_longest {C} patterns word p start end entry closed bears some =
    let key : IsSome (entries_of patterns (slice_range (frame word) start end)) = ap is_some bears.key in
    let long = longest_there patterns (frame word) start end bears.not_empty bears.within key in
    elim (cases_eq long.0 start) [
      | inl is ↦ (start, entry, subst (λ (s : ℕ). IsLongestBeginning patterns (frame word) s end) is long.2, bears, omega arith)
      | inr apart ↦
          let text : List ℕ = slice_range (frame word) long.0 end in
          let size : length text ≡ end - long.0 = length_slice (frame word) long.0 end bears.within in
          let before : long.0 < start = omega (arith, long.1) in
          let kept = not_exceeded patterns text (start - long.0) closed long.2.begins (omega arith) (omega (arith, bears.not_empty)) in
          let tail : drop (start - long.0) text ≡ slice_range (frame word) start end =
          slice_end (frame word) long.0 start end (omega arith) (omega (arith, bears.not_empty)) in
          let own = owns_most (entries_of patterns) text (start - long.0) bears.entries entry kept
          (ap (entries_of patterns) tail ∙ bears.key) bears.among in
          let found = owner (entries_of patterns) text ((start - long.0) + entry.place) (omega (arith, own)) in (
            long.0,
            found.0,
            long.2,
            record {
              not_empty = long.2.nonempty;
              within = bears.within;
              entries = found.1.entries;
              key = found.1.key;
              among = found.1.among;
              place = omega (arith, found.1.there, bears.place);
            },
            omega (arith, own, found.1.value),
          )
    ]

-- in closed patterns the greatest value over all is the one that longest beginnings give
pub read_alike : {C : Type 0} → ValueIsGreatest C → ValueIsBorne C → ClosedReadAlike C
read_alike {C} greatest borne patterns closed word p =
    let keys : Patterns C = entries_of patterns in
    record {
      most = λ start end entry longest bears. greatest keys word p start end entry bears;
      given = elim (borne keys word p) [
        | inl nil ↦ inl nil
        | inr one ↦ elim (cases_eq (value_at keys word p) 0) [
          | inl nil ↦ inl nil
          | inr some ↦
              let long = borne_by_longest patterns word p one.0 one.1 one.2 closed one.3 (omega (arith, one.4)) in
              let most = greatest keys word p long.0 one.1 long.1 long.3 in
              inr (long.0, one.1, long.1, long.2, long.3, omega (arith, one.4, long.4, most))
        ]
      ];
    }

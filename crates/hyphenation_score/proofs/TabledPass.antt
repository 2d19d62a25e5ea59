-- The invariant of the pass by a table over the frame of a word.
use Rattle.std.proofs.Common.{◌≡◌, ℕ, suc, ◌+◌, ◌-◌, ◌*◌, ◌<◌, ◌≤◌, ◌^◌, max, ◌==◌, Bool, false, cond, List, [], ◌∷◌, ◌++◌, length, take, drop, map, filter, Some, None, refl, sym, ap, subst, ◌∙◌, arith, inl, inr, ◌⊎◌, eqb}
use Rattle.std.specs.Prelude.{slice_range, is_some, unwrap_or, count_by, slice_index, slice_index_or}
use Rattle.std.specs.List.{flat_map, range_with_len, sum_by, IsAmong}
use Rattle.std.proofs.Math.Nat.{mul-le-mul_right}
use Rattle.std.proofs.lemmas.Bool.{cases_eq, cases_lt, eq-eqb, ne_eqb}
use Rattle.std.proofs.lemmas.List.{length-take-le, length-drop, get_or_past, take_more, get_or-take, get_or-drop, ext_get_or}
use Rattle.std.proofs.Math.ListN.{drop_of_length-le}
use Rattle.std.proofs.lemmas.List.FromFn.{length-range_with_len, length-map-range_with_len, get_or-map-range_with_len}
use Rattle.std.proofs.lemmas.List.Sums.{count_by-le-length}
use Rattle.std.proofs.lemmas.List.Elements.{filter_agree}
use Rattle.hyphenation_breaks.specs.Dictionary.{Patterns}
use Rattle.hyphenation_breaks.specs.Ranks.{greatest_rank}
use Rattle.hyphenation_breaks.specs.declared.entry.Entry.{Entry}
use Rattle.hyphenation_trie.specs.Counts.{Counts}
use Rattle.hyphenation_trie.specs.Tables.{GoesOn, IsRead}
use Rattle.hyphenation_trie.specs.Vectors.{AreNear, IsVector, entries_before, keys_at_end}
use Rattle.hyphenation_trie.specs.declared.table.Table.{Table}
use Rattle.hyphenation_score.specs.Counting.{CountsWithin}
use Rattle.hyphenation_score.specs.OnePass.{keys_ending, occurrences}
use Rattle.hyphenation_score.specs.Private.OnePass.{bearers_to, bearers_by_ends}
use Rattle.hyphenation_score.specs.Scoring.{frame, bearers_between, bearers, ranks}
use Rattle.hyphenation_score.proofs.GreatestValues.{greatest_rank-append}
use Rattle.hyphenation_score.proofs.NumberRows.{flat_map_none}
use Rattle.hyphenation_score.proofs.OnePass.{slice_is, flat_map_more, by_ends, length-frame, sum_more}

-- The value of a place by the keys that end in the first bytes of the frame.
abbrev pub rank_to : {C : Type 0} → (C → ℕ → ℕ) → Patterns C → List ℕ → ℕ → ℕ → ℕ
rank_to rank keys framed p n = greatest_rank rank (bearers_by_ends keys framed n p)

-- The first bytes of the frame are read: the row, the last 16 values, and the values that are written.
pub record Passed {C : Type 0} (rank : C → ℕ → ℕ) (keys : Patterns C) (table : Table) (framed : List ℕ) (end row : ℕ) (last found : List ℕ) (first reported : ℕ) : Type 0 where
  pub lanes : length last ≡ 16
  pub goes_on : GoesOn rank keys table row (take end framed)
  pub each : (lane p : ℕ) → lane < 16 → p + 16 ≡ end + lane → slice_index last lane ≡ rank_to rank keys framed p end
  pub written : (p : ℕ) → 0 < p → p + 1 ≤ end → slice_index found (p + 15) ≡ rank_to rank keys framed p end
  pub counted : reported ≡ first + sum_by (λ e. keys_ending keys framed e) (range_with_len 1 end)
  pub few : reported ≤ first + end * length framed

-- tests of numbers that hold together
same_tests : (a b c d : ℕ) → (a ≡ b → c ≡ d) → (c ≡ d → a ≡ b) → eqb a b ≡ eqb c d
same_tests a b c d to back = elim (cases_eq a b) [
  | inl is ↦ eq-eqb a b is ∙ sym (eq-eqb c d (to is))
  | inr apart ↦ ne_eqb a b apart ∙ sym (ne_eqb c d (λ e. apart (back e)))
]

filter_none : {A : Type 0} (q : A → Bool) (xs : List A) → ((x : A) → IsAmong xs x → q x ≡ false) → filter q xs ≡ []
filter_none q [] h = refl
filter_none {A} q (x ∷ xs) h =
    let here : q x ≡ false = h x (0, (omega arith, refl)) in
    let rest : filter q xs ≡ [] = filter_none q xs (λ y among. h y (suc among.0, (omega (arith, among.1.0), among.1.1))) in
    ap (λ b. cond {A = List A} b (x ∷ filter q xs) (filter q xs)) here ∙ rest

module _ {C : Type 0} (rank : C → ℕ → ℕ) (keys : Patterns C) (framed : List ℕ) where
  -- one more byte of the frame
  pub rank_more : (p n : ℕ) → rank_to rank keys framed p (n + 1) ≡ max (rank_to rank keys framed p n) (greatest_rank rank (bearers_to keys framed p (n + 1)))
  rank_more p n =
      let f = λ (end : ℕ). bearers_to keys framed p end in
      let last : 1 + n ≡ n + 1 = omega arith in
      ap (greatest_rank rank) (flat_map_more f 1 n) ∙ greatest_rank-append rank (flat_map f (range_with_len 1 n)) (f (1 + n))
      ∙ ap (λ (k : ℕ). max (rank_to rank keys framed p n) (greatest_rank rank (f k))) last

  -- a text of the frame is an end of what is read
  piece_is : (start end : ℕ) → end ≤ length framed → slice_range framed start end ≡ drop start (take end framed)
  piece_is start end le = elim (cases_lt end start) [
    | inl past ↦
        let none : end - start ≡ 0 = omega arith in
        ap (λ (k : ℕ). take k (drop start framed)) none ∙ sym (drop_of_length-le (take end framed) {i = start} (omega (arith, length-take-le end framed le)))
    | inr within ↦ slice_is framed start end (omega arith)
  ]

  -- the entries of the keys that end there, by their distance from the end
  pub ending_before : (p end distance : ℕ) → end ≤ length framed → p + 1 + distance ≡ end → bearers_to keys framed p end ≡ entries_before keys (take end framed) distance
  ending_before p end distance le e =
      let T : List ℕ = take end framed in
      let len : length T ≡ end = length-take-le end framed le in
      let f = λ (start : ℕ). bearers_between keys framed p start end in
      let h = λ (d : ℕ). filter (λ entry. d + entry.place + distance == length T) (unwrap_or (keys (drop d T)) []) in
      let each : (d : ℕ) → f d ≡ h d = λ d. ap (λ x. filter (λ entry. d + entry.place == p + 1) (unwrap_or (keys x) [])) (piece_is d end le)
      ∙ filter_agree (λ entry. d + entry.place == p + 1) (λ entry. d + entry.place + distance == length T) (λ entry. same_tests (d + entry.place) (p + 1) (d + entry.place + distance) (length T) (λ is. omega arith) (λ is. omega arith)) (unwrap_or (keys (drop d T)) []) in
      let same : ◌≡◌ {A = ℕ → List (Entry C)} f h = λ i d. each d i in
      ap (λ (t : ℕ → List (Entry C)). flat_map t (range_with_len 0 end)) same ∙ ap (λ (k : ℕ). flat_map h (range_with_len 0 k)) (sym len)

  pub ending_count : (end : ℕ) → end ≤ length framed → keys_ending keys framed end ≡ keys_at_end keys (take end framed)
  ending_count end le =
      let T : List ℕ = take end framed in
      let f = λ (start : ℕ). is_some (keys (slice_range framed start end)) in
      let h = λ (d : ℕ). is_some (keys (drop d T)) in
      let same : ◌≡◌ {A = ℕ → Bool} f h = λ i d. is_some (keys (piece_is d end le i)) in
      ap (λ (t : ℕ → Bool). count_by t (range_with_len 0 end)) same ∙ ap (λ (k : ℕ). count_by h (range_with_len 0 k)) (sym (length-take-le end framed le))

  -- a key that ends too far after a place, or before it, has no value there
  pub none_far : AreNear keys → (p end : ℕ) → end ≤ length framed → (p + 16 < end) ⊎ (end ≤ p) → bearers_to keys framed p end ≡ []
  none_far near p end le far = flat_map_none (λ start. bearers_between keys framed p start end) 0 end (λ start low high.
      let text : List ℕ = slice_range framed start end in
      let len : length text ≡ end - start = ap length (slice_is framed start end (omega arith)) ∙ length-drop start (take end framed) ∙ ap (λ (k : ℕ). k - start) (length-take-le end framed le) in
      elim (keys text) as (λ o. keys text ≡ o → filter (λ entry. start + entry.place == p + 1) (unwrap_or o []) ≡ []) [
        | None ↦ λ is. refl
        | Some entries ↦ λ is. filter_none (λ entry. start + entry.place == p + 1) entries (λ entry among.
            let close = near text entries (omega arith) is entry among in
            ne_eqb (start + entry.place) (p + 1) (λ e. elim far [ inl after ↦ omega arith | inr before ↦ omega arith ]))
      ] refl)

  -- before a place no value is known
  pub none_early : AreNear keys → (p n : ℕ) → n ≤ length framed → n ≤ p → rank_to rank keys framed p n ≡ 0
  none_early near p n le early =
      ap (greatest_rank rank) (flat_map_none (λ end. bearers_to keys framed p end) 1 n (λ end low high. none_far near p end (omega arith) (inr (omega arith))))

  -- a value stays if it is far from the end
  pub rank_stays : AreNear keys → (p n : ℕ) → n + 1 ≤ length framed → p + 16 < n + 1 → rank_to rank keys framed p (n + 1) ≡ rank_to rank keys framed p n
  rank_stays near p n le far =
      let none : greatest_rank rank (bearers_to keys framed p (n + 1)) ≡ 0 = ap (greatest_rank rank) (none_far near p (n + 1) le (inl far)) in
      omega (arith, rank_more p n, none)

  module _ (table : Table) (near : AreNear keys) where
    -- the vector of a text has the values of the keys that end there
    pub vector_is : (text : List ℕ) (end p lane : ℕ) (vector : List ℕ) → end ≤ length framed → text ≡ take end framed → IsVector rank keys text vector → lane < 16 → p + 16 ≡ end + lane
        → slice_index vector lane ≡ greatest_rank rank (bearers_to keys framed p end)
    vector_is text end p lane vector le is v lt e =
        let distance : ℕ = 15 - lane in
        v.each lane distance (omega arith) ∙ ap (λ t. greatest_rank rank (entries_before keys t distance)) is ∙ ap (greatest_rank rank) (sym (ending_before p end distance le (omega arith)))

    -- as many keys can end there
    few_end : (end : ℕ) → keys_ending keys framed end ≤ end
    few_end end = omega (arith, count_by-le-length (λ start. is_some (keys (slice_range framed start end))) (range_with_len 0 end), length-range_with_len 0 end)

    pub passed_first : (text : List ℕ) (row number : ℕ) (found : List ℕ) (first reported : ℕ) → 1 ≤ length framed → text ≡ take 1 framed → IsRead rank keys table text row number
        → reported ≡ first + slice_index table.counts.items number
        → Passed rank keys table framed 1 row (slice_index_or table.vectors.items number []) found first reported
    passed_first text row number found first reported le is read count =
        let one = read.counted ∙ ap (λ t. keys_at_end keys t) is ∙ sym (ending_count 1 le) in
        record {
          lanes = read.vector.lanes;
          goes_on = subst (λ (t : List ℕ). GoesOn rank keys table row t) is read.goes_on;
          each = λ lane p lt e.
              let none : rank_to rank keys framed p 0 ≡ 0 = refl in
              vector_is text 1 p lane (slice_index_or table.vectors.items number []) le is read.vector lt e ∙ omega (arith, rank_more p 0, none);
          written = λ p pos low. absurd (omega arith);
          counted = omega (arith, count, one, sum_more (λ e. keys_ending keys framed e) 1 0);
          few = omega (arith, count, one, few_end 1);
        }

    pub passed_more : (end from byte row number : ℕ) (last next found new : List ℕ) (first reported more : ℕ) → end + 1 ≤ length framed → byte ≡ slice_index framed end
        → Passed rank keys table framed end from last found first reported
        → IsRead rank keys table (take end framed ++ byte ∷ []) row number
        → length next ≡ 16
        → ((lane : ℕ) → lane < 16 → slice_index next lane ≡ max (slice_index last (lane + 1)) (slice_index (slice_index_or table.vectors.items number []) lane))
        → ((lane : ℕ) → lane < 16 → slice_index new (end + lane) ≡ slice_index next lane)
        → ((i : ℕ) → i < end → slice_index new i ≡ slice_index found i)
        → more ≡ reported + slice_index table.counts.items number
        → Passed rank keys table framed (end + 1) row next new first more
    passed_more end from byte row number last next found new first reported more le byte_is was read lanes raised written before counted =
        let is : take end framed ++ byte ∷ [] ≡ take (end + 1) framed = ap (λ (b : ℕ). take end framed ++ b ∷ []) byte_is ∙ sym (take_more framed end 0 (omega arith)) in
        let vector : List ℕ = slice_index_or table.vectors.items number [] in
        let one = read.counted ∙ ap (λ t. keys_at_end keys t) is ∙ sym (ending_count (end + 1) le) in
        let every : (lane p : ℕ) → lane < 16 → p + 16 ≡ (end + 1) + lane → slice_index next lane ≡ rank_to rank keys framed p (end + 1) = λ lane p lt e.
        let v = vector_is (take end framed ++ byte ∷ []) (end + 1) p lane vector le is read.vector lt e in
        let old : slice_index last (lane + 1) ≡ rank_to rank keys framed p end = elim (cases_lt (lane + 1) 16) [
          | inl low ↦ was.each (lane + 1) p low (omega arith)
          | inr high ↦ get_or_past last (lane + 1) 0 (omega (arith, was.lanes)) ∙ sym (none_early near p end (omega arith) (omega arith))
        ] in
        omega (arith, raised lane lt, v, old, rank_more p end) in
        record {
          lanes = lanes;
          goes_on = subst (λ (t : List ℕ). GoesOn rank keys table row t) is read.goes_on;
          each = every;
          written = λ p pos low. elim (cases_lt (p + 15) end) [
            | inl far ↦ before (p + 15) far ∙ was.written p pos (omega arith) ∙ sym (rank_stays near p end le (omega arith))
            | inr close ↦
                let lane : ℕ = p + 15 - end in
                let at : end + lane ≡ p + 15 = omega arith in
                ap (λ (k : ℕ). slice_index new k) (sym at) ∙ written lane (omega arith) ∙ every lane p (omega arith) (omega arith)
          ];
          counted =
              let f = λ (e : ℕ). keys_ending keys framed e in
              let last_end : 1 + end ≡ end + 1 = omega arith in
              let all = sum_more f 1 end ∙ ap (λ (k : ℕ). sum_by f (range_with_len 1 end) + f k) last_end in
              omega (arith, counted, was.counted, all, one);
          few = omega (arith, counted, was.few, one, few_end (end + 1));
        }

-- ---- the frame of a word

-- A count has room for the reports of one more byte.
pub passed_room : {C : Type 0} (rank : C → ℕ → ℕ) (keys : Patterns C) (table : Table) (word : List ℕ) (end row : ℕ) (last found : List ℕ) (first reported : ℕ)
    → Passed rank keys table (frame word) end row last found first reported → end ≤ length word + 2 → length word < 2 ^ 63 → first ≤ 2 ^ 64 → reported + 2 ^ 32 < 2 ^ 128
passed_room rank keys table word end row last found first reported p le short low =
    let times = mul-le-mul_right {m = end} {n = 9223372036854775810} (length (frame word)) (omega arith) in
    omega (arith, p.few, length-frame word)

module _ {C : Type 0} (rank : C → ℕ → ℕ) (keys : Patterns C) (table : Table) (word : List ℕ) (row : ℕ) (last found : List ℕ) (first reported : ℕ) (p : Passed rank keys table (frame word) ((length word + 1) + 1) row last found first reported) where
  whole : (length word + 1) + 1 ≡ length (frame word)
  whole = omega (arith, length-frame word)

  -- The whole frame is read.
  pub passed_ranks : length found ≡ length word + 18 → take (length word - 1) (drop 16 found) ≡ ranks rank keys word
  passed_ranks long =
      let n : ℕ = length word - 1 in
      let f = λ (q : ℕ). greatest_rank rank (bearers keys (frame word) q) in
      let rest = length-drop 16 found in
      let len : length (take n (drop 16 found)) ≡ n = length-take-le n (drop 16 found) (omega arith) in
      ext_get_or 0 (take n (drop 16 found)) (map f (range_with_len 1 n)) (len ∙ sym (length-map-range_with_len f 1 n))
      (λ i lt.
      let at : 16 + i ≡ (i + 1) + 15 = omega arith in
      get_or-take n (drop 16 found) i 0 (omega (arith, len)) ∙ get_or-drop 16 found i 0 ∙ ap (λ (k : ℕ). slice_index found k) at
      ∙ p.written (i + 1) (omega arith) (omega (arith, len)) ∙ ap (λ (k : ℕ). rank_to rank keys (frame word) (i + 1) k) whole ∙ by_ends rank keys (frame word) (i + 1)
      ∙ sym (get_or-map-range_with_len f 1 n i (i + 1) 0 (omega (arith, len)) (omega arith)))

  pub passed_reported : reported ≡ first + occurrences keys (frame word)
  passed_reported = p.counted ∙ ap (λ (k : ℕ). first + sum_by (λ e. keys_ending keys (frame word) e) (range_with_len 1 k)) whole

-- Each byte of the frame is looked up once, and each occurrence is reported.
pub counts_exact : (bytes longest occurring : ℕ) (old new : Counts) → new.made ≡ old.made + (bytes + 2) → new.reported ≡ old.reported + occurring
    → CountsWithin bytes longest occurring old new (Unit {0})
counts_exact bytes longest occurring old new made reported =
    let times = mul-le-mul_right {m = 1} {n = longest + 1} (bytes + 2) (omega arith) in
    record {
      most = omega arith;
      linear = omega arith;
      made_grows = omega arith;
      reported_grows = omega arith;
      reported_at_most = omega arith;
      each_byte = λ ended. omega arith;
      each_occurrence = λ ended. reported;
    }

-- The places of a segment that stand for places of the NFC.
use Rattle.std.proofs.Common.{◌≡◌, ◌⊎◌, ℕ, ◌+◌, ◌-◌, ◌<◌, ◌≤◌, ◌&&◌, Bool, true, false, cond, zero, suc, List, [], ◌∷◌, ◌++◌, length, chars, filter, take, drop, nat_eq, refl, sym, ap, ap₂, subst, ◌∙◌, arith, inl, inr, IsTrue, length-append, append-nil, append_assoc, take_at}
use Rattle.std.specs.List.{list_any, range_with_len}
use Rattle.std.specs.Str.{IsUtf8, IsCharBoundary, bytes_eq}
use Rattle.std.proofs.Math.Seq.{take-append_seam, drop-append_seam, take-append-add, drop-append-add}
use Rattle.std.proofs.lemmas.Bool.{and_parts, and_from, cases_Bool}
use Rattle.std.proofs.lemmas.List.{take-append-drop, take-append-le, drop-append-le, length-take-le, length-drop}
use Rattle.std.proofs.lemmas.Slice.Eq.{bytes_eq-Decides}
use Rattle.std.proofs.lemmas.Str.{IsUtf8-append, IsUtf8-between, IsUtf8-nil, IsCharBoundary-at_seam, chars-nil}
use Rattle.hyphenation_breaks.specs.Break.{is_boundary}
use Rattle.hyphenation_breaks.specs.Laws.{BoundaryIsOfChars}
use Rattle.composed_words.specs.Composed.{composed, stands_for_any, carried}
use Rattle.composed_words.specs.Private.Segments.{begin_apart, IsSegment, has_between, carried_among}
use Rattle.composed_words.proofs.Compositions.{composed-nil, composed_joins, some_composed, front_apart}
use Rattle.composed_words.proofs.Places.{parted, any_is, any_between}
use Rattle.composed_words.proofs.Ranges.{none_among, first_among, more_among, one_more_among}

-- A front ends where the rest begins apart, or there is no front.
abbrev pub IsCut : List ℕ → List ℕ → Type 0
IsCut front rest = (begin_apart (chars rest) ≡ true) ⊎ (front ≡ [])

pub cut_joins : (front rest : List ℕ) → IsUtf8 front → IsCut front rest → composed (front ++ rest) ≡ composed front ++ composed rest
cut_joins front rest utf8 (inl apart) = composed_joins front rest utf8 apart
cut_joins front rest utf8 (inr none) =
    ap (λ l. composed (l ++ rest)) none ∙ sym (ap (λ l. l ++ composed rest) (ap composed none ∙ composed-nil))

cut_front : (front part rest : List ℕ) → IsUtf8 part → 0 < length part → IsCut front (part ++ rest) → IsCut front part
cut_front front part rest utf8 some (inl apart) = inl (front_apart part rest utf8 some apart)
cut_front front part rest utf8 some (inr none) = inr none

-- ---- at the beginning of a segment

module _ (law : BoundaryIsOfChars) (word front rest : List ℕ) (whole : word ≡ front ++ rest) (front_utf8 : IsUtf8 front)
    (rest_utf8 : IsUtf8 rest) (cut : IsCut front rest) where
  front_is : take (length front) word ≡ front
  front_is = ap (take (length front)) whole ∙ take-append_seam front rest

  rest_is : drop (length front) word ≡ rest
  rest_is = ap (drop (length front)) whole ∙ drop-append_seam front rest

  seam_parts : parted word (length front) ≡ true
  unfolding parted
  seam_parts =
      and_from _ _ ((law word (length front)).1 (IsCharBoundary-at_seam word front rest whole rest_utf8))
      ((bytes_eq-Decides _ _).1 (ap₂ (λ x y. composed x ++ composed y) front_is rest_is ∙ sym (cut_joins front rest front_utf8 cut) ∙ ap composed (sym whole)))

  pub at_start : (places : List ℕ) → stands_for_any word places (length front) ≡ list_any (λ y. nat_eq y (length (composed front))) places
  at_start places =
      any_is word places (length front)
      ∙ ap₂ (λ b f. b && list_any (λ y. nat_eq y (length (composed f))) places) seam_parts front_is

-- ---- within a segment

module _ (law : BoundaryIsOfChars) (word : List ℕ) (start : ℕ) (segment : List ℕ) (base : ℕ) (s : IsSegment word start segment base) where
  rest_utf8 : IsUtf8 (segment ++ s.later)
  rest_utf8 = IsUtf8-append segment s.later s.segment_utf8 s.later_utf8

  word_utf8 : IsUtf8 word
  word_utf8 = subst IsUtf8 (sym s.whole) (IsUtf8-append s.front (segment ++ s.later) s.front_utf8 rest_utf8)

  -- The length of the NFC of the word, by its three parts.
  pub parts_length : length (composed word) ≡ base + (length (composed segment) + length (composed s.later))
  parts_length =
      let two = ap composed s.whole ∙ cut_joins s.front (segment ++ s.later) s.front_utf8 s.before in
      let three = composed_joins segment s.later s.segment_utf8 s.after in
      omega (
        arith,
        ap length two,
        ap length three,
        length-append (composed s.front) (composed (segment ++ s.later)),
        length-append (composed segment) (composed s.later),
        s.base_is,
      )

  pub word_length : length word ≡ start + (length segment + length s.later)
  word_length = omega (arith, ap length s.whole, length-append s.front (segment ++ s.later), length-append segment s.later, s.start_is)

  starts : IsCharBoundary word start
  starts = subst (IsCharBoundary word) (sym s.start_is) (IsCharBoundary-at_seam word s.front (segment ++ s.later) s.whole rest_utf8)

  ends : IsCharBoundary word (start + length segment)
  ends =
      let n : length (s.front ++ segment) ≡ start + length segment = omega (arith, length-append s.front segment, s.start_is) in
      subst (IsCharBoundary word) n
      (IsCharBoundary-at_seam word (s.front ++ segment) s.later (s.whole ∙ sym (append_assoc s.front segment s.later)) s.later_utf8)

  module _ (q : ℕ) (above : start < q) (below : q < start + length segment) (parts : parted word q ≡ true) where
    j : ℕ
    j = q - start

    both : segment ≡ (take j segment) ++ (drop j segment)
    both = sym (take-append-drop j segment)

    place_is : q ≡ length s.front + j
    unfolding j
    place_is = omega (arith, above, s.start_is)

    within : j ≤ length segment
    unfolding j
    within = omega (arith, above, below)

    one_length : length (take j segment) ≡ j
    one_length = length-take-le j segment within

    two_length : length (drop j segment) ≡ length segment - j
    two_length = length-drop j segment

    front_to : take q word ≡ s.front ++ (take j segment)
    front_to =
        ap₂ take place_is s.whole ∙ take-append-add s.front (segment ++ s.later) j
        ∙ ap (λ l. s.front ++ l) (take-append-le j segment s.later within)

    back_from : drop q word ≡ (drop j segment) ++ s.later
    back_from =
        ap₂ drop place_is s.whole ∙ drop-append-add s.front (segment ++ s.later) j ∙ drop-append-le j segment s.later within

    here : IsCharBoundary word q
    unfolding parted
    here = (law word q).0 (and_parts (is_boundary word q) _ parts).0

    one_utf8 : IsUtf8 (take j segment)
    unfolding j
    one_utf8 =
        let rest = ap₂ drop s.start_is s.whole ∙ drop-append_seam s.front (segment ++ s.later) in
        subst IsUtf8 (ap (take j) rest ∙ take-append-le j segment s.later within)
        (IsUtf8-between word start q word_utf8 (omega arith) starts here)

    two_utf8 : IsUtf8 (drop j segment)
    two_utf8 =
        let n : length (drop j segment) ≡ start + length segment - q = two_length ∙ (let e = place_is in omega (arith, e, s.start_is)) in
        subst IsUtf8 (ap (take (start + length segment - q)) back_from ∙ take_at (drop j segment) s.later _ n)
        (IsUtf8-between word q (start + length segment) word_utf8 (omega arith) here ends)

    front_length : length (composed (take q word)) ≡ base + length (composed (take j segment))
    front_length =
        let some : 0 < length (take j segment) = omega (arith, one_length, place_is, above, s.start_is) in
        let cut = subst (IsCut s.front) (ap (λ l. l ++ s.later) both ∙ append_assoc (take j segment) (drop j segment) s.later) s.before in
        let joins = cut_joins s.front (take j segment) s.front_utf8 (cut_front s.front (take j segment) ((drop j segment) ++ s.later) one_utf8 some cut) in
        omega (arith, ap length (ap composed front_to ∙ joins), length-append (composed s.front) (composed (take j segment)), s.base_is)

    back_length : length (composed (drop q word)) ≡ length (composed (drop j segment)) + length (composed s.later)
    back_length =
        omega (arith, ap length (ap composed back_from ∙ composed_joins (drop j segment) s.later two_utf8 s.after), length-append (composed (drop j segment)) (composed s.later))

    sum : length (composed (take q word)) + length (composed (drop q word)) ≡ length (composed word)
    unfolding parted
    sum =
        let f = composed (take q word) in
        let b = composed (drop q word) in
        sym (length-append f b) ∙ ap length ((bytes_eq-Decides (f ++ b) (composed word)).0 (and_parts (is_boundary word q) _ parts).1)

    pub between : (base < length (composed (take q word))) × (length (composed (take q word)) < base + length (composed segment))
    between =
        let some_one : 0 < length (take j segment) = omega (arith, one_length, place_is, above, s.start_is) in
        let some_two : 0 < length (drop j segment) = omega (arith, two_length, place_is, below, s.start_is) in
        let first = some_composed (take j segment) one_utf8 some_one in
        let second = some_composed (drop j segment) two_utf8 some_two in
        (omega (arith, front_length, first), omega (arith, front_length, back_length, sum, parts_length, second))

  -- No place within the segment stands for a place that is not within its NFC.
  pub none_within : (places : List ℕ) → has_between places base (base + length (composed segment)) ≡ false → (q : ℕ) → start < q → q < start + length segment → stands_for_any word places q ≡ false
  none_within places none q above below =
      let f = length (composed (take q word)) in
      any_is word places q
      ∙ elim (cases_Bool (parted word q)) [
        | inr not ↦ ap (λ b. b && list_any (λ y. nat_eq y f) places) not
        | inl parts ↦
            let bounds = between q above below parts in
            elim (cases_Bool (list_any (λ y. nat_eq y f) places)) [
              | inr other ↦ ap₂ (λ a b. a && b) parts other
              | inl some ↦ let clash = any_between places f base (base + length (composed segment)) bounds.0 bounds.1 some in cc
            ]
      ]

  -- The places of a segment, by its first place and those within it.
  pub inner_none : (places found : List ℕ) → has_between places base (base + length (composed segment)) ≡ false → 0 < length segment → found ≡ found ++ carried_among word places (start + 1) (length segment - 1)
  inner_none places found none some =
      sym (append-nil found)
      ∙ ap (λ l. found ++ l) (sym (none_among (stands_for_any word places) (start + 1) (length segment - 1) (λ q above below. none_within places none q (omega arith) (omega arith))))

  pub segment_whole : (places xs ys zs : List ℕ) (test : Bool) → 0 < length segment → test ≡ list_any (λ y. nat_eq y base) places → ys ≡ xs ++ cond test (start ∷ []) []
      → zs ≡ ys ++ carried_among word places (start + 1) (length segment - 1) → zs ≡ xs ++ carried_among word places start (length segment)
  segment_whole places xs ys zs test some told first inner =
      let f = stands_for_any word places in
      let begins : f start ≡ list_any (λ y. nat_eq y base) places =
      ap f s.start_is ∙ at_start law word s.front (segment ++ s.later) s.whole s.front_utf8 rest_utf8 s.before places
      ∙ ap (λ k. list_any (λ y. nat_eq y k) places) (sym s.base_is) in
      let n : length segment ≡ (length segment - 1) + 1 = omega arith in
      inner ∙ ap (λ l. l ++ carried_among word places (start + 1) (length segment - 1)) first ∙ append_assoc xs _ _
      ∙ ap (λ l. xs ++ l)
      (ap (λ b. cond b (start ∷ []) [] ++ carried_among word places (start + 1) (length segment - 1)) (told ∙ sym begins)
      ∙ sym (first_among f start (length segment) (length segment - 1) n))

-- ---- place by place

pub one_more : (word places xs ys zs : List ℕ) (start place : ℕ) (stands : Bool) → start ≤ place → ys ≡ xs ++ carried_among word places start (place - start) → stands ≡ stands_for_any word places place → zs ≡ ys ++ cond stands (place ∷ []) [] → zs ≡ xs ++ carried_among word places start (place + 1 - start)
one_more word places xs ys zs start place stands le so_far told next =
    let f = stands_for_any word places in
    let at : place ≡ start + (place - start) = omega arith in
    let n : (place - start) + 1 ≡ place + 1 - start = omega arith in
    next ∙ ap (λ l. l ++ cond stands (place ∷ []) []) so_far ∙ append_assoc xs _ _
    ∙ ap (λ l. xs ++ l)
    (ap (λ b. carried_among word places start (place - start) ++ cond b (place ∷ []) []) told ∙ one_more_among f start (place - start) place at
    ∙ ap (carried_among word places start) n)

-- ---- segment by segment

-- The places of the segments so far are found, and the rest of the word is to come.
pub record Carrying (word places rest found : List ℕ) (base : ℕ) : Type 0 where
  pub front : List ℕ
  pub whole : word ≡ front ++ rest
  pub base_is : base ≡ length (composed front)
  pub front_utf8 : IsUtf8 front
  pub rest_utf8 : IsUtf8 rest
  pub before : IsCut front rest
  pub found_are : found ≡ carried_among word places 0 (length front)

pub carrying_starts : (word places : List ℕ) → IsUtf8 word → Carrying word places word [] 0
carrying_starts word places utf8 =
    record {
      front = [];
      whole = refl;
      base_is = sym (ap length composed-nil);
      front_utf8 = IsUtf8-nil;
      rest_utf8 = utf8;
      before = inr refl;
      found_are = refl;
    }

module _ (word places rest found : List ℕ) (base : ℕ) (k : Carrying word places rest found base) (segment later : List ℕ) (start : ℕ)
    (cut : rest ≡ segment ++ later) (segment_utf8 : IsUtf8 segment) (later_utf8 : IsUtf8 later) (after : begin_apart (chars later) ≡ true)
    (start_is : start ≡ length word - length rest) where
  start_of_rest : start ≡ length k.front
  start_of_rest = omega (arith, ap length k.whole, length-append k.front rest)

  before_both : IsCut k.front (segment ++ later)
  before_both = subst (IsCut k.front) cut k.before

  pub as_segment : IsSegment word start segment base
  as_segment =
      record {
        front = k.front;
        later = later;
        whole = k.whole ∙ ap (λ l. k.front ++ l) cut;
        start_is = start_of_rest;
        base_is = k.base_is;
        front_utf8 = k.front_utf8;
        segment_utf8 = segment_utf8;
        later_utf8 = later_utf8;
        before = before_both;
        after = after;
      }

  pub carrying_on : (more : List ℕ) (end : ℕ) → 0 < length segment → more ≡ found ++ carried_among word places start (length segment) → end ≡ base + length (composed segment) → Carrying word places later more end
  carrying_on more end some more_are end_is =
      let joins = cut_joins k.front segment k.front_utf8 (cut_front k.front segment later segment_utf8 some before_both) in
      let at : start ≡ 0 + length k.front = omega (arith, start_of_rest) in
      record {
        front = k.front ++ segment;
        whole = k.whole ∙ ap (λ l. k.front ++ l) cut ∙ sym (append_assoc k.front segment later);
        base_is = omega (arith, end_is, k.base_is, ap length joins, length-append (composed k.front) (composed segment));
        front_utf8 = IsUtf8-append k.front segment k.front_utf8 segment_utf8;
        rest_utf8 = later_utf8;
        before = inl after;
        found_are = more_are ∙ ap (λ l. l ++ carried_among word places start (length segment)) k.found_are
            ∙ more_among (stands_for_any word places) 0 (length k.front) (length segment) start at
            ∙ ap (carried_among word places 0) (sym (length-append k.front segment));
      }

pub rest_within : (word places rest found : List ℕ) (base : ℕ) → Carrying word places rest found base → length rest ≤ length word
rest_within word places rest found base k = omega (arith, ap length k.whole, length-append k.front rest)

pub all_carried : (law : BoundaryIsOfChars) (word places rest found all : List ℕ) (base place : ℕ) (test : Bool) → Carrying word places rest found base → length rest ≡ 0 → place ≡ length word → test ≡ list_any (λ y. nat_eq y base) places → all ≡ found ++ cond test (place ∷ []) [] → all ≡ carried word places
unfolding carried
all_carried law word places rest found all base place test k none place_is told last =
    let f = stands_for_any word places in
    let n : length word ≡ length k.front = omega (arith, ap length k.whole, length-append k.front rest) in
    let at : place ≡ 0 + length k.front = omega (arith, n, place_is) in
    let here : place ≡ length k.front = omega (arith, n, place_is) in
    let ends : f place ≡ list_any (λ y. nat_eq y base) places =
    ap f here ∙ at_start law word k.front rest k.whole k.front_utf8 k.rest_utf8 k.before places ∙ ap (λ i. list_any (λ y. nat_eq y i) places) (sym k.base_is) in
    last ∙ ap (λ l. l ++ cond test (place ∷ []) []) k.found_are
    ∙ ap (λ b. carried_among word places 0 (length k.front) ++ cond b (place ∷ []) []) (told ∙ sym ends)
    ∙ one_more_among f 0 (length k.front) place at ∙ ap (λ i. filter f (range_with_len 0 (i + 1))) (sym n)

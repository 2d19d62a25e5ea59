-- The regions of the changes that a level makes.
use Rattle.std.proofs.Common.{◌≡◌, ◌≢◌, ◌⊎◌, ℕ, ℤ, zero, suc, inl, inr, ◌+◌, ◌-◌, ◌<◌, ◌≤◌, ◌+ℤ◌, Bool, true, false, cond, List, [], ◌∷◌, length, get_or, set, pos, Option, None, Some, refl, sym, ap, ◌∙◌, arith, subst}
use Rattle.std.specs.Prelude.{◌&&◌, filter, fold, int_le, nat_le, option_and_then, option_map, replicate}
use Rattle.std.specs.List.{last_or, range_with_len}
use Rattle.std.proofs.lemmas.Bool.{and_parts, cases_Bool, cases_eq, cases_lt, le-ltb, lt-ltb}
use Rattle.std.proofs.lemmas.Bool.Decides.{nat_tests}
use Rattle.std.proofs.lemmas.Grind.{common_steps}
use Rattle.std.proofs.lemmas.Int.{ints}
use Rattle.std.proofs.lemmas.List.{get_or-set_other, get_or-set_same}
use Rattle.libhyphen_files.specs.Levels.{Level}
use Rattle.libhyphen_files.specs.Patterns.{Change}
use Rattle.libhyphen_rule.specs.Counting.{Counted, counted_in, framed}
use Rattle.libhyphen_rule.specs.Laws.{RegionsLieWithinTheWord}
use Rattle.libhyphen_rule.specs.OneLevel.{ChangeAt, Claim, Made, Offer, at_least_one, begins_at, change_at, claim, claim_at, claim_of, cut_of_region, deciders, if_change, level_changes, made_at, made_up_to, made_with, offers, place_of_region, put, reaches}

-- ---- What a claim says.

filter_cons : {X : Type 0} (test : X → Bool) (x : X) (xs : List X) (b : Bool) → test x ≡ b → filter test (x ∷ xs) ≡ cond {A = List X} b (x ∷ filter test xs) (filter test xs)
filter_cons {X} test x xs b is = ap (λ t. cond {A = List X} t (x ∷ filter test xs) (filter test xs)) is

-- The last item that passes a test passes it.
last_passes : {X : Type 0} (test : X → Bool) (first : Option X) (xs : List X) (x : X) → last_or first (filter test xs) ≡ Some x
    → (first ≡ Some x) ⊎ (test x ≡ true)
last_passes test first [] x is = inl is
last_passes test first (y ∷ ys) x is = elim (cases_Bool (test y)) [
  | inl passes ↦
      elim (last_passes test (Some y) ys x (sym (ap (last_or first) (filter_cons test y ys true passes)) ∙ is)) [
        | inl same ↦ inr (let e : y ≡ x = cc in sym (ap test e) ∙ passes)
        | inr there ↦ inr there
      ]
  | inr fails ↦ last_passes test first ys x (sym (ap (last_or first) (filter_cons test y ys false fails)) ∙ is)
]

reached : (begin place first : ℕ) (change : Option Change) → if_change (reaches begin place first) change ≡ true → begin ≤ place
reached begin place first None is = cc
reached begin place first (Some change) is =
    let parts = and_parts (begins_at begin first change && nat_le begin place) (int_le (pos place) (pos begin +ℤ change.cut)) is in
    let low = (and_parts (begins_at begin first change) (nat_le begin place) parts.0).1 in
    grind (arith, nat_tests, low)

place_of : (begin : ℕ) (last : Option Offer) (place : ℕ) → ((o : Offer) → last ≡ Some o → begin ≤ o.place) → option_map (λ o. o.place) last ≡ Some place → begin ≤ place
place_of begin None place low is = cc
place_of begin (Some o) place low is = let e : o.place ≡ place = cc in omega (arith, e, low o refl)

place_low : (given : List Offer) (begin place : ℕ) → place_of_region given begin ≡ Some place → begin ≤ place
place_low given begin place is =
    let test : Offer → Bool = λ o. if_change (reaches begin o.place o.first) o.change in
    place_of begin (last_or None (filter test (deciders given))) place
    (λ o last. elim (last_passes test None (deciders given) o last) [
      | inl nothing ↦ cc
      | inr passes ↦ reached begin o.place o.first o.change passes
    ])
    is

one_or_more : (cut : ℤ) → 1 ≤ at_least_one cut
one_or_more cut = grind (arith, ints)

-- A claim has its region's begin at its place or before it, and cuts a byte or more.
record IsClaim (begin : ℕ) (one : Claim) : Type 0 where
  pub low : begin ≤ one.place
  pub before : one.change.pos ≡ one.place - begin
  pub some : 1 ≤ one.change.cut

made_claim : (counted : List Counted) (begin place : ℕ) (change : Option Change) (one : Claim) → begin ≤ place
    → option_map (claim_of counted begin place) change ≡ Some one → IsClaim begin one
made_claim counted begin place None one low is = cc
made_claim counted begin place (Some change) one low is =
    let e : claim_of counted begin place change ≡ one = cc in
    subst (IsClaim begin) e (record { low = low; before = refl; some = one_or_more (cut_of_region counted begin) })

claim_at_place : (counted : List Counted) (begin : ℕ) (place : Option ℕ) (one : Claim) → ((p : ℕ) → place ≡ Some p → begin ≤ p)
    → option_and_then (claim_at counted (offers counted) begin) place ≡ Some one → IsClaim begin one
claim_at_place counted begin None one low is = cc
claim_at_place counted begin (Some p) one low is = made_claim counted begin p (change_at (offers counted) p) one (low p refl) is

is_claim : (counted : List Counted) (begin : ℕ) (one : Claim) → claim counted begin ≡ Some one → IsClaim begin one
is_claim counted begin one is =
    claim_at_place counted begin (place_of_region (offers counted) begin) one (λ p at. place_low (offers counted) begin p at) is

-- ---- Changes whose regions are apart.

-- The regions end before the next one may begin. In the frame the word's first byte has place 1.
record RegionsApart (bytes next : ℕ) (changes : List (Option ChangeAt)) : Type 0 where
  pub one : (i : ℕ) (c : ChangeAt) → get_or changes i None ≡ Some c
      → (c.pos ≤ i + 1) × (1 ≤ c.cut) × (i + 1 - c.pos < bytes) × (i + 1 - c.pos + 1 + c.cut ≤ next)
  pub two : (i j : ℕ) (c d : ChangeAt) → get_or changes i None ≡ Some c → get_or changes j None ≡ Some d → i ≢ j
      → i + 1 - c.pos ≤ j + 1 - d.pos → i + 1 - c.pos + c.cut ≤ j + 1 - d.pos

nothing_at : (n i : ℕ) (nothing : Option ChangeAt) → nothing ≡ None → get_or (replicate n nothing) i None ≡ None
nothing_at zero i nothing is = refl
nothing_at (suc n) zero nothing is = is
nothing_at (suc n) (suc i) nothing is = nothing_at n i nothing is

apart_none : (bytes next n : ℕ) → RegionsApart bytes next (replicate n None)
apart_none bytes next n = record {
  one = λ i c is. let e = nothing_at n i None refl in cc;
  two = λ i j c d is _ _ _. let e = nothing_at n i None refl in cc;
}

set_behind : (changes : List (Option ChangeAt)) (i : ℕ) (v : Option ChangeAt) → length changes ≤ i → set changes i v ≡ changes
set_behind changes i v le = grind (arith, common_steps)

-- A change of the list with one more is that one, or one of the list.
set_at : (changes : List (Option ChangeAt)) (at i : ℕ) (new c : ChangeAt) → get_or (set changes at (Some new)) i None ≡ Some c
    → ((i ≡ at) × (new ≡ c)) ⊎ (get_or changes i None ≡ Some c)
set_at changes at i new c is = elim (cases_lt at (length changes)) [
  | inr behind ↦ inr (sym (ap (λ xs. get_or xs i None) (set_behind changes at (Some new) behind)) ∙ is)
  | inl within ↦ elim (cases_eq i at) [
    | inl same ↦
        let here : get_or (set changes at (Some new)) i None ≡ Some new =
        ap (λ k. get_or (set changes at (Some new)) k None) same ∙ get_or-set_same changes at (Some new) None within in
        inl (same, cc)
    | inr other ↦ inr (sym (get_or-set_other changes at i (Some new) None other) ∙ is)
  ]
]

put_at : (changes : List (Option ChangeAt)) (one : Claim) (i : ℕ) (c : ChangeAt) → get_or (put one changes) i None ≡ Some c
    → ((1 < one.place) × (i ≡ one.place - 2) × (one.change ≡ c)) ⊎ (get_or changes i None ≡ Some c)
put_at changes one i c is = elim (cases_lt 1 one.place) [
  | inl lt ↦
      let e : put one changes ≡ set changes (one.place - 2) (Some one.change) =
      ap (λ b. cond b (set changes (one.place - 2) (Some one.change)) changes) (lt-ltb 1 one.place lt) in
      elim (set_at changes (one.place - 2) i one.change c (sym (ap (λ xs. get_or xs i None) e) ∙ is)) [
        | inl here ↦ inl (lt, here.0, here.1)
        | inr old ↦ inr old
      ]
  | inr le ↦
      let e : put one changes ≡ changes = ap (λ b. cond b (set changes (one.place - 2) (Some one.change)) changes) (le-ltb 1 one.place le) in
      inr (sym (ap (λ xs. get_or xs i None) e) ∙ is)
]

-- One more region, which begins where the next one may, or behind that.
apart_put : (bytes next begin : ℕ) (changes : List (Option ChangeAt)) (one : Claim) → 1 ≤ begin → begin ≤ bytes → next ≤ begin → IsClaim begin one
    → RegionsApart bytes next changes → RegionsApart bytes (begin + one.change.cut) (put one changes)
apart_put bytes next begin changes one first last le claimed apart = record {
  one = λ i c is. elim (put_at changes one i c is) [
    | inl new ↦
        let cut : one.change.cut ≡ c.cut = ap (λ x. x.cut) new.2 in
        let before : one.change.pos ≡ c.pos = ap (λ x. x.pos) new.2 in
        (omega (arith, claimed.low, claimed.before, claimed.some, new.0, new.1, before), omega (arith, claimed.low, claimed.before, claimed.some, cut), omega (arith, claimed.low, claimed.before, claimed.some, new.0, new.1, before), omega (arith, claimed.low, claimed.before, claimed.some, new.0, new.1, before, cut))
    | inr old ↦
        let has = apart.one i c old in
        (has.0, has.1, has.2, omega (arith, has.3))
  ];
  two = λ i j c d at_i at_j other order. elim (put_at changes one i c at_i) [
    | inl new ↦ elim (put_at changes one j d at_j) [
      | inl newer ↦ absurd (other (new.1 ∙ sym newer.1))
      | inr old ↦
          let before : one.change.pos ≡ c.pos = ap (λ x. x.pos) new.2 in
          let has = apart.one j d old in
          absurd (omega (arith, claimed.low, claimed.before, new.0, new.1, before, has.0, has.1, has.3, order))
    ]
    | inr old ↦ elim (put_at changes one j d at_j) [
      | inl new ↦
          let before : one.change.pos ≡ d.pos = ap (λ x. x.pos) new.2 in
          let has = apart.one i c old in
          omega (arith, claimed.low, claimed.before, new.0, new.1, before, has.3)
      | inr older ↦ apart.two i j c d old older other order
    ]
  ];
}

apart_with : (bytes begin : ℕ) (counted : List Counted) (made : Made) (one : Option Claim) → ((x : Claim) → one ≡ Some x → IsClaim begin x)
    → 1 ≤ begin → begin ≤ bytes → made.next ≤ begin
    → RegionsApart bytes made.next made.changes → RegionsApart bytes (made_with made begin one).next (made_with made begin one).changes
apart_with bytes begin counted made None claims first last le apart = apart
apart_with bytes begin counted made (Some one) claims first last le apart =
    apart_put bytes made.next begin made.changes one first last le (claims one refl) apart

apart_at : (bytes begin : ℕ) (counted : List Counted) (made : Made) → 1 ≤ begin → begin ≤ bytes
    → RegionsApart bytes made.next made.changes → RegionsApart bytes (made_at counted made begin).next (made_at counted made begin).changes
apart_at bytes begin counted made first last apart =
    let with : Made = made_with made begin (claim counted begin) in
    elim (cases_lt begin made.next) [
      | inl lt ↦
          let e : made_at counted made begin ≡ made = ap (λ b. cond {A = Made} b made with) (lt-ltb begin made.next lt) in
          subst (λ m. RegionsApart bytes m.next m.changes) (sym e) apart
      | inr le ↦
          let e : made_at counted made begin ≡ with = ap (λ b. cond {A = Made} b made with) (le-ltb begin made.next le) in
          subst (λ m. RegionsApart bytes m.next m.changes) (sym e)
          (apart_with bytes begin counted made (claim counted begin) (is_claim counted begin) first last le apart)
    ]

apart_fold : (bytes : ℕ) (counted : List Counted) (a n : ℕ) (made : Made) → 1 ≤ a → a + n ≤ bytes + 1 → RegionsApart bytes made.next made.changes
    → RegionsApart bytes (fold (made_at counted) made (range_with_len a n)).next (fold (made_at counted) made (range_with_len a n)).changes
apart_fold bytes counted a zero made first last apart = apart
apart_fold bytes counted a (suc n) made first last apart =
    apart_fold bytes counted (a + 1) n (made_at counted made a) (omega arith) (omega arith)
    (apart_at bytes a counted made first (omega arith) apart)

level_apart : (level : Level) (word : List ℕ) → (next : ℕ) × RegionsApart (length word) next (level_changes level word)
unfolding level_changes made_up_to
level_apart level word =
    let counted = counted_in level.patterns (framed word) in
    let none : Made = record { next = 1; changes = replicate (length word) None } in (
      (fold (made_at counted) none (range_with_len 1 (length word))).next,
      apart_fold (length word) counted 1 (length word) none (omega arith) (omega arith) (apart_none (length word) 1 (length word)),
    )

pub regions_within : RegionsLieWithinTheWord
regions_within level word =
    let has = level_apart level word in
    (λ byte change is. let one = has.1.one byte change is in (one.0, one.1, one.2), has.1.two)

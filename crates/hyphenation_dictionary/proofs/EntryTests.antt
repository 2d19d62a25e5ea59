-- Tests of the entries of a key, one after the other.
use Rattle.std.proofs.Common.{◌≡◌, ◌∙◌, ℕ, ◌+◌, ◌<◌, ◌≤◌, ◌^◌, Bool, true, false, ◌&&◌, nat_le, List, ◌∷◌, Option, length, get_or, drop, drop-cons, add-one, refl, sym, ap, arith}
use Rattle.std.specs.Prelude.{IsTrue, ◌↔◌}
use Rattle.std.proofs.lemmas.Bool.Decides.{nat_tests}
use Rattle.std.specs.Cmp.{both_ways}
use Rattle.hyphenation_breaks.specs.Break.{Change, is_boundary}
use Rattle.hyphenation_breaks.specs.Invariant.{is_value, stays_within, fits_usize}
use Rattle.hyphenation_breaks.specs.Laws.{is_entry, entries_from}
use Rattle.hyphenation_breaks.specs.declared.entry.Entry.{Entry}

-- The test of an entry whose place and value are in range.
told : (r b f s v : Bool) → (IsTrue r ↔ IsTrue (b && (f && s))) → f ≡ true → v ≡ true → r ≡ (b && (v && s))
told r b f s v h ef ev = both_ways r (b && (f && s)) h.0 h.1 ∙ (λ i. b && ((ef ∙ sym ev) i && s))

pub entry_told : (r : Bool) (key : List ℕ) (place value : ℕ) (change : Option Change) → place < 2 ^ 64 → value ≤ 255 → (value ≡ 0 → ⊥)
    → (IsTrue r ↔ IsTrue (is_boundary key place && (fits_usize place && stays_within key place change))) → r ≡ (is_boundary key place && (is_value value && stays_within key place change))
entry_told r key place value change below most some h = told r (is_boundary key place) (fits_usize place) (stays_within key place change) (is_value value) h short sound
  where
    short : fits_usize place ≡ true
    short = grind (arith, nat_tests)

    sound : is_value value ≡ true
    sound = grind (arith, nat_tests)

pub no_value : (value : ℕ) (b s : Bool) → value ≡ 0 → false ≡ (b && (is_value value && s))
no_value value true s none = λ i. is_value (sym none i) && s
no_value value false s none = refl

module _ {C : Type 0} (change_of : C → Option Change) (key : List ℕ) (least : ℕ) (es : List (Entry C)) (i : ℕ) (here : Entry C) (lt : i < length es) (is : here ≡ get_or es i here) where
  abbrev later : Bool
  later = entries_from change_of key (here.place + 1) (drop (i + 1) es)

  abbrev stands : Bool
  stands = is_boundary key here.place && is_entry change_of key here

  next : entries_from change_of key least (drop i es) ≡ (nat_le least here.place && is_boundary key here.place && is_value here.value && stays_within key here.place (change_of here.change) && later)
  next = ap (entries_from change_of key least) (drop-cons es i here lt ∙ (λ k. sym is k ∷ drop (sym (add-one i) k) es))

  early : (a b v s rest : Bool) → a ≡ false → (a && b && v && s && rest) ≡ false
  early true b v s rest e = absurd cc
  early false b v s rest e = refl

  wrong : (a b v s rest : Bool) → (b && (v && s)) ≡ false → (a && b && v && s && rest) ≡ false
  wrong true true true true rest e = absurd cc
  wrong true true true false rest e = refl
  wrong true true false s rest e = refl
  wrong true false v s rest e = refl
  wrong false b v s rest e = refl

  right : (a b v s rest : Bool) → a ≡ true → (b && (v && s)) ≡ true → (a && b && v && s && rest) ≡ rest
  right true true true true rest e f = refl
  right true true true false rest e f = absurd cc
  right true true false s rest e f = absurd cc
  right true false v s rest e f = absurd cc
  right false b v s rest e f = absurd cc

  pub too_early : (all : Bool) → here.place < least → entries_from change_of key least (drop i es) ≡ all → false ≡ all
  too_early all below so_far = sym (next ∙ early (nat_le least here.place) (is_boundary key here.place) (is_value here.value) (stays_within key here.place (change_of here.change)) later off) ∙ so_far
    where
      off : nat_le least here.place ≡ false
      off = grind (arith, nat_tests)

  pub unsound : (all : Bool) → stands ≡ false → entries_from change_of key least (drop i es) ≡ all → false ≡ all
  unsound all off so_far = sym (next ∙ wrong (nat_le least here.place) (is_boundary key here.place) (is_value here.value) (stays_within key here.place (change_of here.change)) later off) ∙ so_far

  pub goes_on : (all : Bool) → least ≤ here.place → stands ≡ true → entries_from change_of key least (drop i es) ≡ all → later ≡ all
  goes_on all le on so_far = sym (next ∙ right (nat_le least here.place) (is_boundary key here.place) (is_value here.value) (stays_within key here.place (change_of here.change)) later reached on) ∙ so_far
    where
      reached : nat_le least here.place ≡ true
      reached = grind (arith, nat_tests)

-- The cells of a frame's places, with one offer more.
use Rattle.std.proofs.Common.{◌≡◌, ℕ, ◌%◌, ◌<◌, ◌≤◌, ◌≢◌, ◌==◌, ◌&&◌, Bool, true, false, List, [], ◌∷◌, ◌++◌, length, Option, Some, None, refl, sym, ap, subst, ◌∙◌, arith, inl, inr}
use Rattle.std.specs.Prelude.{nat_le, int_le, pos, ◌+ℤ◌, slice_index_or}
use Rattle.std.specs.Borrow.{Bor}
use Rattle.std.specs.Option.{option_copied}
use Rattle.std.proofs.lemmas.Bool.{cases_eq, cases_Bool, eq-eqb, ne_eqb, leb-true, and_parts}
use Rattle.std.proofs.Math.Seq.{get_or-append_seam}
use Rattle.std.proofs.lemmas.List.{length-append, get_or_append_left}
use Rattle.hyphenation_breaks.specs.Dictionary.{TextMap}
use Rattle.libhyphen_files.specs.Patterns.{Change, Pattern}
use Rattle.libhyphen_rule.specs.Counting.{Counted, counted_up_to}
use Rattle.libhyphen_rule.specs.OneLevel.{Offer, offers, offers_of, digit_at, is_odd, change_at, begins_at, reaches, if_change, raisers, deciders, has_region}
use Rattle.libhyphen_rule.specs.Private.Cells.{IsCell, HasCells, AreCells, IsBegin, empty_cell, is_at, lies_in, with_region, with_cut, with_digit, with_change, TakesOffer, TakesOffers, TakesPattern}
use Rattle.libhyphen_rule.specs.Private.Pass.{value_of}
use Rattle.libhyphen_rule.specs.declared.cells.Cell.{Cell}
use Rattle.libhyphen_rule.proofs.Offers.{digit_raised, digit_kept, offers_more}
use Rattle.libhyphen_rule.proofs.Deciders.{deciders_with, deciders_even, deciders_low, change_same, region_same, change_new, change_kept, region_new, region_kept, cut_new, cut_kept}

-- A region that begins at a place reaches another one.
reaches_is : (at place first : ℕ) (change : Option Change) (begin : Option ℕ) → IsBegin first change begin
    → if_change (reaches at place first) change ≡ lies_in place change begin at
reaches_is at place first None begin is = refl
reaches_is at place first (Some c) begin is =
    ap (λ b. b && nat_le at place && int_le (pos place) (pos at +ℤ c.cut)) (is at)

lies_from : (at place : ℕ) (change : Option Change) (begin : Option ℕ) → lies_in place change begin at ≡ true → at ≤ place
lies_from at place None begin is = absurd cc
lies_from at place (Some c) begin is =
    let parts = and_parts (is_at begin at && nat_le at place) (int_le (pos place) (pos at +ℤ c.cut)) is in
    let two = and_parts (is_at begin at) (nat_le at place) parts.0 in
    leb-true at place two.1

module _ (counted : List Counted) (given : List Offer) (o : Offer) (places at : ℕ) (cell : Cell) (is : IsCell counted given places at cell) where
  -- An offer that is no greater changes nothing.
  pub cell_kept : o.digit ≤ digit_at given o.place → IsCell counted (given ++ o ∷ []) places at cell
  cell_kept low =
      let same = deciders_low given o low in
      let digit : digit_at (given ++ o ∷ []) at ≡ digit_at given at = elim (cases_eq o.place at) [
        | inl here ↦
            let most : o.digit ≤ digit_at given at = subst (λ (k : ℕ). o.digit ≤ digit_at given k) here low in
            digit_raised given o at here ∙ omega arith
        | inr apart ↦ digit_kept given o at apart
      ] in
      record {
        digit = is.digit ∙ sym digit;
        change = is.change ∙ sym (change_same given (given ++ o ∷ []) at same);
        region = is.region ∙ sym (region_same given (given ++ o ∷ []) at same);
        cut = is.cut;
        within = is.within;
      }

  raised_here : at ≡ o.place → digit_at given o.place < o.digit → o.digit ≡ digit_at (given ++ o ∷ []) at
  raised_here here raises =
      let less : digit_at given at < o.digit = subst (λ (k : ℕ). digit_at given k < o.digit) (sym here) raises in
      sym (digit_raised given o at (sym here) ∙ omega arith)

  -- An even one that is greater raises only the digit.
  pub cell_raised : digit_at given o.place < o.digit → is_odd o.digit ≡ false
      → IsCell counted (given ++ o ∷ []) places at (with_digit o.digit (at == o.place) cell)
  cell_raised raises even =
      let same = deciders_even given o raises even in
      let change = change_same given (given ++ o ∷ []) at same in
      let region = region_same given (given ++ o ∷ []) at same in
      elim (cases_eq at o.place) [
        | inl here ↦
            subst (λ b. IsCell counted (given ++ o ∷ []) places at (with_digit o.digit b cell)) (sym (eq-eqb at o.place here))
            (record {
              digit = raised_here here raises;
              change = is.change ∙ sym change;
              region = is.region ∙ sym region;
              cut = is.cut;
              within = is.within;
            })
        | inr apart ↦
            subst (λ b. IsCell counted (given ++ o ∷ []) places at (with_digit o.digit b cell)) (sym (ne_eqb at o.place apart))
            (record {
              digit = is.digit ∙ sym (digit_kept given o at (λ e. apart (sym e)));
              change = is.change ∙ sym change;
              region = is.region ∙ sym region;
              cut = is.cut;
              within = is.within;
            })
      ]

  -- An odd one decides.
  decided : Option (Bor Change) → Bool → Bool → Cell
  decided change here there = with_region o.place there (with_change change here (with_digit o.digit here cell))

  pub cell_decided : (change : Option (Bor Change)) (begin : Option ℕ) → value_of change ≡ o.change → IsBegin o.first o.change begin → o.place < places
      → digit_at given o.place < o.digit → is_odd o.digit ≡ true
      → IsCell counted (given ++ o ∷ []) places at (with_region o.place (lies_in o.place o.change begin at) (with_change change (at == o.place) (with_digit o.digit (at == o.place) cell)))
  cell_decided change begin changes begins inside raises odd =
      let more = deciders_with given o raises odd in
      let reached = reaches_is at o.place o.first o.change begin begins in
      let F : Bool → Bool → Type 0 = λ here there. IsCell counted (given ++ o ∷ []) places at (with_region o.place there (with_change change here (with_digit o.digit here cell))) in
      let new_region = λ (e : lies_in o.place o.change begin at ≡ true). sym (region_new given o more at (reached ∙ e)) in
      let old_region = λ (e : lies_in o.place o.change begin at ≡ false). is.region ∙ sym (region_kept given o more at (reached ∙ e)) in
      let new_within : lies_in o.place o.change begin at ≡ true → (k : ℕ) → Some o.place ≡ Some k → (at ≤ k) × (k < places) =
      λ e k same. (let low = lies_from at o.place o.change begin e in let eq : o.place ≡ k = cc in (omega arith, omega arith)) in
      elim (cases_eq at o.place) [
        | inl here ↦
            let change_is : value_of change ≡ change_at (given ++ o ∷ []) at =
            changes ∙ sym (change_new given o more) ∙ ap (change_at (given ++ o ∷ [])) (sym here) in
            subst (λ b. F b (lies_in o.place o.change begin at)) (sym (eq-eqb at o.place here)) (elim (cases_Bool (lies_in o.place o.change begin at)) [
              | inl e ↦ subst (λ b. F true b) (sym e) (record { digit = raised_here here raises; change = change_is; region = new_region e; cut = is.cut; within = new_within e })
              | inr e ↦ subst (λ b. F true b) (sym e) (record { digit = raised_here here raises; change = change_is; region = old_region e; cut = is.cut; within = is.within })
            ])
        | inr apart ↦
            let digit_is = is.digit ∙ sym (digit_kept given o at (λ e. apart (sym e))) in
            let change_is = is.change ∙ sym (change_kept given o more at (λ e. apart (sym e))) in
            subst (λ b. F b (lies_in o.place o.change begin at)) (sym (ne_eqb at o.place apart)) (elim (cases_Bool (lies_in o.place o.change begin at)) [
              | inl e ↦ subst (λ b. F false b) (sym e) (record { digit = digit_is; change = change_is; region = new_region e; cut = is.cut; within = new_within e })
              | inr e ↦ subst (λ b. F false b) (sym e) (record { digit = digit_is; change = change_is; region = old_region e; cut = is.cut; within = is.within })
            ])
      ]

-- ---- All cells.

module _ (cells : List Cell) (place digit : ℕ) (item : Cell) (inside : place < length cells) where
  item_digit : (counted : List Counted) (given : List Offer) (o : Offer) → o.place ≡ place → HasCells counted given cells → (slice_index_or cells place item).digit ≡ digit_at given o.place
  item_digit counted given o at has = (has place item inside).digit ∙ ap (digit_at given) (sym at)

  pub takes_low : (change : Option Change) (begin : Option ℕ) → digit ≤ (slice_index_or cells place item).digit → TakesOffer place digit change begin cells cells
  takes_low change begin low = λ counted given o at is changes begins has k d next_level.
      let old = item_digit counted given o at has in
      cell_kept counted given o (length cells) k (slice_index_or cells k d) (has k d next_level) (omega arith)

  pub takes_even : (new : List Cell) (change : Option Change) (begin : Option ℕ) → length new ≡ length cells
      → AreCells cells new (λ at. with_digit digit (at == place)) → (slice_index_or cells place item).digit < digit → digit % 2 ≢ 1 → TakesOffer place digit change begin cells new
  takes_even new change begin size are raises even = λ counted given o at is changes begins has k d next_level.
      let within : k < length cells = omega arith in
      let old = item_digit counted given o at has in
      let cell = cell_raised counted given o (length cells) k (slice_index_or cells k d) (has k d within) (omega arith)
      (ne_eqb (o.digit % 2) 1 (λ e. even (ap (λ (n : ℕ). n % 2) (sym is) ∙ e))) in
      let same : slice_index_or new k d ≡ with_digit o.digit (k == o.place) (slice_index_or cells k d) =
      are k d within ∙ ap (λ (n : ℕ). with_digit n (k == place) (slice_index_or cells k d)) (sym is)
      ∙ ap (λ (p : ℕ). with_digit o.digit (k == p) (slice_index_or cells k d)) (sym at) in
      subst (λ (n : ℕ). IsCell counted (given ++ o ∷ []) n k (slice_index_or new k d)) (sym size)
      (subst (λ (x : Cell). IsCell counted (given ++ o ∷ []) (length cells) k x) (sym same) cell)

  pub takes_odd : (one two new : List Cell) (change : Option (Bor Change)) (begin : Option ℕ)
      → length one ≡ length cells → length two ≡ length one → length new ≡ length two
      → AreCells cells one (λ at. with_digit digit (at == place)) → AreCells one two (λ at. with_change change (at == place))
      → AreCells two new (λ at. with_region place (lies_in place (value_of change) begin at))
      → (slice_index_or cells place item).digit < digit → digit % 2 ≡ 1 → TakesOffer place digit (value_of change) begin cells new
  takes_odd one two new change begin size1 size2 size3 are1 are2 are3 raises odd = λ counted given o at is changes begins has k d next_level.
      let within : k < length cells = omega arith in
      let old = item_digit counted given o at has in
      let cell = cell_decided counted given o (length cells) k (slice_index_or cells k d) (has k d within) change begin (sym changes)
      (subst (λ (c : Option Change). IsBegin o.first c begin) (sym changes) begins) (omega arith) (omega arith)
      (eq-eqb (o.digit % 2) 1 (ap (λ (n : ℕ). n % 2) is ∙ odd)) in
      let after = λ (n p : ℕ) (c : Option Change). with_region p (lies_in p c begin k) (with_change change (k == p) (with_digit n (k == p) (slice_index_or cells k d))) in
      let same : slice_index_or new k d ≡ after o.digit o.place o.change =
      are3 k d (omega arith) ∙ ap (λ (x : Cell). with_region place (lies_in place (value_of change) begin k) x)
      (are2 k d (omega arith) ∙ ap (λ (x : Cell). with_change change (k == place) x) (are1 k d within))
      ∙ ap (λ (n : ℕ). after n place (value_of change)) (sym is)
      ∙ ap (λ (p : ℕ). after o.digit p (value_of change)) (sym at)
      ∙ ap (λ (c : Option Change). after o.digit o.place c) (sym changes) in
      let size : length new ≡ length cells = omega arith in
      subst (λ (n : ℕ). IsCell counted (given ++ o ∷ []) n k (slice_index_or new k d)) (sym size)
      (subst (λ (x : Cell). IsCell counted (given ++ o ∷ []) (length cells) k x) (sym same) cell)

-- The cut of a pattern's region.
cell_cut : (counted : List Counted) (given : List Offer) (c : Counted) (places at : ℕ) (cell : Cell) → IsCell counted given places at cell
    → IsCell (counted ++ c ∷ []) given places at (with_cut c.change (has_region at c) cell)
cell_cut counted given c places at cell is = elim (cases_Bool (has_region at c)) [
  | inl there ↦
      subst (λ b. IsCell (counted ++ c ∷ []) given places at (with_cut c.change b cell)) (sym there)
      (record { digit = is.digit; change = is.change; region = is.region; cut = sym (cut_new counted c at there); within = is.within })
  | inr elsewhere ↦
      subst (λ b. IsCell (counted ++ c ∷ []) given places at (with_cut c.change b cell)) (sym elsewhere)
      (record { digit = is.digit; change = is.change; region = is.region; cut = is.cut ∙ sym (cut_kept counted c at elsewhere); within = is.within })
]

has_region_is : (c : Counted) (begin : Option ℕ) (at : ℕ) (change : Option Change) → IsBegin c.first change begin
    → if_change (begins_at at c.first) change ≡ if_change (λ _. is_at begin at) change
has_region_is c begin at None is = refl
has_region_is c begin at (Some x) is = is at

pub takes_pattern : (cells old new : List Cell) (start first : ℕ) (digits : List ℕ) (change : Option Change) (begin : Option ℕ)
    → length old ≡ length cells → length new ≡ length old → IsBegin first change begin
    → TakesOffers start digits change begin cells old
    → AreCells old new (λ at. with_cut change (if_change (λ _. is_at begin at) change))
    → TakesPattern start first digits change cells new
takes_pattern cells old new start first digits change begin size1 size2 begins takes are = λ counted given c at from ds changes has k d next_level.
    let within : k < length old = omega arith in
    let begins_c : IsBegin c.first change begin = subst (λ (n : ℕ). IsBegin n change begin) (sym from) begins in
    let taken = takes counted given c at ds changes begins_c has in
    let cell = cell_cut counted (given ++ offers_of c) c (length old) k (slice_index_or old k d) (taken k d within) in
    let after = λ (x : Option Change). with_cut x (if_change (λ _. is_at begin k) x) (slice_index_or old k d) in
    let same : slice_index_or new k d ≡ with_cut c.change (has_region k c) (slice_index_or old k d) =
    are k d within ∙ ap after (sym changes)
    ∙ ap (λ b. with_cut c.change b (slice_index_or old k d)) (sym (has_region_is c begin k c.change (subst (λ (x : Option Change). IsBegin c.first x begin) (sym changes) begins_c))) in
    subst (λ (n : ℕ). IsCell (counted ++ c ∷ []) (given ++ offers_of c) n k (slice_index_or new k d)) (sym size2)
    (subst (λ (x : Cell). IsCell (counted ++ c ∷ []) (given ++ offers_of c) (length old) k x) (sym same) cell)

-- Cells to which nothing is given.
pub has_none : (cells : List Cell) → ((place : ℕ) (d : Cell) → place < length cells → slice_index_or cells place d ≡ empty_cell) → HasCells [] [] cells
unfolding digit_at deciders raisers
has_none cells empty = λ place d next_level.
    subst (λ (x : Cell). IsCell [] [] (length cells) place x) (sym (empty place d next_level))
    (record { digit = refl; change = refl; region = refl; cut = refl; within = λ k is. absurd cc })

pub empty_more : (cells new : List Cell) → new ≡ cells ++ empty_cell ∷ []
    → ((place : ℕ) (d : Cell) → place < length cells → slice_index_or cells place d ≡ empty_cell)
    → (place : ℕ) (d : Cell) → place < length new → slice_index_or new place d ≡ empty_cell
empty_more cells new is empty place d next_level =
    let size = ap length is ∙ length-append cells (empty_cell ∷ []) in
    ap (λ (xs : List Cell). slice_index_or xs place d) is ∙ (elim (cases_eq place (length cells)) [
      | inl last ↦ ap (λ (k : ℕ). slice_index_or (cells ++ empty_cell ∷ []) k d) last ∙ get_or-append_seam cells empty_cell [] d
      | inr apart ↦ get_or_append_left cells (empty_cell ∷ []) d place (omega arith) ∙ empty place d (omega arith)
    ])

-- ---- The pass.

pub first_cells : (patterns : TextMap (List Pattern)) (frame : List ℕ) (cells : List Cell) → HasCells [] [] cells
    → HasCells (counted_up_to patterns frame 0) (offers (counted_up_to patterns frame 0)) cells
unfolding counted_up_to offers
first_cells patterns frame cells has = has

pub same_cells : (counted more : List Counted) (cells new : List Cell) → more ≡ counted → new ≡ cells
    → HasCells counted (offers counted) cells → HasCells more (offers more) new
same_cells counted more cells new same kept has =
    subst (λ (x : List Cell). HasCells more (offers more) x) (sym kept) (subst (λ (cs : List Counted). HasCells cs (offers cs) cells) (sym same) has)

pub more_cells : (counted more : List Counted) (c : Counted) (start first : ℕ) (digits : List ℕ) (change : Option Change) (cells taken new : List Cell)
    → more ≡ counted ++ c ∷ [] → new ≡ taken → c.start ≡ start → c.first ≡ first → c.digits ≡ digits → c.change ≡ change
    → TakesPattern start first digits change cells taken → HasCells counted (offers counted) cells → HasCells more (offers more) new
more_cells counted more c start first digits change cells taken new is kept at from ds changes takes has =
    let step = takes counted (offers counted) c at from ds changes has in
    let given : HasCells (counted ++ c ∷ []) (offers (counted ++ c ∷ [])) taken =
    subst (λ (g : List Offer). HasCells (counted ++ c ∷ []) g taken) (sym (offers_more counted c)) step in
    subst (λ (x : List Cell). HasCells more (offers more) x) (sym kept) (subst (λ (cs : List Counted). HasCells cs (offers cs) taken) (sym is) given)

pub value_copied : (o : Option (Bor Change)) → value_of o ≡ option_copied o
value_copied None = refl
value_copied (Some x) = refl

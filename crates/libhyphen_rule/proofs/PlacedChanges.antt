-- The changes of a word's places, as they are made.
use Rattle.std.proofs.Common.{◌≡◌, ℕ, suc, ◌+◌, ◌-◌, ◌<◌, ◌≤◌, nat_lt, Bool, true, false, cond, List, [], ◌∷◌, ◌++◌, length, map, filter, fold, get_or, Option, Some, None, refl, sym, ap, ◌∙◌, arith}
use Rattle.std.specs.Prelude.{replicate, slice_range, slice_set, option_and_then, option_map}
use Rattle.std.specs.List.{range_with_len, filter_map, flat_map, cons_option, last_or}
use Rattle.std.proofs.lemmas.Bool.{lt-ltb, le-ltb}
use Rattle.std.proofs.lemmas.List.{map-set}
use Rattle.std.proofs.lemmas.List.Sums.{fold-append}
use Rattle.hyphenation_breaks.specs.Dictionary.{TextMap}
use Rattle.libhyphen_files.specs.Levels.{pattern_at, HasNoChanges}
use Rattle.libhyphen_files.specs.Patterns.{Pattern}
use Rattle.libhyphen_rule.specs.Counting.{Counted, framed, counted_from, counted_if_key, counted_at, counted_in, counted_up_to, longest_start}
use Rattle.libhyphen_rule.specs.Found.{placed, placed_all}
use Rattle.libhyphen_rule.specs.OneLevel.{Offer, offer_of, offers_of, offers, raisers, deciders, digit_at, is_odd, if_change, reaches, ChangeAt, Claim, claim, claim_at, put, Made, made_with, made_at, made_up_to, changes_by}
use Rattle.libhyphen_rule.specs.Private.Cells.{HasCells}
use Rattle.libhyphen_rule.specs.Private.Claims.{AreWithin, made_now}
use Rattle.libhyphen_rule.specs.Private.Lanes.{AllPlain}
use Rattle.libhyphen_rule.specs.declared.cells.Cell.{Cell}
use Rattle.libhyphen_rule.specs.declared.one_level.PlacedChange.{PlacedChange}
use Rattle.libhyphen_rule.proofs.LongestStart.{range_more}

pub all_none : (xs : List (Option PlacedChange)) → ((k : ℕ) (d : Option PlacedChange) → k < length xs → get_or xs k d ≡ None)
    → placed_all xs ≡ replicate (length xs) None
all_none [] none = refl
all_none (x ∷ xs) none =
    let first : option_map placed x ≡ None = ap (option_map placed) (none 0 x (omega arith)) in
    let rest = all_none xs (λ k d next_level. none (suc k) d (omega arith)) in
    ap (λ (y : Option ChangeAt). y ∷ map (option_map placed) xs) first ∙ ap (λ (ys : List (Option ChangeAt)). None ∷ ys) rest

pub put_is : (changes : List (Option PlacedChange)) (place : ℕ) (change : PlacedChange) → 2 ≤ place
    → placed_all (slice_set changes (place - 2) (Some change)) ≡ put (record { place = place; change = placed change }) (placed_all changes)
put_is changes place change low =
    map-set (option_map placed) changes (place - 2) (Some change)
    ∙ sym (ap (λ b. cond b (slice_set (placed_all changes) (place - 2) (Some (placed change))) (placed_all changes)) (lt-ltb 1 place (omega arith)))

-- One beginning of a region more.
made_more : (counted : List Counted) (bytes begins : ℕ)
    → made_up_to counted bytes (begins + 1) ≡ made_at counted (made_up_to counted bytes begins) (begins + 1)
unfolding made_up_to
made_more counted bytes begins =
    let first : Made = made_now 1 (replicate bytes None) in
    ap (fold (made_at counted) first) (range_more 1 begins)
    ∙ fold-append (made_at counted) first (range_with_len 1 begins) ((1 + begins) ∷ [])
    ∙ ap (λ (k : ℕ). made_at counted (fold (made_at counted) first (range_with_len 1 begins)) k) (omega arith)

pub made_none : (counted : List Counted) (bytes : ℕ) (changes : List (Option ChangeAt)) → changes ≡ replicate bytes None
    → made_now 1 changes ≡ made_up_to counted bytes 0
unfolding made_up_to
made_none counted bytes changes is = ap (made_now 1) is

module _ (counted : List Counted) (bytes begin next : ℕ) (changes : List (Option ChangeAt)) (low : 1 ≤ begin)
    (made : made_now next changes ≡ made_up_to counted bytes (begin - 1)) where
  step : made_up_to counted bytes (begin + 1 - 1) ≡ made_at counted (made_now next changes) begin
  step =
      let at : begin + 1 - 1 ≡ (begin - 1) + 1 = omega arith in
      let here : (begin - 1) + 1 ≡ begin = omega arith in
      ap (made_up_to counted bytes) at ∙ made_more counted bytes (begin - 1)
      ∙ ap (λ (m : Made). made_at counted m ((begin - 1) + 1)) (sym made)
      ∙ ap (made_at counted (made_now next changes)) here

  pub made_skipped : begin < next → made_now next changes ≡ made_up_to counted bytes (begin + 1 - 1)
  made_skipped less =
      sym (step ∙ ap (λ b. cond {A = Made} b (made_now next changes) (made_with (made_now next changes) begin (claim counted begin))) (lt-ltb begin next less))

  looked : next ≤ begin → made_with (made_now next changes) begin (claim counted begin) ≡ made_up_to counted bytes (begin + 1 - 1)
  looked le =
      sym (step ∙ ap (λ b. cond {A = Made} b (made_now next changes) (made_with (made_now next changes) begin (claim counted begin))) (le-ltb begin next le))

  pub made_unclaimed : next ≤ begin → None ≡ claim counted begin → made_now next changes ≡ made_up_to counted bytes (begin + 1 - 1)
  made_unclaimed le none = ap (made_with (made_now next changes) begin) none ∙ looked le

  pub made_claimed : next ≤ begin → (one : Claim) → Some one ≡ claim counted begin
      → made_now (begin + one.change.cut) (put one changes) ≡ made_up_to counted bytes (begin + 1 - 1)
  made_claimed le one some = ap (made_with (made_now next changes) begin) some ∙ looked le

pub same_made : {next last : ℕ} {new old : List (Option PlacedChange)} {made : Made} → next ≡ last → new ≡ old
    → made_now last (placed_all old) ≡ made → made_now next (placed_all new) ≡ made
same_made {next} {last} {new} {old} at is made_is =
    ap (λ (n : ℕ). made_now n (placed_all new)) at ∙ ap (λ (cs : List (Option PlacedChange)). made_now last (placed_all cs)) is ∙ made_is

pub same_put : {next last : ℕ} {new old : List (Option PlacedChange)} {changes : List (Option ChangeAt)} {made : Made} → next ≡ last → new ≡ old
    → placed_all old ≡ changes → made_now last changes ≡ made → made_now next (placed_all new) ≡ made
same_put {next} {last} {new} {old} at is put_at made_is =
    ap (λ (n : ℕ). made_now n (placed_all new)) at ∙ ap (λ (cs : List (Option PlacedChange)). made_now last (placed_all cs)) is
    ∙ ap (made_now last) put_at ∙ made_is

-- The places of regions lie in the frame.
pub within_from : (counted : List Counted) (given : List Offer) (cells : List Cell) → HasCells counted given cells → AreWithin cells
within_from counted given cells has = λ begin d next_level at is. (has begin d next_level).within at is

-- ---- Without changes none is made.

abbrev Plain : List Offer → Type 0
Plain [] = Unit {0}
Plain (o ∷ os) = (o.change ≡ None) × Plain os

plain_append : (xs ys : List Offer) → Plain xs → Plain ys → Plain (xs ++ ys)
plain_append [] ys px py = py
plain_append (x ∷ xs) ys px py = (px.0, plain_append xs ys px.1 py)

plain_numbers : (c : Counted) → c.change ≡ None → (ns : List ℕ) → Plain (map (offer_of c) ns)
plain_numbers c none [] = tt
plain_numbers c none (n ∷ ns) = (none, plain_numbers c none ns)

plain_offers : (counted : List Counted) → AllPlain counted → Plain (flat_map offers_of counted)
plain_offers [] plain = tt
plain_offers (c ∷ cs) plain =
    plain_append (offers_of c) (flat_map offers_of cs) (plain_numbers c plain.0 (range_with_len 0 (length c.digits))) (plain_offers cs plain.1)

plain_raisers : (seen given : List Offer) → Plain given → Plain (raisers seen given)
unfolding raisers
plain_raisers seen [] plain = tt
plain_raisers seen (o ∷ os) plain =
    let rest = plain_raisers (seen ++ o ∷ []) os plain.1 in
    elim (nat_lt (digit_at seen o.place) o.digit) as (λ b. Plain (cond {A = List Offer} b (o ∷ raisers (seen ++ o ∷ []) os) (raisers (seen ++ o ∷ []) os))) [
      | true ↦ (plain.0, rest)
      | false ↦ rest
    ]

plain_filter : (test : Offer → Bool) (xs : List Offer) → Plain xs → Plain (filter test xs)
plain_filter test [] plain = tt
plain_filter test (x ∷ xs) plain =
    let rest = plain_filter test xs plain.1 in
    elim (test x) as (λ b. Plain (cond {A = List Offer} b (x ∷ filter test xs) (filter test xs))) [ true ↦ (plain.0, rest) | false ↦ rest ]

none_reach : (begin : ℕ) (xs : List Offer) → Plain xs → filter (λ o. if_change (reaches begin o.place o.first) o.change) xs ≡ []
none_reach begin [] plain = refl
none_reach begin (x ∷ xs) plain =
    let test : Offer → Bool = λ o. if_change (reaches begin o.place o.first) o.change in
    ap (λ b. cond {A = List Offer} b (x ∷ filter test xs) (filter test xs)) (ap (if_change (reaches begin x.place x.first)) plain.0) ∙ none_reach begin xs plain.1

none_claimed : (counted : List Counted) → AllPlain counted → (begin : ℕ) → claim counted begin ≡ None
unfolding offers deciders
none_claimed counted plain begin =
    let given : List Offer = flat_map offers_of counted in
    let none = none_reach begin (deciders given) (plain_filter (λ o. is_odd o.digit) (raisers [] given) (plain_raisers [] given (plain_offers counted plain))) in
    ap (λ xs. option_and_then (claim_at counted given begin) (option_map (λ o. o.place) (last_or None xs))) none

pub none_made : (counted : List Counted) → AllPlain counted → (made : Made) (begins : List ℕ) → fold (made_at counted) made begins ≡ made
none_made counted plain made [] = refl
none_made counted plain made (b ∷ bs) =
    let same : made_at counted made b ≡ made =
    ap (λ o. cond {A = Made} (nat_lt b made.next) made (made_with made b o)) (none_claimed counted plain b)
    ∙ (elim (nat_lt b made.next) as (λ v. cond {A = Made} v made made ≡ made) [ true ↦ refl | false ↦ refl ]) in
    ap (λ m. fold (made_at counted) m bs) same ∙ none_made counted plain made bs

-- A pattern that counts is one of the level's.
plain_pattern : (patterns : TextMap (List Pattern)) → HasNoChanges patterns → (frame : List ℕ) (end start : ℕ) (key : List ℕ) (p : Option Pattern)
    → pattern_at patterns key ≡ p → (cs : List Counted) → AllPlain cs → AllPlain (cons_option (option_map (counted_from frame end start) p) cs)
plain_pattern patterns plain_words frame end start key None is cs plain = plain
plain_pattern patterns plain_words frame end start key (Some p) is cs plain = (plain_words key p is, plain)

plain_at : (patterns : TextMap (List Pattern)) → HasNoChanges patterns → (frame : List ℕ) (end : ℕ) (start : Option ℕ) (cs : List Counted) → AllPlain cs
    → AllPlain (cons_option (option_and_then (counted_if_key patterns frame end) start) cs)
plain_at patterns plain_words frame end None cs plain = plain
plain_at patterns plain_words frame end (Some start) cs plain =
    plain_pattern patterns plain_words frame end start (slice_range frame start end) (pattern_at patterns (slice_range frame start end)) refl cs plain

plain_counted : (patterns : TextMap (List Pattern)) → HasNoChanges patterns → (frame ends : List ℕ) → AllPlain (filter_map (counted_at patterns frame) ends)
plain_counted patterns plain_words frame [] = tt
plain_counted patterns plain_words frame (end ∷ ends) =
    plain_at patterns plain_words frame end (longest_start patterns frame end) (filter_map (counted_at patterns frame) ends) (plain_counted patterns plain_words frame ends)

pub no_changes : (patterns : TextMap (List Pattern)) → HasNoChanges patterns → (word : List ℕ) → changes_by patterns word ≡ replicate (length word) None
unfolding made_up_to counted_up_to
no_changes patterns plain_words word =
    ap (λ (m : Made). m.changes)
    (none_made (counted_in patterns (framed word)) (plain_counted patterns plain_words (framed word) (range_with_len 1 (length (framed word))))
    (made_now 1 (replicate (length word) None)) (range_with_len 1 (length word)))

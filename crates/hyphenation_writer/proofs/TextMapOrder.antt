-- A map into which texts are inserted is the finite map of their pairs.
use Rattle.std.proofs.Common.{◌≡◌, ℕ, suc, ◌+◌, ◌-◌, ◌<◌, List, [], ◌∷◌, length, drop, get_or, refl, sym, ap, ◌∙◌, Bor, arith, drop-cons, zero}
use Rattle.std.specs.Ordering.{nat_cmp, match_ordering}
use Rattle.std.specs.declared.cmp.Ordering.{Ordering}
use Rattle.std.specs.declared.cmp.Ordering.TheVariants.{Less, Equal, Greater}
use Rattle.std.specs.BTreeMap.{insert_entry}
use Rattle.std.specs.Cmp.Lexicographic.{slice_cmp, nat_list_cmp_total}
use Rattle.std.specs.FinMap.{put, entries-insert, len-entries, len-empty}
use Rattle.std.specs.FinMap.Entries.{by_order}
use Rattle.std.proofs.lemmas.List.{get_or_default, nil_from_length}
use Rattle.hyphenation_dictionary.specs.Parts.{pair_views}
use Rattle.hyphenation_writer.specs.Private.Ordered.{as_texts, in_byte_order}

put_shown : {X : Type 0} (k : Bor (List ℕ)) (v : Bor (List X)) (es : List (Bor (List ℕ) × Bor (List X)))
    → pair_views (insert_entry (λ a b. slice_cmp nat_cmp a.now b.now) es k v) ≡ put (slice_cmp nat_cmp) k.now v.now (pair_views es)
put_shown k v [] = refl
put_shown {X} k v (e ∷ es) = by (slice_cmp nat_cmp k.now e.0.now) (put_shown k v es)
  where
    by : (r : Ordering) → pair_views (insert_entry (λ a b. slice_cmp nat_cmp a.now b.now) es k v) ≡ put (slice_cmp nat_cmp) k.now v.now (pair_views es)
        → pair_views (match_ordering r ((k, v) ∷ e ∷ es) ((e.0, v) ∷ es) (e ∷ insert_entry (λ a b. slice_cmp nat_cmp a.now b.now) es k v))
        ≡ by_order r ((k.now, v.now) ∷ pair_views (e ∷ es)) ((e.0.now, v.now) ∷ pair_views es) ((e.0.now, e.1.now) ∷ put (slice_cmp nat_cmp) k.now v.now (pair_views es))
    by Less h = refl
    by Equal h = refl
    by Greater h = λ i. (e.0.now, e.1.now) ∷ h i

-- a pair more before those that were put in
pub put_before : {X : Type 0} (k : Bor (List ℕ)) (v : Bor (List X)) (found : List (Bor (List ℕ) × Bor (List X))) (rest : List (List ℕ × List X)) → pair_views found ≡ in_byte_order rest
    → pair_views (insert_entry (λ a b. slice_cmp nat_cmp a.now b.now) found k v) ≡ in_byte_order ((k.now, v.now) ∷ rest)
put_before {X} k v found rest h = put_shown k v found ∙ ap (put (slice_cmp nat_cmp) k.now v.now) h ∙ sym (entries-insert nat_list_cmp_total (as_texts rest) k.now v.now)

-- one pair more, from the back
pub put_step : {X : Type 0} (pairs found new : List (Bor (List ℕ) × Bor (List X))) (index : ℕ) (x y : Bor (List ℕ) × Bor (List X)) → index < length pairs
    → new ≡ insert_entry (λ a b. slice_cmp nat_cmp a.now b.now) found (get_or pairs (length pairs - 1 - index) x).0 (get_or pairs (length pairs - 1 - index) y).1
    → pair_views found ≡ in_byte_order (pair_views (drop (length pairs - index) pairs))
    → pair_views new ≡ in_byte_order (pair_views (drop (length pairs - (index + 1)) pairs))
put_step {X} pairs found new index x y lt e h =
    let m = length pairs - 1 - index in
    let z = get_or pairs (length pairs - 1 - index) x in
    ap pair_views e
    ∙ ap (λ (w : Bor (List ℕ) × Bor (List X)). pair_views (insert_entry (λ a b. slice_cmp nat_cmp a.now b.now) found z.0 w.1)) (get_or_default pairs m y x (inside (length pairs) index lt))
    ∙ put_before z.0 z.1 found (pair_views (drop (length pairs - index) pairs)) h
    ∙ ap (λ (n : ℕ). in_byte_order ((z.0.now, z.1.now) ∷ pair_views (drop n pairs))) (back (length pairs) index lt)
    ∙ ap (λ (ps : List (Bor (List ℕ) × Bor (List X))). in_byte_order (pair_views ps)) (sym (drop-cons pairs m x (inside (length pairs) index lt)))
    ∙ ap (λ (n : ℕ). in_byte_order (pair_views (drop n pairs))) (same_place (length pairs) index)
  where
    back : (n i : ℕ) → i < n → n - i ≡ suc (n - 1 - i)
    back n i h = omega arith

    inside : (n i : ℕ) → i < n → n - 1 - i < n
    inside n i h = omega arith

    same_place : (n i : ℕ) → n - 1 - i ≡ n - (i + 1)
    same_place n i = omega arith

drop_len : {X : Type 0} (xs : List X) (n : ℕ) → n ≡ length xs → drop n xs ≡ []
drop_len [] zero e = refl
drop_len [] (suc n) e = refl
drop_len (x ∷ xs) zero e = absurd (omega arith)
drop_len (x ∷ xs) (suc n) e = drop_len xs n (omega arith)

-- before the first pair is put in
pub put_none : {X : Type 0} (pairs found : List (Bor (List ℕ) × Bor (List X))) → found ≡ [] → pair_views found ≡ in_byte_order (pair_views (drop (length pairs - 0) pairs))
put_none {X} pairs found e =
    ap pair_views e
    ∙ sym (nil_from_length (in_byte_order {X = X} []) (sym (len-entries (as_texts {X = X} [])) ∙ len-empty (slice_cmp nat_cmp) (List X)))
    ∙ ap (λ (ps : List (Bor (List ℕ) × Bor (List X))). in_byte_order (pair_views ps)) (sym (drop_len pairs (length pairs - 0) (same (length pairs))))
  where
    same : (n : ℕ) → n - 0 ≡ n
    same n = omega arith

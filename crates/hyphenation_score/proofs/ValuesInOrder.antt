-- The values and the winners of all places of a word.
use Rattle.std.proofs.Common.{◌≡◌, ℕ, ◌+◌, ◌-◌, ◌<◌, List, length, map, Option, None, Some, Bor, Result, Ok, Err, subst, ap, sym, ◌∙◌, arith}
use Rattle.std.specs.Prelude.{IfOk, slice_get}
use Rattle.std.proofs.lemmas.Simd.{map-map}
use Rattle.std.proofs.lemmas.Option.{slice_get-get_or}
use Rattle.std.proofs.lemmas.List.FromFn.{length-map-range_with_len, get_or-map-range_with_len}
use Rattle.hyphenation_breaks.specs.Break.{Change}
use Rattle.hyphenation_breaks.specs.Dictionary.{Patterns}
use Rattle.hyphenation_score.specs.Scoring.{frame, places, bearers, value_at, winner_at, value_of, values, winners, Scored, score_of_winner, scored_pair, scores}
use Rattle.hyphenation_score.proofs.FirstGreatest.{value_of-first}

pub length-values : {C : Type 0} (keys : Patterns C) (word : List ℕ) → length (values keys word) ≡ length word - 1
length-values keys word = length-map-range_with_len (λ p. value_at keys word p) 1 (length word - 1)

pub length-winners : {C : Type 0} (keys : Patterns C) (word : List ℕ) → length (winners keys word) ≡ length word - 1
length-winners keys word = length-map-range_with_len (λ p. winner_at keys word p) 1 (length word - 1)

pub value_in_order : {C : Type 0} (keys : Patterns C) (word : List ℕ) (i : ℕ) → i + 1 < length word → slice_get (values keys word) i ≡ Some (value_at keys word (i + 1))
value_in_order keys word i lt =
    slice_get-get_or (values keys word) i 0 (omega (arith, length-values keys word))
    ∙ ap (λ x. Some x) (get_or-map-range_with_len (λ p. value_at keys word p) 1 (length word - 1) i (i + 1) 0 (omega arith) (omega arith))

pub winner_in_order : {C : Type 0} (keys : Patterns C) (word : List ℕ) (i : ℕ) → i + 1 < length word → slice_get (winners keys word) i ≡ Some (winner_at keys word (i + 1))
winner_in_order keys word i lt =
    slice_get-get_or (winners keys word) i None (omega (arith, length-winners keys word))
    ∙ ap (λ x. Some x) (get_or-map-range_with_len (λ p. winner_at keys word p) 1 (length word - 1) i (i + 1) None (omega arith) (omega arith))

pub value_of-winner : {C : Type 0} (keys : Patterns C) (word : List ℕ) (p : ℕ) → value_of (winner_at keys word p) ≡ value_at keys word p
value_of-winner keys word p = value_of-first (bearers keys (frame word) p)

-- the values are those of the winners
pub map-value_of : {C : Type 0} (keys : Patterns C) (word : List ℕ) → map value_of (winners keys word) ≡ values keys word
map-value_of keys word =
    let same : ◌≡◌ {A = ℕ → ℕ} (λ p. value_of (winner_at keys word p)) (λ p. value_at keys word p) = λ k p. value_of-winner keys word p k in
    map-map value_of (λ p. winner_at keys word p) (places word) ∙ ap (λ (f : ℕ → ℕ). map f (places word)) same

-- the values are those of the scores
pub values-of-scores : {C : Type 0} (change_of : C → Option Change) (keys : Patterns C) (word : List ℕ) (pairs : List (ℕ × Option (Bor Change))) → map scored_pair pairs ≡ scores change_of keys word → map (λ pair. pair.0) pairs ≡ values keys word
values-of-scores change_of keys word pairs e =
    sym (map-map (λ s. s.value) scored_pair pairs) ∙ ap (map (λ (s : Scored). s.value)) e ∙ map-map (λ s. s.value) (score_of_winner change_of) (winners keys word) ∙ map-value_of keys word

-- equal patterns have equal winners
pub winners_same : {C : Type 0} (keys other : Patterns C) (word : List ℕ) → ((text : List ℕ) → keys text ≡ other text) → winners keys word ≡ winners other word
winners_same {C} keys other word same =
    let path : ◌≡◌ {A = Patterns C} keys other = λ k text. same text k in
    ap (λ (ks : Patterns C). winners ks word) path

-- a result described by an equal list
pub ok_same : {X E L : Type 0} (r : Result X E) (f : X → L) (a b : L) → a ≡ b → IfOk r (λ v. f v ≡ a) → IfOk r (λ v. f v ≡ b)
ok_same r f a b e h = subst (λ x. IfOk r (λ v. f v ≡ x)) e h

pub ok_then : {X E : Type 0} (r : Result X E) (P Q : X → Type 0) → ((v : X) → P v → Q v) → IfOk r P → IfOk r Q
ok_then (Ok x) P Q h is = h x is
ok_then (Err e) P Q h is = tt

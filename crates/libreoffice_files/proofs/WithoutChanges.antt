-- The values of patterns at a place with their changes, and without them.
use Rattle.std.proofs.Common.{◌≡◌, ℕ, zero, suc, ◌+◌, ◌%◌, ◌<◌, ◌≤◌, List, [], ◌∷◌, length, get_or, map, Option, Some, None, refl, sym, ap, ◌∙◌, arith}
use Rattle.std.proofs.Common.{inl, inr}
use Rattle.std.specs.Prelude.{is_some, option_map, slice_range, if◌then◌else◌}
use Rattle.std.specs.List.{IsAmong}
use Rattle.std.specs.Option.{option_and_then}
use Rattle.std.proofs.lemmas.List.{length-map, get_or-map}
use Rattle.hyphenation_breaks.specs.Break.{Change}
use Rattle.hyphenation_breaks.specs.Dictionary.{Patterns}
use Rattle.hyphenation_breaks.specs.declared.entry.Entry.{Entry}
use Rattle.hyphenation_score.specs.Laws.{ValueIsGreatest, ValueIsBorne, WinnerIsFirst}
use Rattle.hyphenation_score.specs.Scoring.{frame, value_at, winner_at}
use Rattle.hyphenation_score.specs.Winners.{Bears}
use Rattle.libreoffice_files.specs.Changes.{to_even, entry_without_change, patterns_without_changes}
use Rattle.libreoffice_files.specs.Changes.{carried_entry, KindsKeep, NoBreakLosesItsChange}

-- ---- members of a mapped list

-- The image of an element is among the images.
mapped : {X Y : Type 0} (f : X → Y) (xs : List X) (x : X) → IsAmong xs x → IsAmong (map f xs) (f x)
mapped f xs x among =
    (among.0, (omega (arith, among.1.0, length-map xs f), ap f among.1.1 ∙ sym (get_or-map f xs among.0 x (f x) among.1.0)))

-- An element of the images, at this index, is the image of an element.
unmapped_at : {X Y : Type 0} (f : X → Y) (xs : List X) (y : Y) (i : ℕ) → i < length (map f xs) → y ≡ get_or (map f xs) i y
    → (x : X) × (IsAmong xs x) × (f x ≡ y)
unmapped_at f [] y i within is = absurd (omega arith)
unmapped_at f (x ∷ xs) y zero within is = (x, (0, (omega arith, refl)), sym is)
unmapped_at f (x ∷ xs) y (suc i) within is =
    let r = unmapped_at f xs y i (omega arith) is in
    (r.0, (suc r.1.0, (omega (arith, r.1.1.0), r.1.1.1)), r.2)

-- Each of the images is the image of an element.
unmapped : {X Y : Type 0} (f : X → Y) (xs : List X) (y : Y) → IsAmong (map f xs) y → (x : X) × (IsAmong xs x) × (f x ≡ y)
unmapped f xs y among = unmapped_at f xs y among.0 among.1.0 among.1.1

-- ---- an entry without its change

-- A value as it is kept, by whether there is a change.
abbrev kept : ℕ → Option Change → ℕ
kept value change = if is_some change then to_even value else value

-- A value is no greater than what is kept of it.
kept_more : (entry : Entry (Option Change)) → entry.value ≤ (entry_without_change entry).value
kept_more entry = elim (entry.change) as (λ o. entry.value ≤ kept entry.value o) [ None ↦ omega arith | Some change ↦ omega arith ]

-- An odd value that is kept is the value itself.
kept_odd : (entry : Entry (Option Change)) → (entry_without_change entry).value % 2 ≡ 1 → entry.value ≡ (entry_without_change entry).value
kept_odd entry = elim (entry.change) as (λ o. kept entry.value o % 2 ≡ 1 → entry.value ≡ kept entry.value o) [
  | None ↦ λ odd. refl
  | Some change ↦ λ odd. absurd (omega arith)
]

-- Where an odd value is kept as no more than itself, there is no change.
kept_plain : (entry : Entry (Option Change)) → entry.value % 2 ≡ 1 → (entry_without_change entry).value ≤ entry.value → entry.change ≡ None
kept_plain entry odd = elim (entry.change) as (λ o. kept entry.value o ≤ entry.value → o ≡ None) [
  | None ↦ λ most. refl
  | Some change ↦ λ most. absurd (omega arith)
]

-- An entry as each kind keeps it, by its change.
keeps : (place value : ℕ) (change : Option Change)
    → (carried_entry (λ (c : Unit {0}). None) (λ c. tt) (record { place = place; value = value; change = change }) ≡ entry_without_change (record { place = place; value = value; change = change }))
    × (carried_entry (λ (c : Option Change). c) (λ c. c) (record { place = place; value = value; change = change }) ≡ record { place = place; value = value; change = change })
keeps place value None = (refl, refl)
keeps place value (Some change) = (refl, refl)

pub kinds_keep : KindsKeep
kinds_keep entry = keeps entry.place entry.value entry.change

-- ---- keys without their changes

-- Where an entry bears, it bears without its change.
bears_without : (keys : Patterns (Option Change)) (word : List ℕ) (p start end : ℕ) (entry : Entry (Option Change))
    → Bears keys word p start end entry → Bears (patterns_without_changes keys) word p start end (entry_without_change entry)
bears_without keys word p start end entry bears = record {
  not_empty = bears.not_empty;
  within = bears.within;
  entries = map entry_without_change bears.entries;
  key = ap (option_map (λ entries. map entry_without_change entries)) bears.key;
  among = mapped entry_without_change bears.entries entry bears.among;
  place = bears.place;
}

-- A text that is a key without changes is a key with them.
key_with : (keys : Patterns (Option Change)) (text : List ℕ) (entries : List (Entry (Unit {0}))) → patterns_without_changes keys text ≡ Some entries
    → (with : List (Entry (Option Change))) × (keys text ≡ Some with) × (map entry_without_change with ≡ entries)
key_with keys text entries =
    elim (keys text) as (λ o. option_map (λ es. map entry_without_change es) o ≡ Some entries
    → (with : List (Entry (Option Change))) × (o ≡ Some with) × (map entry_without_change with ≡ entries)) [
      | None ↦ λ is. absurd cc
      | Some with ↦ λ is. (with, refl, cc)
    ]

-- An entry that bears without a change is carried from one that bears with it.
bears_with : (keys : Patterns (Option Change)) (word : List ℕ) (p start end : ℕ) (carried : Entry (Unit {0}))
    → Bears (patterns_without_changes keys) word p start end carried
    → (entry : Entry (Option Change)) × (Bears keys word p start end entry) × (entry_without_change entry ≡ carried)
bears_with keys word p start end carried bears =
    let k = key_with keys (slice_range (frame word) start end) bears.entries bears.key in
    let among : IsAmong (map entry_without_change k.0) carried = rw k.2 bears.among in
    let u = unmapped entry_without_change k.0 carried among in
    let place : start + u.0.place ≡ p + 1 = ap (λ e. start + e.place) u.2 ∙ bears.place in
    (u.0, record { not_empty = bears.not_empty; within = bears.within; entries = k.0; key = k.1; among = u.1; place = place }, u.2)

-- ---- places without their changes

module _ (greatest : ValueIsGreatest (Option Change)) (borne : ValueIsBorne (Option Change)) (first : WinnerIsFirst (Option Change))
    (greatest_without : ValueIsGreatest (Unit {0})) (borne_without : ValueIsBorne (Unit {0})) where
  -- A place's value is no greater with changes than without them.
  value_most : (keys : Patterns (Option Change)) (word : List ℕ) (p : ℕ) → value_at keys word p ≤ value_at (patterns_without_changes keys) word p
  value_most keys word p = elim (borne keys word p) [
    | inl nil ↦ omega arith
    | inr b ↦
        let bears = bears_without keys word p b.0 b.1 b.2 b.3 in
        let most = greatest_without (patterns_without_changes keys) word p b.0 b.1 (entry_without_change b.2) bears in
        omega (arith, most, kept_more b.2, b.4)
  ]

  -- Where it is odd without them, it is no less with them.
  value_least : (keys : Patterns (Option Change)) (word : List ℕ) (p : ℕ) → value_at (patterns_without_changes keys) word p % 2 ≡ 1
      → value_at (patterns_without_changes keys) word p ≤ value_at keys word p
  value_least keys word p odd = elim (borne_without (patterns_without_changes keys) word p) [
    | inl nil ↦ omega arith
    | inr b ↦
        let w = bears_with keys word p b.0 b.1 b.2 b.3 in
        let value : (entry_without_change w.0).value ≡ value_at (patterns_without_changes keys) word p = ap (λ e. e.value) w.2 ∙ b.4 in
        let same = kept_odd w.0 (ap (λ (n : ℕ). n % 2) value ∙ odd) in
        omega (arith, greatest keys word p b.0 b.1 w.0 w.1, same, value)
  ]

  -- So it is the same then.
  value_same : (keys : Patterns (Option Change)) (word : List ℕ) (p : ℕ) → value_at (patterns_without_changes keys) word p % 2 ≡ 1
      → value_at keys word p ≡ value_at (patterns_without_changes keys) word p
  value_same keys word p odd = omega (arith, value_most keys word p, value_least keys word p odd)

  -- And what wins there has no change.
  winner_plain : (keys : Patterns (Option Change)) (word : List ℕ) (p : ℕ) → value_at (patterns_without_changes keys) word p % 2 ≡ 1
      → (w : Entry (Option Change)) → winner_at keys word p ≡ Some w → w.change ≡ None
  winner_plain keys word p odd w is =
      let f = first keys word p w is in
      let value : w.value ≡ value_at (patterns_without_changes keys) word p = f.3 ∙ value_same keys word p odd in
      let bears = bears_without keys word p f.0 f.1 w f.2.bears in
      let most = greatest_without (patterns_without_changes keys) word p f.0 f.1 (entry_without_change w) bears in
      kept_plain w (ap (λ (n : ℕ). n % 2) value ∙ odd) (omega (arith, most, value))

  pub no_break_loses : NoBreakLosesItsChange
  no_break_loses keys word p odd = (
    value_same keys word p odd,
    elim (winner_at keys word p) as (λ o. winner_at keys word p ≡ o → option_and_then (λ (entry : Entry (Option Change)). entry.change) o ≡ None) [
      | None ↦ λ is. refl
      | Some w ↦ λ is. winner_plain keys word p odd w is
    ] refl,
  )

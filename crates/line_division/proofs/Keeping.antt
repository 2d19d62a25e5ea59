-- Keeping the lines that are best to begin at a place.
use Rattle.std.proofs.Common.{◌≡◌, ℕ, zero, suc, ◌+◌, ◌-◌, ◌<◌, ◌≤◌, Option, List, [], ◌∷◌, ◌++◌, length, drop, length-append, slice_index_or, sym, ap, ap₂, subst, refl, replicate, ◌∙◌, arith, inl, inr}
use Rattle.std.proofs.lemmas.List.{drop-append-le}
use Rattle.line_division.specs.declared.stretch.Stretch.{Stretch}
use Rattle.line_division.specs.declared.table.Choice.{Choice}
use Rattle.line_division.specs.declared.table.Kept.{Kept}
use Rattle.line_division.specs.declared.table.Choices.{Choices}
use Rattle.line_division.specs.Private.Best.{runs, IsLeast, IsSmall, IsMade, IsKnown, AreBest}
use Rattle.line_division.specs.Private.Table.{no_first, no_faults, first_with, first_at, kept_for, HasRun, AreShorter, row_at, IsOpen}
use Rattle.line_division.proofs.Least.{best_before}
use Rattle.line_division.proofs.Rows.{kept_first, kept_end, has_end, shorter_end, kept_added, has_added, drop_whole}

-- A choice as it is kept.
abbrev pub kept_of : Choice → ℕ → Kept
kept_of choice upto = record { cost = choice.cost; end = choice.end; last_run = upto }

-- There are no faults among none.
pub no_faults_at : (n e : ℕ) → slice_index_or (replicate n no_faults) e no_faults ≡ no_faults
no_faults_at zero e = refl
no_faults_at (suc n) zero = refl
no_faults_at (suc n) (suc e) = no_faults_at n e

-- The first lines are those of a table with the same ones.
pub first_alike : (choices new : Choices) (e : ℕ) → new.firsts ≡ choices.firsts → new.faults ≡ choices.faults → first_at new e ≡ first_at choices e
first_alike choices new e firsts faults = ap₂ (λ xs ys. first_with (slice_index_or xs.items e no_first) (slice_index_or ys.items e no_faults)) firsts faults

-- The first line of a place is kept.
pub first_kept : (stretches : List Stretch) (columns last_columns : ℕ) (ladder : Option ℕ) (choices new : Choices) (upto start : ℕ) (choice : Choice) → start < length stretches → upto < runs ladder
    → AreBest stretches columns last_columns ladder choices start 0
    → first_at new start ≡ kept_of choice upto → ((e : ℕ) → start < e → first_at new e ≡ first_at choices e)
    → length new.firsts.items ≡ length choices.firsts.items → length new.faults.items ≡ length choices.faults.items → new.others.items ≡ choices.others.items
    → length new.begins.items ≡ length choices.begins.items → ((e : ℕ) → start < e → slice_index_or new.begins.items e 0 ≡ slice_index_or choices.begins.items e 0)
    → IsLeast stretches columns last_columns ladder 0 start choice.cost
    → ((r : ℕ) → 0 ≤ r → r ≤ upto → IsMade stretches columns last_columns ladder choices r start choice) → IsSmall choice.cost (length stretches - start)
    → AreBest stretches columns last_columns ladder new start (upto + 1)
first_kept stretches columns last_columns ladder choices new upto start choice lt within best read elsewhere firsts faults others many begins least made small =
    let kept = kept_of choice upto in
    let rest = drop (slice_index_or new.begins.items start 0) new.others.items in
    let later : (r e : ℕ) → IsKnown ladder start 0 r e → start < e = λ r e k. elim k.1 [ inl after ↦ after | inr here ↦ absurd (omega (arith, here.1)) ] in
    let row : (e : ℕ) → start < e → row_at new e ≡ row_at choices e = λ e after.
    ap (λ k. k ∷ drop (slice_index_or new.begins.items e 0) new.others.items) (elsewhere e after)
    ∙ ap (λ b. first_at choices e ∷ drop b new.others.items) (begins e after)
    ∙ ap (λ xs. first_at choices e ∷ drop (slice_index_or choices.begins.items e 0) xs) others in
    best_before stretches columns last_columns ladder choices new 0 upto start choice lt (omega arith) within best
    firsts faults many
    (λ r e k high. ap (λ xs. kept_for xs r) (row e (later r e k)))
    (λ r e k high. subst (λ xs. HasRun xs r) (sym (row e (later r e k))) (best.kept r e k high))
    (λ r low high. ap (λ k. kept_for (k ∷ rest) r) read ∙ kept_first kept rest r high)
    (λ r low high. inl (subst (λ k. r ≤ k.last_run) (sym read) high))
    least made small

-- No line after longer runs is kept for the place then.
pub first_open : (choices new : Choices) (upto start : ℕ) (choice : Choice)
    → first_at new start ≡ kept_of choice upto → new.others.items ≡ choices.others.items
    → slice_index_or new.begins.items start 0 ≡ length choices.others.items → IsOpen new (upto + 1) start
first_open choices new upto start choice read others begin =
    let whole : drop (slice_index_or new.begins.items start 0) new.others.items ≡ [] =
    ap (λ b. drop b new.others.items) begin ∙ ap (λ xs. drop (length choices.others.items) xs) others ∙ drop_whole choices.others.items in (
      (
        subst (λ k. k.last_run < upto + 1) (sym read) (omega arith),
        subst (λ xs. AreShorter xs (upto + 1)) (sym whole) tt,
      ),
      omega (arith, begin, ap length others),
    )

-- A line after longer runs is kept.
pub next_kept : (stretches : List Stretch) (columns last_columns : ℕ) (ladder : Option ℕ) (choices new : Choices) (run upto start : ℕ) (choice : Choice) → start < length stretches → run ≤ upto → upto < runs ladder
    → AreBest stretches columns last_columns ladder choices start run → IsOpen choices run start
    → new.firsts.items ≡ choices.firsts.items → new.faults.items ≡ choices.faults.items → new.others.items ≡ choices.others.items ++ kept_of choice upto ∷ [] → new.begins.items ≡ choices.begins.items
    → IsLeast stretches columns last_columns ladder run start choice.cost
    → ((r : ℕ) → run ≤ r → r ≤ upto → IsMade stretches columns last_columns ladder choices r start choice) → IsSmall choice.cost (length stretches - start)
    → AreBest stretches columns last_columns ladder new start (upto + 1) × IsOpen new (upto + 1) start
next_kept stretches columns last_columns ladder choices new run upto start choice lt order within best shorter firsts faults others begins least made small =
    let kept = kept_of choice upto in
    let all = choices.others.items in
    let first : ℕ → Kept = λ e. first_at choices e in
    let begin : ℕ → ℕ = λ e. slice_index_or choices.begins.items e 0 in
    let row : (e : ℕ) → row_at new e ≡ first e ∷ drop (begin e) (all ++ kept ∷ []) = λ e.
    ap (λ k. k ∷ drop (slice_index_or new.begins.items e 0) new.others.items)
    (ap₂ (λ xs ys. first_with (slice_index_or xs e no_first) (slice_index_or ys e no_faults)) firsts faults)
    ∙ ap (λ xs. first e ∷ drop (slice_index_or xs e 0) new.others.items) begins
    ∙ ap (λ xs. first e ∷ drop (begin e) xs) others in
    let here : row_at new start ≡ row_at choices start ++ kept ∷ [] = row start ∙ ap (λ xs. first start ∷ xs) (drop-append-le (begin start) all (kept ∷ []) shorter.1) in (
      best_before stretches columns last_columns ladder choices new run upto start choice lt order within best
          (ap length firsts) (ap length faults) (ap length begins)
          (λ r e k high. ap (λ xs. kept_for xs r) (row e) ∙ kept_added (first e) all (kept ∷ []) (begin e) r (best.kept r e k high))
          (λ r e k high. subst (λ xs. HasRun xs r) (sym (row e)) (has_added (first e) all (kept ∷ []) (begin e) r (best.kept r e k high)))
          (λ r low high. ap (λ xs. kept_for xs r) here ∙ kept_end (row_at choices start) kept run r shorter.0 low high)
          (λ r low high. subst (λ xs. HasRun xs r) (sym here) (has_end (row_at choices start) kept r high))
          least made small,
      (
        subst (λ xs. AreShorter xs (upto + 1)) (sym here) (shorter_end (row_at choices start) kept run (upto + 1) shorter.0 (omega (arith, order)) (omega arith)),
        omega (arith, shorter.1, ap (λ xs. slice_index_or xs start 0) begins, ap length others, length-append all (kept ∷ [])),
      ),
    )

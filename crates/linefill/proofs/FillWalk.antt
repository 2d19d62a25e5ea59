-- Passing all cuts in order fills the lines of the text.
use Rattle.std.proofs.Common.{◌≡◌, ℕ, ◌-◌, ◌<◌, ◌≤◌, ◌||◌, ◌==◌, true, false, cond, List, [], ◌∷◌, ◌++◌, length, refl, sym, ap, subst, ◌∙◌, arith, inl, inr, append_assoc, slice_index}
use Rattle.std.specs.List.{list_any}
use Rattle.std.specs.Str.{IsUtf8, IsCharBoundary}
use Rattle.std.proofs.lemmas.Bool.{cases_lt, cases_eq, cases_Bool, or_cases, or_left, or_right, eqb-true, eq-eqb, ne_eqb, cond-true, cond-false, or_from}
use Rattle.std.proofs.lemmas.List.{get_or_past}
use Rattle.std.proofs.lemmas.Str.{IsCharBoundary-end, IsCharBoundary-after_ascii}
use Rattle.linefill.specs.Cuts.{is_one_of, is_plain, is_cut, cuts_after}
use Rattle.linefill.specs.Lines.{line, fits, lines_to}
use Rattle.linefill.specs.Private.Filling.{FillState, state_after_cut, remaining_ends, all_lines}
use Rattle.linefill.proofs.CutPassing.{coming_skip, coming_ends, coming_first, none_fits}
use Rattle.linefill.proofs.CutRows.{row, row_to, row_next, row_is}
use Rattle.linefill.proofs.Widths.{wider}

index_within : (s : List ℕ) (i : ℕ) → 0 < slice_index s i → i < length s
index_within s i some = elim (cases_lt i (length s)) [ inl lt ↦ lt | inr past ↦ absurd (omega (arith, get_or_past s i 0 past)) ]

-- A text, and breaks on its character boundaries.
pub record IsSound (text breaks : List ℕ) : Type 0 where
  pub utf8 : IsUtf8 text
  pub boundary : (p : ℕ) → is_one_of p breaks ≡ true → IsCharBoundary text p

-- The start and the last cut are character boundaries, in this order.
pub record IsState (text : List ℕ) (s : FillState) : Type 0 where
  pub order : s.start ≤ s.end
  pub start : IsCharBoundary text s.start
  pub end : IsCharBoundary text s.end

pub passing_end : (text : List ℕ) (columns : ℕ) (s : FillState) (place : ℕ) → (state_after_cut text columns s place).end ≡ place
passing_end text columns s place =
    elim (fits text columns s.start place || s.start == s.end) as (λ b. (let r : FillState = cond b (record { start = s.start; end = place; done = s.done }) (record { start = s.end; end = place; done = s.done ++ line text s.start s.end ∷ [] }) in r.end) ≡ place) [ true ↦ refl | false ↦ refl ]

pub passing_state : (text : List ℕ) (columns : ℕ) (s : FillState) (place : ℕ) → IsState text s → s.end < place → IsCharBoundary text place → IsState text (state_after_cut text columns s place)
passing_state text columns s place is lt at =
    elim (fits text columns s.start place || s.start == s.end) as (λ b. IsState text (cond b (record { start = s.start; end = place; done = s.done }) (record { start = s.end; end = place; done = s.done ++ line text s.start s.end ∷ [] }))) [
      | true ↦ record { order = omega (arith, is.order); start = is.start; end = at }
      | false ↦ record { order = omega arith; start = is.end; end = at }
    ]

module _ (text : List ℕ) (columns : ℕ) (breaks : List ℕ) where
  pub end_is_cut : is_cut text breaks (length text) ≡ true
  end_is_cut = or_left (is_plain text (length text)) (is_one_of (length text) breaks) (or_right (slice_index text (length text - 1) == 32) (length text == length text) (eq-eqb (length text) (length text) refl))

  pub cut_boundary : (p : ℕ) → IsSound text breaks → 0 < p → is_cut text breaks p ≡ true → IsCharBoundary text p
  cut_boundary p sound some cut =
      elim (or_cases (is_plain text p) (is_one_of p breaks) cut) [
        | inl plain ↦ elim (or_cases (slice_index text (p - 1) == 32) (p == length text) plain) [
          | inl space ↦
              let byte : slice_index text (p - 1) ≡ 32 = eqb-true (slice_index text (p - 1)) 32 space in
              let within : p - 1 < length text = index_within text (p - 1) (omega (arith, byte)) in
              subst (IsCharBoundary text) (omega arith) (IsCharBoundary-after_ascii text (p - 1) sound.utf8 within (omega (arith, byte)))
          | inr last ↦ subst (IsCharBoundary text) (sym (eqb-true p (length text) last)) (IsCharBoundary-end text)
        ]
        | inr among ↦ sound.boundary p among
      ]

  -- A cut is passed, with no other one before it.
  pub passing_lines : (s : FillState) (place : ℕ) → IsSound text breaks → IsState text s → s.end < place → is_cut text breaks place ≡ true → ((p : ℕ) → s.end < p → p < place → is_cut text breaks p ≡ true → ⊥)
      → all_lines text columns breaks (state_after_cut text columns s place) ≡ all_lines text columns breaks s
  passing_lines s place sound is lt cut none =
      let test = is_cut text breaks in
      let n = length text in
      let at : IsCharBoundary text place = cut_boundary place sound (omega arith) cut in
      let cs = row test n place in
      let next : cuts_after text breaks s.end ≡ place ∷ cs = row_next test n s.end place lt at.0 cut none in
      let exact = row_is test n place at.0 end_is_cut in
      let line_fits = fits text columns in
      let before : all_lines text columns breaks s ≡ s.done ++ lines_to text s.start (remaining_ends line_fits s.start s.end (place ∷ cs)) = ap (λ xs. s.done ++ lines_to text s.start (remaining_ends line_fits s.start s.end xs)) next in
      elim (cases_Bool (line_fits s.start place)) [
        | inl f ↦
            let goes : (line_fits s.start place || s.start == s.end) ≡ true = or_left (line_fits s.start place) (s.start == s.end) f in
            ap (all_lines text columns breaks) (cond-true (line_fits s.start place || s.start == s.end) _ _ goes)
            ∙ ap (λ es. s.done ++ lines_to text s.start es) (sym (coming_skip line_fits s.start s.end place [] cs (omega (arith, is.order)) f)) ∙ sym before
        | inr f ↦ elim (cases_eq s.start s.end) [
          | inl same ↦
              let goes : (line_fits s.start place || s.start == s.end) ≡ true = or_right (line_fits s.start place) (s.start == s.end) (eq-eqb s.start s.end same) in
              ap (all_lines text columns breaks) (cond-true (line_fits s.start place || s.start == s.end) _ _ goes)
              ∙ ap (λ es. s.done ++ lines_to text s.start es) (sym (coming_first line_fits s.start place cs (omega arith)) ∙ ap (λ e. remaining_ends line_fits s.start e (place ∷ cs)) same) ∙ sym before
          | inr other ↦
              let goes : (line_fits s.start place || s.start == s.end) ≡ false = or_from (line_fits s.start place) (s.start == s.end) f (ne_eqb s.start s.end other) in
              let order = is.order in
              let less : s.start < s.end = omega arith in
              let wide : list_any (line_fits s.start) (place ∷ cs) ≡ false =
              none_fits line_fits test n s.start place cs exact
              (λ p after later fit. wider text columns s.start place p sound.utf8 (omega arith) after is.start at (cut_boundary p sound (omega arith) later) fit) f in
              ap (all_lines text columns breaks) (cond-false (line_fits s.start place || s.start == s.end) _ _ goes)
              ∙ append_assoc s.done (line text s.start s.end ∷ []) _
              ∙ ap (λ es. s.done ++ lines_to text s.start es) (sym (coming_ends line_fits s.start s.end place cs less lt wide)) ∙ sym before
        ]
      ]

  -- A cut at which the line fits is passed, whatever cuts are before it.
  pub skipping_lines : (s : FillState) (place : ℕ) → IsState text s → s.end < place → place ≤ length text → is_cut text breaks place ≡ true → fits text columns s.start place ≡ true
      → all_lines text columns breaks (record { start = s.start; end = place; done = s.done }) ≡ all_lines text columns breaks s
  skipping_lines s place is lt within cut f =
      let test = is_cut text breaks in
      let n = length text in
      sym (ap (λ xs. s.done ++ lines_to text s.start (remaining_ends (fits text columns) s.start s.end xs)) (row_to test n s.end place lt within cut)
      ∙ ap (λ es. s.done ++ lines_to text s.start es) (coming_skip (fits text columns) s.start s.end place _ (row test n place) (omega (arith, is.order)) f))

-- One more byte, one more row, and the end of the rows from a start.
use Rattle.std.proofs.Common.{◌≡◌, ℕ, ◌+◌, ◌-◌, ◌*◌, ◌<◌, ◌≤◌, List, [], ◌∷◌, ◌++◌, length, map, Some, None, sym, ap, subst, ◌∙◌, arith, inl, inr, slice_range, IsSome, IfOk, Result, Ok, Err, Contains}
use Rattle.std.specs.declared.vec.Vec.{Vec}
use Rattle.std.proofs.lemmas.Bool.{cases_lt}
use Rattle.std.proofs.lemmas.List.Elements.{All-nil, All-push, All-weaker, Contains-append_left, Contains-push}
use Rattle.std.proofs.lemmas.List.Quantifiers.{all_pairs_push}
use Rattle.hyphenation_breaks.specs.declared.entry.Entry.{Entry}
use Rattle.hyphenation_breaks.specs.Dictionary.{Patterns}
use Rattle.std.proofs.lemmas.List.{map_push}
use Rattle.explanations.specs.declared.pattern_rows.Row.{Row}
use Rattle.explanations.specs.Rows.{PatternRow, row_of, IsOccurrence, ComesBefore, AreAllOccurrences, LooksUpWithin}
use Rattle.explanations.specs.Private.Walking.{IsUpTo, AreOccurrencesUpTo}

-- Rows with the same start, bytes and entries are the same.
same_row : {C : Type 0} (row other : PatternRow C) → row.start ≡ other.start → row.bytes ≡ other.bytes → row.entries ≡ other.entries → row ≡ other
same_row {C} row other s b e =
    let P : ℕ → ℕ → List (Entry C) → PatternRow C = λ x y z. record { start = x; bytes = y; entries = z } in
    ap (λ x. P x row.bytes row.entries) s ∙ ap (λ y. P other.start y row.entries) b ∙ ap (λ z. P other.start other.bytes z) e

-- The entries of one text are the same.
same_entries : {C : Type 0} (keys : Patterns C) (text : List ℕ) (s e s' e' : ℕ) (es es' : List (Entry C)) → s ≡ s' → e ≡ e' → keys (slice_range text s e) ≡ Some es → keys (slice_range text s' e') ≡ Some es' → es ≡ es'
same_entries keys text s e s' e' es es' ss ee is is' =
    let moved : keys (slice_range text s e) ≡ keys (slice_range text s' e') = ap (λ x. keys (slice_range text x e)) ss ∙ ap (λ y. keys (slice_range text s' y)) ee in
    cc

module _ {C : Type 0} (keys : Patterns C) (text : List ℕ) where
  pub none_yet : AreOccurrencesUpTo keys text 0 0 []
  none_yet = record {
    each = All-nil (IsOccurrence keys text);
    upto = All-nil (IsUpTo 0 0);
    all = λ row is upto. absurd (elim upto [
      | inl h ↦ omega arith
      | inr h ↦ omega (arith, h.1, is.not_empty)
    ]);
    in_order = λ i j d lt within. absurd (omega arith);
  }

  -- The text up to the next byte is no key.
  pub no_row : (start end : ℕ) (rows : List (PatternRow C)) → AreOccurrencesUpTo keys text start end rows → keys (slice_range text start (end + 1)) ≡ None
      → AreOccurrencesUpTo keys text start (end + 1) rows
  no_row start end rows h none = record {
    each = h.each;
    upto = All-weaker (IsUpTo start end) (IsUpTo start (end + 1)) (λ row u. elim u [
      | inl lt ↦ inl lt
      | inr at ↦ inr (at.0, omega (arith, at.1))
    ]) rows h.upto;
    all = λ row is upto. elim upto [
      | inl lt ↦ h.all row is (inl lt)
      | inr at ↦ elim (cases_lt end (row.start + row.bytes)) [
        | inl more ↦ let ends : row.start + row.bytes ≡ end + 1 = omega (arith, at.1) in
            let key : keys (slice_range text start (end + 1)) ≡ Some row.entries = ap (λ x. keys (slice_range text x (end + 1))) (sym at.0) ∙ ap (λ y. keys (slice_range text row.start y)) (sym ends) ∙ is.key in
            absurd cc
        | inr le ↦ h.all row is (inr (at.0, le))
      ]
    ];
    in_order = h.in_order;
  }

  -- The text up to the next byte is a key.
  pub one_row : (start end : ℕ) (rows : List (PatternRow C)) (new : PatternRow C) → AreOccurrencesUpTo keys text start end rows → IsOccurrence keys text new
      → new.start ≡ start → new.start + new.bytes ≡ end + 1 → AreOccurrencesUpTo keys text start (end + 1) (rows ++ new ∷ [])
  one_row start end rows new h occurs at_start at_end = record {
    each = All-push (IsOccurrence keys text) rows new h.each occurs;
    upto = All-push (IsUpTo start (end + 1)) rows new
        (All-weaker (IsUpTo start end) (IsUpTo start (end + 1)) (λ row u. elim u [
          | inl lt ↦ inl lt
          | inr at ↦ inr (at.0, omega (arith, at.1))
        ]) rows h.upto)
        (inr (at_start, omega (arith, at_end)));
    all = λ row is upto. elim upto [
      | inl lt ↦ Contains-append_left rows (new ∷ []) row (h.all row is (inl lt))
      | inr at ↦ elim (cases_lt end (row.start + row.bytes)) [
        | inl more ↦ let starts : row.start ≡ new.start = at.0 ∙ sym at_start in
            let ends : row.start + row.bytes ≡ new.start + new.bytes = omega (arith, at.1) in
            let bytes : row.bytes ≡ new.bytes = omega arith in
            let entries = same_entries keys text row.start (row.start + row.bytes) new.start (new.start + new.bytes) row.entries new.entries starts ends is.key occurs.key in
            subst (λ x. Contains (rows ++ new ∷ []) x) (sym (same_row row new starts bytes entries)) (Contains-push rows new)
        | inr le ↦ Contains-append_left rows (new ∷ []) row (h.all row is (inr (at.0, le)))
      ]
    ];
    in_order = all_pairs_push ComesBefore rows new h.in_order (λ k d lt. elim (h.upto k d lt) [
      | inl less ↦ inl (omega arith)
      | inr at ↦ inr (at.0 ∙ sym at_start, omega (arith, at.0, at.1))
    ]);
  }

  -- No text from the start to a later end is a key.
  pub start_done : (start end : ℕ) (rows : List (PatternRow C)) → AreOccurrencesUpTo keys text start end rows
      → ((later : ℕ) → end < later → later ≤ length text → keys (slice_range text start later) ≡ None) → AreOccurrencesUpTo keys text (start + 1) (start + 1) rows
  start_done start end rows h none = record {
    each = h.each;
    upto = All-weaker (IsUpTo start end) (IsUpTo (start + 1) (start + 1)) (λ row u. elim u [
      | inl lt ↦ inl (omega arith)
      | inr at ↦ inl (omega (arith, at.0))
    ]) rows h.upto;
    all = λ row is upto. elim upto [
      | inl lt ↦ elim (cases_lt row.start start) [
        | inl less ↦ h.all row is (inl less)
        | inr le ↦ let same : row.start ≡ start = omega arith in
            elim (cases_lt end (row.start + row.bytes)) [
              | inl more ↦ let key : keys (slice_range text start (row.start + row.bytes)) ≡ Some row.entries = ap (λ x. keys (slice_range text x (row.start + row.bytes))) (sym same) ∙ is.key in
                  let not : keys (slice_range text start (row.start + row.bytes)) ≡ None = none (row.start + row.bytes) more is.within in
                  absurd cc
              | inr upto_end ↦ h.all row is (inr (same, upto_end))
            ]
      ]
      | inr at ↦ absurd (omega (arith, at.0, at.1, is.not_empty))
    ];
    in_order = h.in_order;
  }

  -- All starts are done.
  pub all_done : (rows : List (PatternRow C)) (start : ℕ) → length text ≤ start → AreOccurrencesUpTo keys text start start rows → AreAllOccurrences keys text rows
  all_done rows start past h = record {
    each = h.each;
    all = λ row is. h.all row is (inl (omega (arith, is.not_empty, is.within)));
    in_order = h.in_order;
  }

-- Patterns with the same entries have the same occurrences.
pub same_occurrences : {C : Type 0} (keys other : Patterns C) (text : List ℕ) (rows : List (PatternRow C)) → ((key : List ℕ) → keys key ≡ other key)
    → AreAllOccurrences other text rows → AreAllOccurrences keys text rows
same_occurrences keys other text rows same h = record {
  each = All-weaker (IsOccurrence other text) (IsOccurrence keys text) (λ row is. record { not_empty = is.not_empty; within = is.within; key = same (slice_range text row.start (row.start + row.bytes)) ∙ is.key }) rows h.each;
  all = λ row is. h.all row (record { not_empty = is.not_empty; within = is.within; key = sym (same (slice_range text row.start (row.start + row.bytes))) ∙ is.key });
  in_order = h.in_order;
}

-- A row is pushed for the text up to the next byte, which is a key.
pub pushed_row : {C : Type 0} (keys : Patterns C) (text : List ℕ) (start at : ℕ) (rows now : List (Row C)) (row : Row C) → now ≡ rows ++ row ∷ []
    → AreOccurrencesUpTo keys text start at (map row_of rows) → start ≤ at → at < length text → row.start ≡ start → row.bytes ≡ at - start + 1
    → keys (slice_range text start (at + 1)) ≡ Some row.entries.now → AreOccurrencesUpTo keys text start (at + 1) (map row_of now)
pushed_row {C} keys text start at rows now row push so_far begun within start_is bytes_is key =
    let end_is : row.start + row.bytes ≡ at + 1 = omega arith in
    let key_is : keys (slice_range text row.start (row.start + row.bytes)) ≡ Some row.entries.now = ap (λ x. keys (slice_range text x (row.start + row.bytes))) start_is ∙ ap (λ y. keys (slice_range text start y)) end_is ∙ key in
    let occurs : IsOccurrence keys text (row_of row) = record { not_empty = omega arith; within = omega arith; key = key_is } in
    subst (λ xs. AreOccurrencesUpTo keys text start (at + 1) xs) (sym (ap (map row_of) push ∙ map_push row_of rows row))
    (one_row keys text start at (map row_of rows) (row_of row) so_far occurs start_is end_is)

-- All occurrences by patterns and a text that are equal.
pub known_occurrences : {C X E : Type 0} (keys other : Patterns C) (text bytes : List ℕ) (r : Result (Vec (Row C) X) E) → ((key : List ℕ) → keys key ≡ other key) → bytes ≡ text
    → IfOk r (λ rows. AreAllOccurrences other bytes (map row_of rows.items)) → IfOk r (λ rows. AreAllOccurrences keys text (map row_of rows.items))
known_occurrences keys other text bytes (Ok rows) known is h =
    same_occurrences keys other text (map row_of rows.items) known (subst (λ t. AreAllOccurrences other t (map row_of rows.items)) is h)
known_occurrences keys other text bytes (Err e) known is h = tt

-- The look-ups by patterns and a text that are equal.
pub known_look_ups : {C : Type 0} (keys other : Patterns C) (bytes known_bytes old new : ℕ) → ((key : List ℕ) → keys key ≡ other key) → known_bytes ≡ bytes
    → LooksUpWithin other known_bytes old new → LooksUpWithin keys bytes old new
known_look_ups keys other bytes known_bytes old new known is h = λ longest none.
    subst (λ (n : ℕ). new ≤ old + n * (2 * longest + 2)) is (h longest (λ key some. none key (subst (λ o. IsSome o) (sym (known key)) some)))

-- Walks over characters of ASCII.

use Rattle.std.proofs.Common.{◌≡◌, ℕ, zero, suc, ◌+◌, ◌-◌, ◌<◌, ◌≤◌, Bool, true, false, nat_lt, ◌&&◌, ◌||◌, List, [], ◌∷◌, ◌++◌, length, take, drop, slice_index, slice_range, Some, IsUtf8, IsCharBoundary, encode_utf8, refl, sym, ap, ap₂, subst, ◌∙◌, append-nil, arith, inl, inr}
use mathlib.Core.Bool.{false≢true}
use Rattle.std.proofs.lemmas.Bool.{cases_lt, cond_both, ltb-true, lt-ltb}
use Rattle.std.proofs.lemmas.List.{drop_more, drop_all}
use Rattle.std.proofs.lemmas.Str.{chars-nil, encode_ascii, IsCharBoundary-after_ascii, IsCharBoundary-end}
use Rattle.std.specs.Str.{chars}
use Rattle.ucd_breaks.specs.WordBreak.{word_break}
use Rattle.unicode_segmentation.specs.Segments.{chars_before, chars_from, breaks_at}
use Rattle.unicode_segmentation.specs.Steps.{IsCharAt}
use Rattle.unicode_segmentation.specs.Word.{is_ah_letter, is_numeric, significant, starts_with_half_flag, value_at, is_word_break}
use Rattle.unicode_segmentation.proofs.SegmentsLemmas.{IsWalk, IsWalk-start, IsWalk-step, IsFirstEnd-at_break, IsFirstEnd-at_end}
use Rattle.unicode_segmentation.proofs.TextLemmas.{IsCharAt-first}
use Rattle.unicode_segmentation.proofs.WordLemmas.{significant-kept}
use Rattle.word_pieces.specs.declared.kinds.ByteKind.{ByteKind}
use Rattle.word_pieces.specs.declared.kinds.ByteKind.TheVariants.{Letter, Middle, Beyond}
use Rattle.word_pieces.specs.Private.Kinds.{kind_of_value, kind_of_byte, is_near, verdict, may_be_letter, letter_may_begin, may_join_letter, word_may_go_on, IsRun}
use Rattle.word_pieces.specs.Private.Walks.{IsPlainEnd}
use Rattle.word_pieces.proofs.Verdicts.{near-kept, no_flag, is_word_break-verdict, is_word_break-middle, verdict-near, near-may_not_join}

-- The first piece from `start` on reaches to `at` at least, and a character of ASCII ends there, of the kind `last`.
pub record IsPlainWalk (s : List ℕ) (start at : ℕ) (last : ByteKind) : Type 0 where
  pub walk : IsWalk is_word_break s start (length s) at
  pub char : ℕ
  pub before : List ℕ
  pub here : chars_before s at ≡ char ∷ before
  pub kind : kind_of_value (word_break char) ≡ last
  pub near : is_near last ≡ true

pub near_byte : (b : ℕ) → is_near (kind_of_byte b) ≡ true → (b < 128) × (kind_of_byte b ≡ kind_of_value (word_break b))
near_byte b =
    cond_both (nat_lt b 128) (kind_of_value (word_break b)) Beyond (λ k. is_near k ≡ true → (b < 128) × (k ≡ kind_of_value (word_break b)))
    (λ below near. (ltb-true b 128 below, refl)) (λ above near. absurd (false≢true near))

no_letter-near : (k : ByteKind) → may_be_letter k ≡ false → is_near k ≡ true
no_letter-near Beyond h = absurd (false≢true (sym h))
no_letter-near _ h = refl

module _ (s : List ℕ) (u : IsUtf8 s) where
  -- A byte of ASCII is a character.
  pub IsCharAt-near : (i : ℕ) → i < length s → IsCharBoundary s i → is_near (kind_of_byte (slice_index s i)) ≡ true → IsCharAt s i (slice_index s i) (i + 1)
  IsCharAt-near i inside start near =
      let c = slice_index s i in
      let below : c < 128 = (near_byte c near).0 in
      let one : i + 1 - i ≡ 1 = omega arith in
      let bytes : slice_range s i (i + 1) ≡ encode_utf8 c ++ [] =
      ap (λ n. take n (drop i s)) one ∙ ap (take 1) (drop_more s i 0 inside) ∙ sym (append-nil (encode_utf8 c) ∙ encode_ascii c below) in
      let next : i + 1 - 0 ≡ i + 1 = omega arith in
      subst (IsCharAt s i c) next (IsCharAt-first s u i (i + 1) c [] (omega arith) start (IsCharBoundary-after_ascii s i u inside below) bytes)

  walk-no_flag : (start at : ℕ) (last : ByteKind) → IsPlainWalk s start at last → starts_with_half_flag (significant (chars_before s at)) ≡ false
  walk-no_flag start at last w =
      ap (λ cs. starts_with_half_flag (significant cs)) w.here ∙ no_flag w.char w.before (ap is_near w.kind ∙ w.near)

  pub IsPlainWalk-start : (start : ℕ) → start < length s → IsCharBoundary s start → is_near (kind_of_byte (slice_index s start)) ≡ true
      → IsPlainWalk s start (start + 1) (kind_of_byte (slice_index s start))
  IsPlainWalk-start start inside boundary near =
      let h = IsCharAt-near start inside boundary near in
      record {
        walk = IsWalk-start is_word_break s u start (length s) (slice_index s start) (start + 1) h (omega arith) (IsCharBoundary-end s);
        char = slice_index s start;
        before = chars_before s start;
        here = h.before;
        kind = sym (near_byte (slice_index s start) near).1;
        near = near;
      }

  -- Whether there is a bound, from the kinds on its two sides.
  breaks_at-verdict : (start at : ℕ) (last : ByteKind) (answer : Bool) → IsPlainWalk s start at last → at < length s
      → verdict last (kind_of_byte (slice_index s at)) ≡ Some answer → breaks_at is_word_break s at ≡ answer
  breaks_at-verdict start at last answer w inside decided =
      let c = slice_index s at in
      let near = verdict-near last (kind_of_byte c) answer decided in
      let h = IsCharAt-near at inside w.walk.boundary near in
      ap₂ is_word_break w.here h.from
      ∙ is_word_break-verdict w.char c w.before (chars_from s (at + 1)) answer (ap is_near w.kind ∙ w.near)
      (ap₂ verdict w.kind (sym (near_byte c near).1) ∙ decided)

  pub IsPlainWalk-step : (start at : ℕ) (last : ByteKind) → IsPlainWalk s start at last → at < length s
      → verdict last (kind_of_byte (slice_index s at)) ≡ Some false → IsPlainWalk s start (at + 1) (kind_of_byte (slice_index s at))
  IsPlainWalk-step start at last w inside decided =
      let c = slice_index s at in
      let near = verdict-near last (kind_of_byte c) false decided in
      let h = IsCharAt-near at inside w.walk.boundary near in
      record {
        walk = IsWalk-step is_word_break s u start (length s) at c (at + 1) w.walk (breaks_at-verdict start at last false w inside decided) h (omega arith)
            (IsCharBoundary-end s);
        char = c;
        before = chars_before s at;
        here = h.before;
        kind = sym (near_byte c near).1;
        near = near;
      }

  pub IsPlainEnd-verdict : (start at : ℕ) (last : ByteKind) → IsPlainWalk s start at last → at < length s
      → verdict last (kind_of_byte (slice_index s at)) ≡ Some true → IsPlainEnd s start at
  IsPlainEnd-verdict start at last w inside decided = (
    IsFirstEnd-at_break is_word_break s u start (length s) at w.walk (breaks_at-verdict start at last true w inside decided),
    walk-no_flag start at last w,
  )

  pub IsPlainEnd-end : (start at : ℕ) (last : ByteKind) → IsPlainWalk s start at last → length s ≤ at → IsPlainEnd s start at
  IsPlainEnd-end start at last w ended = (IsFirstEnd-at_end is_word_break s u start (length s) at w.walk ended, walk-no_flag start at last w)

  -- A character at an offset where no letter may begin joins nothing before it.
  no_letter-from : (at : ℕ) → IsCharBoundary s at → letter_may_begin s at ≡ false
      → (is_ah_letter (value_at (significant (chars_from s at)) 0) || is_numeric (value_at (significant (chars_from s at)) 0)) ≡ false
  unfolding significant
  no_letter-from at boundary no_letter =
      elim (cases_lt at (length s)) [
        | inl inside ↦
            let c = slice_index s at in
            let none : may_be_letter (kind_of_byte c) ≡ false =
            sym (ap (λ b. b && may_be_letter (kind_of_byte c)) (lt-ltb at (length s) inside)) ∙ no_letter in
            let near = no_letter-near (kind_of_byte c) none in
            let kind = (near_byte c near).1 in
            let h = IsCharAt-near at inside boundary near in
            let first : value_at (significant (chars_from s at)) 0 ≡ word_break c =
            ap (λ cs. value_at (significant cs) 0) h.from
            ∙ ap (λ vs. value_at vs 0) (significant-kept c (chars_from s (at + 1)) (near-kept (word_break c) (sym (ap is_near kind) ∙ near))) in
            ap (λ v. is_ah_letter v || is_numeric v) first ∙ near-may_not_join (word_break c) (sym (ap may_be_letter kind) ∙ none)
        | inr ended ↦
            let none : chars_from s at ≡ [] = ap chars (drop_all at s ended) ∙ chars-nil in
            ap (λ cs. is_ah_letter (value_at (significant cs) 0) || is_numeric (value_at (significant cs) 0)) none
      ]

  pub IsPlainEnd-middle : (start at : ℕ) → IsPlainWalk s start at Letter → at < length s → kind_of_byte (slice_index s at) ≡ Middle
      → letter_may_begin s (at + 1) ≡ false → IsPlainEnd s start at
  IsPlainEnd-middle start at w inside middle no_letter =
      let c = slice_index s at in
      let near : is_near (kind_of_byte c) ≡ true = ap is_near middle in
      let h = IsCharAt-near at inside w.walk.boundary near in
      let broken : breaks_at is_word_break s at ≡ true =
      ap₂ is_word_break w.here h.from
      ∙ is_word_break-middle w.char c w.before (chars_from s (at + 1)) w.kind (sym (near_byte c near).1 ∙ middle)
      (no_letter-from (at + 1) h.end_boundary no_letter) in (
        IsFirstEnd-at_break is_word_break s u start (length s) at w.walk broken,
        walk-no_flag start at Letter w,
      )

  run : (n start at : ℕ) → IsPlainWalk s start at Letter → at + n ≤ length s
      → ((k : ℕ) → at ≤ k → k < at + n → kind_of_byte (slice_index s k) ≡ Letter) → IsPlainWalk s start (at + n) Letter
  run zero start at w le all = let same : at ≡ at + 0 = omega arith in subst (λ k. IsPlainWalk s start k Letter) same w
  run (suc n) start at w le all =
      let here = all at (omega arith) (omega arith) in
      let next : IsPlainWalk s start (at + 1) Letter =
      subst (IsPlainWalk s start (at + 1)) here (IsPlainWalk-step start at Letter w (omega arith) (ap (verdict Letter) here)) in
      let same : at + 1 + n ≡ at + suc n = omega arith in
      subst (λ k. IsPlainWalk s start k Letter) same (run n start (at + 1) next (omega arith) (λ k low high. all k (omega arith) (omega arith)))

  -- A walk from a letter, over a run.
  pub IsPlainWalk-run : (start to : ℕ) → start < length s → IsCharBoundary s start → kind_of_byte (slice_index s start) ≡ Letter
      → IsRun s (start + 1) to → IsPlainWalk s start to Letter
  IsPlainWalk-run start to inside boundary first letters =
      let low : start + 1 ≤ to = letters.0 in
      let high : to ≤ length s = letters.1 in
      let same : start + 1 + (to - (start + 1)) ≡ to = omega arith in
      let begun : IsPlainWalk s start (start + 1) Letter =
      subst (IsPlainWalk s start (start + 1)) first (IsPlainWalk-start start inside boundary (ap is_near first)) in
      subst (λ k. IsPlainWalk s start k Letter) same
      (run (to - (start + 1)) start (start + 1) begun (omega arith) (λ k lower upper. letters.2 k lower (omega arith)))

  IsPlainEnd-kind : (start at : ℕ) (kind : ByteKind) → IsPlainWalk s start at Letter → at < length s → kind_of_byte (slice_index s at) ≡ kind
      → may_join_letter kind (letter_may_begin s (at + 1)) ≡ false → IsPlainEnd s start at
  IsPlainEnd-kind start at Letter w inside here none = absurd (false≢true (sym none))
  IsPlainEnd-kind start at Beyond w inside here none = absurd (false≢true (sym none))
  IsPlainEnd-kind start at Middle w inside here none = IsPlainEnd-middle start at w inside here none
  IsPlainEnd-kind start at _ w inside here none = IsPlainEnd-verdict start at Letter w inside (ap (verdict Letter) here)

  -- A piece that begins with a letter ends after a run, if it can't go on there.
  pub IsPlainEnd-word : (start at : ℕ) → start < length s → IsCharBoundary s start → kind_of_byte (slice_index s start) ≡ Letter
      → IsRun s (start + 1) at → word_may_go_on s at ≡ false → IsPlainEnd s start at
  IsPlainEnd-word start at inside boundary first letters ended =
      let w = IsPlainWalk-run start at inside boundary first letters in
      let kind = kind_of_byte (slice_index s at) in
      elim (cases_lt at (length s)) [
        | inl more ↦
            IsPlainEnd-kind start at kind w more refl
            (sym (ap (λ b. b && may_join_letter kind (letter_may_begin s (at + 1))) (lt-ltb at (length s) more)) ∙ ended)
        | inr end ↦ IsPlainEnd-end start at Letter w end
      ]

-- A run, and one byte more.
pub IsRun-more : (s : List ℕ) (from at : ℕ) → IsRun s from at → at < length s → kind_of_byte (slice_index s at) ≡ Letter → IsRun s from (at + 1)
IsRun-more s from at letters inside here = (
  omega (arith, letters.0),
  omega arith,
  λ k low high.
      elim (cases_lt k at) [
        | inl lt ↦ letters.2 k low lt
        | inr ge ↦ let same : at ≡ k = omega arith in subst (λ i. kind_of_byte (slice_index s i) ≡ Letter) same here
      ],
)

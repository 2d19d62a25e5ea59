-- The equals signs of a written word, taken out.
use Rattle.std.proofs.Common.{◌≡◌, ◌≤◌, ◌<◌, ◌+◌, ◌∙◌, ℕ, zero, suc, Bool, true, false, if◌then◌else◌, List, [], ◌∷◌, ◌++◌, length, take, get_or, Option, None, Some, refl, sym, ap, subst, arith, add-one, append-nil}
use Rattle.std.specs.Prelude.{not, is_some, slice_index, slice_index_or}
use Rattle.std.specs.List.{list_any}
use Rattle.std.proofs.lemmas.List.{take_all, take_more}
use Rattle.std.proofs.lemmas.List.Elements.{filter-append}
use Rattle.std.proofs.lemmas.List.Folds.{list_any_at}
use Rattle.hyphenation_breaks.specs.Ascii.{equals_sign}
use Rattle.libhyphen_rule.specs.Laws.{MarksTakenOut, without_equals}
use Rattle.libhyphen_rule.specs.Minima.{has_equals, is_equals}
use Rattle.libhyphen_rule.specs.OneLevel.{ChangeAt, is_odd}
use Rattle.libhyphen_rule.specs.Words.{Writing, passed_over, with_copied, writing_at}
use Rattle.libhyphen_rule.proofs.WrittenWord.{copied_byte, even_copied, odd_copied}

pub no_change_at : (changes : List (Option ChangeAt)) (n : ℕ) → list_any is_some changes ≡ false
    → slice_index_or changes n None ≡ None
no_change_at [] n none = refl
no_change_at (None ∷ changes) zero none = refl
no_change_at (None ∷ changes) (suc n) none = no_change_at changes n none
no_change_at (Some change ∷ changes) n none = absurd (cc)

none_at : (p : ℕ → Bool) (xs : List ℕ) (n : ℕ) → n < length xs → list_any p xs ≡ false → p (get_or xs n 0) ≡ false
none_at p xs n within none =
    elim (p (get_or xs n 0)) as (λ b. p (get_or xs n 0) ≡ b → p (get_or xs n 0) ≡ false) [
      | true ↦ λ e. let some : list_any p xs ≡ true = list_any_at p xs n 0 within e in absurd (cc)
      | false ↦ λ e. e
    ] refl

-- A byte that is copied without a change, with or without an equals sign behind it.
one_more : (written : List ℕ) (byte digit n : ℕ) → is_equals byte ≡ false
    → (without_equals (with_copied written byte digit None n).written ≡ without_equals written ++ byte ∷ [])
    × ((with_copied written byte digit None n).next ≡ n + 1)
one_more written byte digit n plain =
    let kept : without_equals (written ++ byte ∷ []) ≡ without_equals written ++ byte ∷ []
    = filter-append (λ b. not (is_equals b)) written (byte ∷ [])
    ∙ ap (λ (b : Bool). without_equals written ++ (if not b then byte ∷ [] else [])) plain in
    elim (is_odd digit) as (λ odd. is_odd digit ≡ odd
    → (without_equals (with_copied written byte digit None n).written ≡ without_equals written ++ byte ∷ [])
    × ((with_copied written byte digit None n).next ≡ n + 1)) [
      | true ↦ λ e.
          let is = odd_copied written byte digit None n e in (
            ap (λ (s : Writing). without_equals s.written) is
                ∙ filter-append (λ b. not (is_equals b)) (written ++ byte ∷ []) (equals_sign ∷ [])
                ∙ append-nil (without_equals (written ++ byte ∷ [])) ∙ kept,
            ap (λ (s : Writing). s.next) is ∙ (let e : n + 1 + passed_over None ≡ n + 1 = omega arith in e),
          )
      | false ↦ λ e.
          let is = even_copied written byte digit None n e in
          (ap (λ (s : Writing). without_equals s.written) is ∙ kept, ap (λ (s : Writing). s.next) is)
    ] refl

abbrev TakenOut : List ℕ → List ℕ → List (Option ChangeAt) → ℕ → Type 0
TakenOut word digits changes n =
    (without_equals (writing_at word digits changes n).written ≡ take n word)
    × ((writing_at word digits changes n).next ≡ n)

taken_out_more : (word digits : List ℕ) (changes : List (Option ChangeAt)) (n : ℕ)
    → has_equals word ≡ false → list_any is_some changes ≡ false → n < length word
    → TakenOut word digits changes n → TakenOut word digits changes (n + 1)
taken_out_more word digits changes n plain none within known =
    let now = writing_at word digits changes n in
    let byte = slice_index word n in
    let near : now.next ≤ n = omega (arith, known.1) in
    let copied : writing_at word digits changes (n + 1) ≡ with_copied now.written byte (slice_index digits n) None n
    = copied_byte word digits changes n near
    ∙ ap (λ (change : Option ChangeAt). with_copied now.written byte (slice_index digits n) change n)
    (no_change_at changes n none) in
    let more = one_more now.written byte (slice_index digits n) n (none_at is_equals word n within plain) in (
      ap (λ (s : Writing). without_equals s.written) copied ∙ more.0 ∙ ap (λ (xs : List ℕ). xs ++ byte ∷ []) known.0
          ∙ sym (take_more word n 0 within),
      ap (λ (s : Writing). s.next) copied ∙ more.1,
    )

taken_out_to : (word digits : List ℕ) (changes : List (Option ChangeAt)) (n : ℕ)
    → has_equals word ≡ false → list_any is_some changes ≡ false → n ≤ length word
    → TakenOut word digits changes n
unfolding writing_at
taken_out_to word digits changes zero plain none within = (refl, refl)
taken_out_to word digits changes (suc n) plain none within =
    subst (TakenOut word digits changes) (add-one n)
    (taken_out_more word digits changes n plain none (omega arith)
    (taken_out_to word digits changes n plain none (omega arith)))

pub taken_out : MarksTakenOut
taken_out word digits changes plain none =
    (taken_out_to word digits changes (length word) plain none (omega arith)).0
    ∙ take_all (length word) word (omega arith)

-- A word while it is written, with one more byte.
use Rattle.std.proofs.Common.{◌≡◌, ◌≤◌, ◌<◌, ◌+◌, ◌∙◌, ℕ, Bool, true, false, if◌then◌else◌, List, [], ◌∷◌, ◌++◌, Option, None, ap}
use Rattle.std.specs.Prelude.{slice_index, slice_index_or}
use Rattle.std.proofs.lemmas.Bool.{lt-ltb, le-ltb}
use Rattle.libhyphen_rule.specs.OneLevel.{ChangeAt, is_odd}
use Rattle.libhyphen_rule.specs.Words.{passed_over, with_byte, with_copied, with_mark, writing_at}
use Rattle.libhyphen_rule.proofs.WordSteps.{fold_more}

pub writing_more : (word digits : List ℕ) (changes : List (Option ChangeAt)) (n : ℕ)
    → writing_at word digits changes (n + 1) ≡ with_byte word digits changes (writing_at word digits changes n) n
unfolding writing_at
writing_more word digits changes n = fold_more (with_byte word digits changes) (record { written = []; next = 0 }) n

-- A byte that is passed over.
pub passed_byte : (word digits : List ℕ) (changes : List (Option ChangeAt)) (n : ℕ)
    → n < (writing_at word digits changes n).next
    → writing_at word digits changes (n + 1) ≡ writing_at word digits changes n
passed_byte word digits changes n far =
    let now = writing_at word digits changes n in
    writing_more word digits changes n
    ∙ ap (λ (b : Bool). if b then now
    else with_copied now.written (slice_index word n) (slice_index digits n) (slice_index_or changes n None) n)
    (lt-ltb n now.next far)

-- A byte that is copied.
pub copied_byte : (word digits : List ℕ) (changes : List (Option ChangeAt)) (n : ℕ)
    → (writing_at word digits changes n).next ≤ n
    → writing_at word digits changes (n + 1)
    ≡ with_copied (writing_at word digits changes n).written (slice_index word n) (slice_index digits n)
    (slice_index_or changes n None) n
copied_byte word digits changes n near =
    let now = writing_at word digits changes n in
    writing_more word digits changes n
    ∙ ap (λ (b : Bool). if b then now
    else with_copied now.written (slice_index word n) (slice_index digits n) (slice_index_or changes n None) n)
    (le-ltb n now.next near)

pub odd_copied : (written : List ℕ) (byte digit : ℕ) (change : Option ChangeAt) (number : ℕ) → is_odd digit ≡ true
    → with_copied written byte digit change number
    ≡ record { written = with_mark (written ++ byte ∷ []) change; next = number + 1 + passed_over change }
odd_copied written byte digit change number odd =
    ap (λ (b : Bool).
    if b then record { written = with_mark (written ++ byte ∷ []) change; next = number + 1 + passed_over change }
    else record { written = written ++ byte ∷ []; next = number + 1 }) odd

pub even_copied : (written : List ℕ) (byte digit : ℕ) (change : Option ChangeAt) (number : ℕ) → is_odd digit ≡ false
    → with_copied written byte digit change number ≡ record { written = written ++ byte ∷ []; next = number + 1 }
even_copied written byte digit change number even =
    ap (λ (b : Bool).
    if b then record { written = with_mark (written ++ byte ∷ []) change; next = number + 1 + passed_over change }
    else record { written = written ++ byte ∷ []; next = number + 1 }) even

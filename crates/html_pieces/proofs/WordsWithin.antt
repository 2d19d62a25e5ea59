-- A word in bytes is looked for from the next byte on.
use Rattle.std.proofs.Common.{◌≡◌, ℕ, ◌+◌, ◌<◌, ◌||◌, false, List, length, drop, ap, sym, ◌∙◌, nat_eq, codes}
use Rattle.std.specs.List.{starts_with}
use Rattle.html_pieces.specs.Readings.{begins_with_word, mentions, has_odd_end}
use Rattle.html_pieces.proofs.Slices.{drop_more}

pub mention_on : (word bytes : List ℕ) (i : ℕ) → i < length bytes → begins_with_word word (drop i bytes) ≡ false → mentions word (drop (i + 1) bytes) ≡ mentions word (drop i bytes)
mention_on word bytes i lt e =
    let more = drop_more bytes i lt in
    sym (ap (mentions word) more ∙ ap (λ c. c || mentions word (drop (i + 1) bytes)) (ap (begins_with_word word) (sym more) ∙ e))

pub odd_end_on : (bytes : List ℕ) (i : ℕ) → i < length bytes → starts_with nat_eq (drop i bytes) (codes "--!>") ≡ false → has_odd_end (drop (i + 1) bytes) ≡ has_odd_end (drop i bytes)
odd_end_on bytes i lt e =
    let more = drop_more bytes i lt in
    sym (ap has_odd_end more ∙ ap (λ c. c || has_odd_end (drop (i + 1) bytes)) (ap (λ xs. starts_with nat_eq xs (codes "--!>")) (sym more) ∙ e))

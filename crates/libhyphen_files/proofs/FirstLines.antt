-- The first line of a text, by its size.
use Rattle.std.proofs.Common.{◌≡◌, ◌∙◌, sym, ap, refl, ◌==◌, ◌||◌, nat_le, ℕ, suc, zero, ◌+◌, ◌-◌, ◌<◌, Bool, length, true, false, cond, List, [], ◌∷◌, ◌++◌, take, drop, min, append_assoc, append-nil, arith, map, Bor, inl, inr}
use Rattle.std.specs.Prelude.{not}
use Rattle.std.specs.List.{position_or_len}
use Rattle.std.proofs.lemmas.Bool.{cases_lt, false_from_ne_true}
use Rattle.std.proofs.lemmas.List.{length-append, map-append, take_all}
use Rattle.std.proofs.lemmas.List.Sums.{position_or_len_is}
use Rattle.memchr.specs.Find.{Passes, Nowhere, NoneBefore, is_byte}
use Rattle.hyphenation_breaks.specs.Ascii.{line_feed}
use Rattle.libhyphen_files.specs.Lines.{lines_from, last_line, most_of_other}
use Rattle.libhyphen_files.specs.Private.Sizes.{is_feed, line_size}

ends_now : (line bs : List ℕ) (b room : ℕ) → (b == line_feed || nat_le room 1) ≡ true → lines_from line room (b ∷ bs) ≡ (line ++ b ∷ []) ∷ lines_from [] most_of_other bs
unfolding lines_from
ends_now line bs b room e = rw e refl

goes_on : (line bs : List ℕ) (b room : ℕ) → (b == line_feed || nat_le room 1) ≡ false → lines_from line room (b ∷ bs) ≡ lines_from (line ++ b ∷ []) (room - 1) bs
unfolding lines_from
goes_on line bs b room e = rw e refl

pub at_end : (line : List ℕ) (room : ℕ) → lines_from line room [] ≡ last_line line
unfolding lines_from
at_end line room = refl

one_line : (line : List ℕ) → 0 < length line → last_line line ≡ line ∷ []
one_line [] some = absurd (omega (arith, some))
one_line (b ∷ bs) some = refl

-- ---- The size of the first line, by its first byte.

at_feed : (b : ℕ) (bs : List ℕ) → is_feed b ≡ true → position_or_len is_feed (b ∷ bs) ≡ 0
at_feed b bs e = ap (λ t. cond (not t) (1 + position_or_len is_feed bs) 0) e

after_feed : (b : ℕ) (bs : List ℕ) → is_feed b ≡ false → position_or_len is_feed (b ∷ bs) ≡ 1 + position_or_len is_feed bs
after_feed b bs e = ap (λ t. cond (not t) (1 + position_or_len is_feed bs) 0) e

size_of_feed : (b : ℕ) (bs : List ℕ) (room : ℕ) → is_feed b ≡ true → line_size (suc room) (b ∷ bs) ≡ 1
size_of_feed b bs room e = omega (arith, at_feed b (take room bs) e)

size_of_last : (b : ℕ) (bs : List ℕ) (room : ℕ) → length (take room bs) ≡ 0 → line_size (suc room) (b ∷ bs) ≡ 1
size_of_last b bs room e = omega (arith, e)

size_of_more : (b : ℕ) (bs : List ℕ) (room : ℕ) → is_feed b ≡ false → line_size (suc room) (b ∷ bs) ≡ suc (line_size room bs)
size_of_more b bs room e = omega (arith, after_feed b (take room bs) e)

-- ---- The first line.

pub first_line : (line : List ℕ) (room : ℕ) (text : List ℕ) → 0 < room → 0 < length text
    → lines_from line room text ≡ (line ++ take (line_size room text) text) ∷ lines_from [] most_of_other (drop (line_size room text) text)
first_line line zero text r some = absurd (omega (arith, r))
first_line line (suc room) [] r some = absurd (omega (arith, some))
first_line line (suc room) (b ∷ bs) r some = by (is_feed b) refl room bs (first_line (line ++ b ∷ []) room bs)
  where
    big : (room : ℕ) → nat_le (suc (suc room)) 1 ≡ false
    big room = grind arith

    whole : (n : ℕ) (bs : List ℕ) → n ≡ 1 → (line ++ b ∷ []) ∷ lines_from [] most_of_other bs ≡ (line ++ take n (b ∷ bs)) ∷ lines_from [] most_of_other (drop n (b ∷ bs))
    whole n bs e = sym (ap (λ k. (line ++ take k (b ∷ bs)) ∷ lines_from [] most_of_other (drop k (b ∷ bs))) e)

    by : (t : Bool) → is_feed b ≡ t → (room : ℕ) (bs : List ℕ)
        → (0 < room → 0 < length bs → lines_from (line ++ b ∷ []) room bs ≡ ((line ++ b ∷ []) ++ take (line_size room bs) bs) ∷ lines_from [] most_of_other (drop (line_size room bs) bs))
        → lines_from line (suc room) (b ∷ bs) ≡ (line ++ take (line_size (suc room) (b ∷ bs)) (b ∷ bs)) ∷ lines_from [] most_of_other (drop (line_size (suc room) (b ∷ bs)) (b ∷ bs))
    by true e room bs rest = ends_now line bs b (suc room) (ap (λ t. t || nat_le (suc room) 1) e) ∙ whole _ bs (size_of_feed b bs room e)
    by false e zero bs rest = ends_now line bs b 1 (ap (λ t. t || true) e) ∙ whole _ bs (size_of_last b bs 0 refl)
    by false e (suc room) [] rest =
        goes_on line [] b (suc (suc room)) (ap (λ t. t || nat_le (suc (suc room)) 1) e ∙ big room) ∙ at_end (line ++ b ∷ []) _
        ∙ one_line (line ++ b ∷ []) (omega (arith, length-append line (b ∷ [])))
        ∙ ap (λ ls. (line ++ b ∷ []) ∷ ls) (sym (at_end [] most_of_other))
        ∙ whole _ [] (size_of_last b [] (suc room) refl)
    by false e (suc room) (x ∷ xs) rest =
        let less : suc (suc room) - 1 ≡ suc room = omega arith in
        goes_on line (x ∷ xs) b (suc (suc room)) (ap (λ t. t || nat_le (suc (suc room)) 1) e ∙ big room)
        ∙ ap (λ k. lines_from (line ++ b ∷ []) k (x ∷ xs)) less
        ∙ rest (omega arith) (omega arith)
        ∙ ap (λ ls. ls ∷ lines_from [] most_of_other (drop (line_size (suc room) (x ∷ xs)) (x ∷ xs))) (append_assoc line (b ∷ []) (take (line_size (suc room) (x ∷ xs)) (x ∷ xs)))
        ∙ sym (ap (λ k. (line ++ take k (b ∷ x ∷ xs)) ∷ lines_from [] most_of_other (drop k (b ∷ x ∷ xs))) (size_of_more b (x ∷ xs) (suc room) e))

-- ---- The size by the first line feed.

pub size_none : (window : List ℕ) → Nowhere (Passes (is_byte 10) window) 0 (length window) → min (position_or_len is_feed window + 1) (length window) ≡ length window
size_none window none =
    let at : position_or_len is_feed window ≡ length window =
    position_or_len_is is_feed window (length window) 0 (omega arith) (λ k lt. false_from_ne_true _ (none k (omega arith) lt)) (λ lt. absurd (omega (arith, lt))) in
    omega (arith, at)

pub size_some : (window : List ℕ) (k : ℕ) → NoneBefore (Passes (is_byte 10) window) 0 (length window) k → Passes (is_byte 10) window k → min (position_or_len is_feed window + 1) (length window) ≡ k + 1
size_some window k first here =
    let at : position_or_len is_feed window ≡ k =
    position_or_len_is is_feed window k 0 (omega (arith, first.high)) (λ j lt. false_from_ne_true _ (first.before j (omega arith) lt)) (λ lt. here) in
    omega (arith, at, first.high)

-- A text up to its room, or to its end.
pub window_is : (text : List ℕ) (room m : ℕ) → m ≡ min (length text) room → take m text ≡ take room text
window_is text room m is = elim (cases_lt room (length text)) [
  | inl less ↦
      let same : m ≡ room = omega (arith, is, less) in
      ap (λ k. take k text) same
  | inr over ↦ take_all m text (omega (arith, is, over)) ∙ sym (take_all room text over)
]

-- ---- One line after the other.

pub pushed : (lines : List (Bor (List ℕ))) (line : Bor (List ℕ)) (room size : ℕ) (rest whole : List (List ℕ)) (text : List ℕ)
    → 0 < room → 0 < length text → size ≡ line_size room text → line.now ≡ take size text
    → rest ≡ lines_from [] most_of_other (drop size text)
    → map (λ l. l.now) lines ++ lines_from [] room text ≡ whole
    → map (λ l. l.now) (lines ++ line ∷ []) ++ rest ≡ whole
pushed lines line room size rest whole text r some is here after before =
    let now : List (Bor (List ℕ)) → List (List ℕ) = map (λ l. l.now) in
    let first : lines_from [] room text ≡ take size text ∷ lines_from [] most_of_other (drop size text) =
    first_line [] room text r some ∙ sym (ap (λ k. take k text ∷ lines_from [] most_of_other (drop k text)) is) in
    ap (λ ls. ls ++ rest) (map-append (λ (l : Bor (List ℕ)). l.now) lines (line ∷ []))
    ∙ append_assoc (now lines) (line.now ∷ []) rest
    ∙ ap (λ l. now lines ++ (l ∷ rest)) here
    ∙ ap (λ ls. now lines ++ (take size text ∷ ls)) after
    ∙ ap (λ ls. now lines ++ ls) (sym first)
    ∙ before

pub all_read : (lines : List (List ℕ)) (room : ℕ) (text : List ℕ) (whole : List (List ℕ)) → length text ≡ 0 → lines ++ lines_from [] room text ≡ whole → lines ≡ whole
all_read lines room [] whole none is = sym (append-nil lines) ∙ ap (λ ls. lines ++ ls) (sym (at_end [] room)) ∙ is
all_read lines room (b ∷ bs) whole none is = absurd (omega (arith, none))

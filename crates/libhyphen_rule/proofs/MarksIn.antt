-- A written word, as the pieces of the word between its marks.
use Rattle.std.proofs.Common.{◌≡◌, ◌≤◌, ◌<◌, ◌+◌, ◌-◌, ◌∙◌, ℕ, zero, suc, max, true, false, List, [], ◌∷◌, ◌++◌, length, take, drop, Option, None, Some, refl, sym, ap, subst, arith, add-one, append-nil, append_assoc, length-append, length-drop, inl, inr}
use Rattle.std.specs.Prelude.{slice_index, slice_index_or, slice_range}
use Rattle.std.proofs.Math.Seq.{take-append-add}
use Rattle.std.proofs.lemmas.Bool.{cases_lt}
use Rattle.std.proofs.lemmas.List.{get_or-drop, length-take-le, take_all, take-take, take_more}
use Rattle.libhyphen_rule.specs.Laws.{Mark, AreApart, NoLetterIsLost, mark_at, mark_of, marks_in_first, with_marks}
use Rattle.libhyphen_rule.specs.OneLevel.{ChangeAt, is_odd}
use Rattle.libhyphen_rule.specs.Words.{Writing, passed_over, with_mark, without_last_bytes, writing_at}
use Rattle.libhyphen_rule.proofs.WordSteps.{kept_more, left_more}
use Rattle.libhyphen_rule.proofs.WrittenWord.{copied_byte, even_copied, odd_copied, passed_byte}

-- The word up to the end of the last region.
abbrev pieces : List ℕ → ℕ → List Mark → List ℕ
pieces word from [] = []
pieces word from (m ∷ ms) = slice_range word from (m.place - m.before) ++ m.text ++ pieces word (m.place + m.behind) ms

abbrev last_end : ℕ → List Mark → ℕ
last_end from [] = from
last_end from (m ∷ ms) = last_end (m.place + m.behind) ms

pieces_and_rest : (word : List ℕ) (from : ℕ) (ms : List Mark)
    → with_marks word from ms ≡ pieces word from ms ++ drop (last_end from ms) word
pieces_and_rest word from [] = refl
pieces_and_rest word from (m ∷ ms) =
    let first = slice_range word from (m.place - m.before) ++ m.text in
    ap (λ (xs : List ℕ). first ++ xs) (pieces_and_rest word (m.place + m.behind) ms)
    ∙ sym (append_assoc first (pieces word (m.place + m.behind) ms) (drop (last_end (m.place + m.behind) ms) word))

pieces_more : (word : List ℕ) (from : ℕ) (ms : List Mark) (m : Mark)
    → pieces word from (ms ++ m ∷ [])
    ≡ pieces word from ms ++ (slice_range word (last_end from ms) (m.place - m.before) ++ m.text)
pieces_more word from [] m = append-nil (slice_range word from (m.place - m.before) ++ m.text)
pieces_more word from (x ∷ xs) m =
    let first = slice_range word from (x.place - x.before) ++ x.text in
    ap (λ (ys : List ℕ). first ++ ys) (pieces_more word (x.place + x.behind) xs m)
    ∙ sym (append_assoc first (pieces word (x.place + x.behind) xs)
    (slice_range word (last_end (x.place + x.behind) xs) (m.place - m.before) ++ m.text))

end_more : (from : ℕ) (ms : List Mark) (m : Mark) → last_end from (ms ++ m ∷ []) ≡ m.place + m.behind
end_more from [] m = refl
end_more from (x ∷ xs) m = end_more (x.place + x.behind) xs m

apart_front : (from : ℕ) (ms : List Mark) (m : Mark) → AreApart from (ms ++ m ∷ [])
    → AreApart from ms × (last_end from ms < m.place) × (last_end from ms + m.before ≤ m.place)
apart_front from [] m apart = (tt, apart.0, apart.1)
apart_front from (x ∷ xs) m apart =
    let rest = apart_front (x.place + x.behind) xs m apart.2 in
    ((apart.0, apart.1, rest.0), rest.1, rest.2)

-- Ranges of a word.
empty_range : (word : List ℕ) (a e : ℕ) → e ≤ a → slice_range word a e ≡ []
empty_range word a e le =
    let none : e - a ≡ 0 = omega arith in ap (λ (k : ℕ). take k (drop a word)) none

range_one_more : (word : List ℕ) (a n : ℕ) → a ≤ n → n < length word
    → slice_range word a (n + 1) ≡ slice_range word a n ++ slice_index word n ∷ []
range_one_more word a n le lt =
    let within : n - a < length (drop a word) = omega (arith, length-drop a word) in
    let count : n + 1 - a ≡ n - a + 1 = omega arith in
    let place : a + (n - a) ≡ n = omega arith in
    ap (λ (k : ℕ). take k (drop a word)) count
    ∙ take_more (drop a word) (n - a) 0 within
    ∙ ap (λ (b : ℕ). slice_range word a n ++ b ∷ []) (get_or-drop a word (n - a) 0 ∙ ap (slice_index word) place)

-- The written text without some of its last bytes.
go_back : (word before : List ℕ) (a e k : ℕ) → a + k ≤ e → e ≤ length word
    → without_last_bytes k (before ++ slice_range word a e) ≡ before ++ slice_range word a (e - k)
go_back word before a e k le within =
    let last = slice_range word a e in
    let bytes : length last ≡ e - a = length-take-le (e - a) (drop a word) (omega (arith, length-drop a word)) in
    let count : length (before ++ last) - k ≡ length before + (e - k - a)
    = omega (arith, length-append before last, bytes) in
    ap (λ (n : ℕ). take n (before ++ last)) count
    ∙ take-append-add before last (e - k - a)
    ∙ ap (λ (xs : List ℕ). before ++ xs) (take-take (e - k - a) (e - a) (drop a word) (omega arith))

-- A word, written up to a byte.
abbrev IsWritten : List ℕ → Writing → List Mark → ℕ → Type 0
IsWritten word writing ms n =
    (writing.written ≡ pieces word 0 ms ++ slice_range word (last_end 0 ms) n) × (writing.next ≡ max n (last_end 0 ms))

-- A mark behind the last byte.
with_mark_text : (word : List ℕ) (ms : List Mark) (m : Mark)
    → last_end 0 ms + m.before ≤ m.place → m.place ≤ length word
    → without_last_bytes m.before (pieces word 0 ms ++ slice_range word (last_end 0 ms) m.place) ++ m.text
    ≡ pieces word 0 (ms ++ m ∷ []) ++ slice_range word (last_end 0 (ms ++ m ∷ [])) m.place
with_mark_text word ms m le within =
    let front = pieces word 0 ms in
    let last = slice_range word (last_end 0 ms) (m.place - m.before) in
    ap (λ (xs : List ℕ). xs ++ m.text) (go_back word front (last_end 0 ms) m.place m.before le within)
    ∙ append_assoc front last m.text
    ∙ sym (pieces_more word 0 ms m)
    ∙ sym (append-nil (pieces word 0 (ms ++ m ∷ [])))
    ∙ ap (λ (xs : List ℕ). pieces word 0 (ms ++ m ∷ []) ++ xs)
    (sym (empty_range word (last_end 0 (ms ++ m ∷ [])) m.place (omega (arith, end_more 0 ms m))))

pushed : (word : List ℕ) (ms : List Mark) (written : List ℕ) (n : ℕ) → n < length word → last_end 0 ms ≤ n
    → written ≡ pieces word 0 ms ++ slice_range word (last_end 0 ms) n
    → written ++ slice_index word n ∷ [] ≡ pieces word 0 ms ++ slice_range word (last_end 0 ms) (n + 1)
pushed word ms written n within near is =
    ap (λ (xs : List ℕ). xs ++ slice_index word n ∷ []) is
    ∙ append_assoc (pieces word 0 ms) (slice_range word (last_end 0 ms) n) (slice_index word n ∷ [])
    ∙ ap (λ (xs : List ℕ). pieces word 0 ms ++ xs) (sym (range_one_more word (last_end 0 ms) n near within))

odd_step : (word : List ℕ) (ms : List Mark) (written : List ℕ) (n : ℕ) (change : Option ChangeAt)
    → n < length word → last_end 0 ms ≤ n
    → last_end 0 ms + (mark_of n change).before ≤ (mark_of n change).place
    → written ≡ pieces word 0 ms ++ slice_range word (last_end 0 ms) n
    → IsWritten word
    (record { written = with_mark (written ++ slice_index word n ∷ []) change; next = n + 1 + passed_over change })
    (ms ++ mark_of n change ∷ []) (n + 1)
odd_step word ms written n None within near le is =
    let m = mark_of n None in
    let text = pieces word 0 ms ++ slice_range word (last_end 0 ms) (n + 1) in
    let e : last_end 0 (ms ++ m ∷ []) ≡ n + 1 + 0 = end_more 0 ms m in (
      ap (λ (xs : List ℕ). xs ++ m.text)
          (pushed word ms written n within near is ∙ sym (take_all (length text - 0) text (omega arith)))
          ∙ with_mark_text word ms m le (omega arith),
      omega (arith, e),
    )
odd_step word ms written n (Some change) within near le is =
    let m = mark_of n (Some change) in
    let e : last_end 0 (ms ++ m ∷ []) ≡ n + 1 + (change.cut - change.pos) = end_more 0 ms m in (
      ap (λ (xs : List ℕ). without_last_bytes change.pos xs ++ change.text) (pushed word ms written n within near is)
          ∙ with_mark_text word ms m le (omega arith),
      omega (arith, e),
    )

place_of : (n : ℕ) (change : Option ChangeAt) → (mark_of n change).place ≡ n + 1
place_of n None = refl
place_of n (Some change) = refl

-- One more byte with an odd digit.
odd_more : (word digits : List ℕ) (changes : List (Option ChangeAt)) (n : ℕ) → is_odd (slice_index digits n) ≡ true
    → n < length word → (ms : List Mark) → AreApart 0 (ms ++ mark_at changes n ∷ [])
    → IsWritten word (writing_at word digits changes n) ms n
    → IsWritten word (writing_at word digits changes (n + 1)) (ms ++ mark_at changes n ∷ []) (n + 1)
odd_more word digits changes n odd within ms apart known =
    let now = writing_at word digits changes n in
    let change = slice_index_or changes n None in
    let front = apart_front 0 ms (mark_at changes n) apart in
    let near : last_end 0 ms ≤ n = omega (arith, front.1, place_of n change) in
    let copied : writing_at word digits changes (n + 1)
    ≡ record { written = with_mark (now.written ++ slice_index word n ∷ []) change; next = n + 1 + passed_over change }
    = copied_byte word digits changes n (omega (arith, known.1))
    ∙ odd_copied now.written (slice_index word n) (slice_index digits n) change n odd in
    subst (λ (s : Writing). IsWritten word s (ms ++ mark_at changes n ∷ []) (n + 1)) (sym copied)
    (odd_step word ms now.written n change within near front.2 known.0)

-- One more byte with an even digit.
even_more : (word digits : List ℕ) (changes : List (Option ChangeAt)) (n : ℕ) → is_odd (slice_index digits n) ≡ false
    → n < length word → (ms : List Mark)
    → IsWritten word (writing_at word digits changes n) ms n
    → IsWritten word (writing_at word digits changes (n + 1)) ms (n + 1)
even_more word digits changes n even within ms known =
    let now = writing_at word digits changes n in
    let change = slice_index_or changes n None in
    elim (cases_lt n (last_end 0 ms)) [
      | inr near ↦
          let copied : writing_at word digits changes (n + 1)
          ≡ record { written = now.written ++ slice_index word n ∷ []; next = n + 1 }
          = copied_byte word digits changes n (omega (arith, known.1))
          ∙ even_copied now.written (slice_index word n) (slice_index digits n) change n even in (
            ap (λ (s : Writing). s.written) copied ∙ pushed word ms now.written n within near known.0,
            ap (λ (s : Writing). s.next) copied ∙ (let e : n + 1 ≡ max (n + 1) (last_end 0 ms) = omega arith in e),
          )
      | inl far ↦
          let passed : writing_at word digits changes (n + 1) ≡ now
          = passed_byte word digits changes n (omega (arith, known.1)) in (
            ap (λ (s : Writing). s.written) passed ∙ known.0
                ∙ ap (λ (xs : List ℕ). pieces word 0 ms ++ xs)
                (empty_range word (last_end 0 ms) n (omega arith)
                ∙ sym (empty_range word (last_end 0 ms) (n + 1) (omega arith))),
            ap (λ (s : Writing). s.next) passed ∙ known.1
                ∙ (let e : max n (last_end 0 ms) ≡ max (n + 1) (last_end 0 ms) = omega arith in e),
          )
    ]

written_more : (word digits : List ℕ) (changes : List (Option ChangeAt)) (n : ℕ) → n < length word
    → AreApart 0 (marks_in_first digits changes (n + 1))
    → (AreApart 0 (marks_in_first digits changes n)
    → IsWritten word (writing_at word digits changes n) (marks_in_first digits changes n) n)
    → IsWritten word (writing_at word digits changes (n + 1)) (marks_in_first digits changes (n + 1)) (n + 1)
written_more word digits changes n within apart before =
    let ms = marks_in_first digits changes n in
    let next = writing_at word digits changes (n + 1) in
    let all = marks_in_first digits changes (n + 1) in
    let P : List Mark → Type 0 = λ (marks : List Mark). IsWritten word next marks (n + 1) in
    let odd = λ (number : ℕ). is_odd (slice_index digits number) in
    elim (is_odd (slice_index digits n)) as (λ b. is_odd (slice_index digits n) ≡ b → P all) [
      | true ↦ λ e.
          let same : all ≡ ms ++ mark_at changes n ∷ [] = kept_more (mark_at changes) odd n e in
          let apart' : AreApart 0 (ms ++ mark_at changes n ∷ []) = subst (AreApart 0) same apart in
          let front = apart_front 0 ms (mark_at changes n) apart' in
          subst P (sym same) (odd_more word digits changes n e within ms apart' (before front.0))
      | false ↦ λ e.
          let same : all ≡ ms = left_more (mark_at changes) odd n e in
          subst P (sym same) (even_more word digits changes n e within ms (before (subst (AreApart 0) same apart)))
    ] refl

-- The first bytes.
written_to : (word digits : List ℕ) (changes : List (Option ChangeAt)) (n : ℕ) → n ≤ length word
    → AreApart 0 (marks_in_first digits changes n)
    → IsWritten word (writing_at word digits changes n) (marks_in_first digits changes n) n
unfolding writing_at
written_to word digits changes zero within apart = (refl, refl)
written_to word digits changes (suc n) within apart =
    subst (λ (k : ℕ). IsWritten word (writing_at word digits changes k) (marks_in_first digits changes k) k) (add-one n)
    (written_more word digits changes n (omega arith)
    (subst (λ (k : ℕ). AreApart 0 (marks_in_first digits changes k)) (sym (add-one n)) apart)
    (written_to word digits changes n (omega arith)))

pub no_letter_lost : NoLetterIsLost
no_letter_lost word digits changes apart =
    let ms = marks_in_first digits changes (length word) in
    let last = drop (last_end 0 ms) word in
    let rest : slice_range word (last_end 0 ms) (length word) ≡ last
    = take_all (length word - last_end 0 ms) last (omega (arith, length-drop (last_end 0 ms) word)) in
    (written_to word digits changes (length word) (omega arith) apart).0
    ∙ ap (λ (xs : List ℕ). pieces word 0 ms ++ xs) rest
    ∙ sym (pieces_and_rest word 0 ms)

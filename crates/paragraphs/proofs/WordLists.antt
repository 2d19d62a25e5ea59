-- Words of characters that stand beside one another.
use Rattle.std.proofs.Common.{◌≡◌, ℕ, ◌+◌, ◌-◌, ◌<◌, Bool, true, false, cond, List, [], ◌∷◌, ◌++◌, length, take, drop, lit<, chars, encode_utf8, sym, ap, ap₂, subst, refl, ◌∙◌, arith, append_assoc, append-nil, length-append}
use Rattle.std.specs.List.{list_all}
use Rattle.std.specs.Str.{IsUtf8}
use Rattle.std.proofs.lemmas.Bool.{and_parts, both_ways, not-true, not_from_false, ne_eqb}
use Rattle.std.proofs.lemmas.List.{nil_from_length, take-append-le, drop-append-le, take_all, drop_all}
use Rattle.std.proofs.lemmas.Str.{chars-append, chars-nil, chars_past_char, encode_ascii, IsUtf8-encode}
use Rattle.paragraphs.specs.Words.{is_gap, if_any, words_after, words}
use Rattle.paragraphs.specs.Private.Cuts.{begins_with, is_word_part, CutsWord}

-- A gap parts the words before it from those after it.
pub words_parted : (begun xs : List ℕ) (c : ℕ) (ys : List ℕ) → is_gap c ≡ true
    → words_after begun (xs ++ c ∷ ys) ≡ words_after begun xs ++ words_after [] ys
words_parted begun [] c ys gap = ap (λ t. cond t (if_any begun ++ words_after [] ys) (words_after (begun ++ encode_utf8 c) ys)) gap
words_parted begun (x ∷ xs) c ys gap =
    let on = words_after (begun ++ encode_utf8 x) in
    elim (is_gap x) as (λ t. cond t (if_any begun ++ words_after [] (xs ++ c ∷ ys)) (on (xs ++ c ∷ ys))
    ≡ cond t (if_any begun ++ words_after [] xs) (on xs) ++ words_after [] ys) [
      | true ↦ ap (λ s. if_any begun ++ s) (words_parted [] xs c ys gap) ∙ sym (append_assoc (if_any begun) (words_after [] xs) (words_after [] ys))
      | false ↦ words_parted (begun ++ encode_utf8 x) xs c ys gap
    ]

-- Gaps alone have no word.
pub gaps_no_word : (gaps : List ℕ) → list_all is_gap gaps ≡ true → words_after [] gaps ≡ []
gaps_no_word [] all = refl
gaps_no_word (c ∷ cs) all =
    let both = and_parts (is_gap c) (list_all is_gap cs) all in
    ap (λ t. cond t (if_any [] ++ words_after [] cs) (words_after ([] ++ encode_utf8 c) cs)) both.0 ∙ gaps_no_word cs both.1

pub feed : encode_utf8 10 ≡ 10 ∷ []
feed = encode_ascii 10 (lit< tt)

chars_feed : (rest : List ℕ) → chars (10 ∷ rest) ≡ 10 ∷ chars rest
chars_feed rest =
    let u : IsUtf8 (10 ∷ []) = subst IsUtf8 feed (IsUtf8-encode 10 refl) in
    let one : chars (10 ∷ []) ≡ 10 ∷ [] = chars_past_char (10 ∷ []) [] 10 u (sym (ap (λ s. s ++ []) feed)) ∙ ap (λ s. 10 ∷ s) chars-nil in
    chars-append (10 ∷ []) rest u ∙ ap (λ s. s ++ chars rest) one

-- A line feed parts the words of a line from those after it.
pub line_parted : (line rest : List ℕ) → IsUtf8 line → words (line ++ 10 ∷ rest) ≡ words line ++ words rest
line_parted line rest u =
    ap (words_after []) (chars-append line (10 ∷ rest) u ∙ ap (λ s. chars line ++ s) (chars_feed rest))
    ∙ words_parted [] (chars line) 10 (chars rest) refl

-- ---- the first word

pub gap_first : (text rest : List ℕ) (c : ℕ) → chars text ≡ c ∷ chars rest → is_gap c ≡ true → words rest ≡ words text
gap_first text rest c read gap =
    sym (ap (words_after []) read ∙ ap (λ t. cond t (if_any [] ++ words rest) (words_after ([] ++ encode_utf8 c) (chars rest))) gap)

pub begins_no_gap : (text rest : List ℕ) (c : ℕ) → chars text ≡ c ∷ chars rest → is_gap c ≡ false → begins_with is_word_part (chars text)
begins_no_gap text rest c read other = subst (begins_with is_word_part) (sym read) (not_from_false (is_gap c) other)

pub begins_gap : (text rest : List ℕ) (c : ℕ) → chars text ≡ c ∷ chars rest → is_gap c ≡ true → begins_with is_gap (chars text)
begins_gap text rest c read gap = subst (begins_with is_gap) (sym read) gap

pub begins_none : (test : ℕ → Bool) (text : List ℕ) → chars text ≡ [] → begins_with test (chars text)
begins_none test text none = subst (begins_with test) (sym none) tt

pub cut_none : (text : List ℕ) → CutsWord text text
cut_none text = record { word = []; parted = refl; words = λ begun. ap (λ w. words_after w (chars text)) (sym (append-nil begun)) }

pub cut_more : (text rest after : List ℕ) (c : ℕ) → CutsWord text rest → rest ≡ encode_utf8 c ++ after → chars rest ≡ c ∷ chars after → is_gap c ≡ false
    → CutsWord text after
cut_more text rest after c cut read first other = record {
  word = cut.word ++ encode_utf8 c;
  parted = cut.parted ∙ ap (λ s. cut.word ++ s) read ∙ sym (append_assoc cut.word (encode_utf8 c) after);
  words = λ begun.
      let word = begun ++ cut.word in
      cut.words begun ∙ ap (words_after word) first
      ∙ ap (λ t. cond t (if_any word ++ words after) (words_after (word ++ encode_utf8 c) (chars after))) other
      ∙ ap (λ w. words_after w (chars after)) (append_assoc begun cut.word (encode_utf8 c));
}

begins_both : (cs : List ℕ) → begins_with is_word_part cs → begins_with is_gap cs → cs ≡ []
begins_both [] part gap = refl
begins_both (c ∷ cs) part gap = absurd (both_ways (is_gap c) (not-true (is_gap c) part) gap)

pub some_any : (text : List ℕ) → 0 < length text → if_any text ≡ text ∷ []
some_any text some = ap (λ t. cond t [] (text ∷ [])) (ne_eqb (length text) 0 (λ e. omega (arith, some, e)))

-- A word that is open ends at a gap, and at the end.
open_ends : (word cs : List ℕ) → 0 < length word → begins_with is_gap cs → words_after word cs ≡ word ∷ words_after [] cs
open_ends [] cs some gap = absurd (omega (arith, some))
open_ends (b ∷ word) [] some gap = some_any (b ∷ word) some
open_ends (b ∷ word) (c ∷ cs) some gap =
    ap (λ t. cond t (if_any (b ∷ word) ++ words_after [] cs) (words_after ((b ∷ word) ++ encode_utf8 c) cs)) gap
    ∙ ap (λ s. s ++ words_after [] cs) (some_any (b ∷ word) some)
    ∙ ap (λ s. (b ∷ word) ∷ s) (sym (ap (λ t. cond t (if_any [] ++ words_after [] cs) (words_after ([] ++ encode_utf8 c) cs)) gap))

pub no_word : (text begun rest : List ℕ) → words begun ≡ words text → begins_with is_word_part (chars begun) → CutsWord begun rest → begins_with is_gap (chars rest)
    → length begun - length rest ≡ 0 → words text ≡ []
no_word text begun rest same part cut gap none =
    let parts : length begun ≡ length cut.word + length rest = ap length cut.parted ∙ length-append cut.word rest in
    let all : begun ≡ rest = cut.parted ∙ ap (λ w. w ++ rest) (nil_from_length cut.word (omega (arith, parts, none))) in
    sym same ∙ ap (words_after []) (begins_both (chars begun) part (subst (λ t. begins_with is_gap (chars t)) (sym all) gap))

front_of : (xs ys : List ℕ) → take (length xs) (xs ++ ys) ≡ xs
front_of xs ys = take-append-le (length xs) xs ys (omega arith) ∙ take_all (length xs) xs (omega arith)

back_of : (xs ys : List ℕ) → drop (length xs) (xs ++ ys) ≡ ys
back_of xs ys = drop-append-le (length xs) xs ys (omega arith) ∙ ap (λ s. s ++ ys) (drop_all (length xs) xs (omega arith))

pub one_word : (text begun rest : List ℕ) → words begun ≡ words text → CutsWord begun rest → begins_with is_gap (chars rest) → 0 < length begun - length rest
    → words text ≡ take (length begun - length rest) begun ∷ words (drop (length begun - length rest) begun)
one_word text begun rest same cut gap some =
    let parts : length begun ≡ length cut.word + length rest = ap length cut.parted ∙ length-append cut.word rest in
    let many : length begun - length rest ≡ length cut.word = omega (arith, parts) in
    let front : take (length begun - length rest) begun ≡ cut.word = ap₂ take many cut.parted ∙ front_of cut.word rest in
    let back : drop (length begun - length rest) begun ≡ rest = ap₂ drop many cut.parted ∙ back_of cut.word rest in
    sym same ∙ cut.words [] ∙ open_ends cut.word (chars rest) (omega (arith, many, some)) gap
    ∙ ap (λ w. w ∷ words rest) (sym front) ∙ ap (λ r. take (length begun - length rest) begun ∷ words r) (sym back)

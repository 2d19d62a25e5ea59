-- The first words of a text, where they are of printable ASCII.
use Rattle.std.proofs.Common.{◌≡◌, ℕ, suc, ◌+◌, ◌-◌, ◌<◌, ◌≤◌, ◌&&◌, Bool, true, false, cond, List, [], ◌∷◌, ◌++◌, length, get_or, drop, slice_range, chars, encode_utf8, inl, inr, sym, ap, subst, refl, ◌∙◌, arith, append_assoc, append-nil, length-drop}
use Rattle.std.specs.Char.{is_ascii_alphabetic}
use Rattle.std.specs.List.{list_all}
use Rattle.std.proofs.lemmas.Bool.{and_parts, ne_eqb, cases_lt}
use Rattle.std.proofs.lemmas.Bool.Decides.{nat_tests}
use Rattle.std.proofs.lemmas.List.{get_or-take, get_or-drop, length-take}
use Rattle.std.proofs.lemmas.List.Folds.{drop_split}
use Rattle.std.proofs.lemmas.Str.{chars-append, chars-nil, chars-IsAscii, encode_ascii, IsUtf8-from_ascii}
use Rattle.std.proofs.lemmas.Str.Ascii.{IsAscii-nil, IsAscii-cons}
use Rattle.paragraphs.specs.Private.Plain.{is_plain, is_ascii_gap, AreLetters, EachBetween, EndsAt, IsPlainWord}
use Rattle.paragraphs.specs.Private.Printable.{is_printable}
use Rattle.paragraphs.specs.Words.{is_gap, if_any, words_after, words}

-- ---- bytes

gap_small : (b : ℕ) → is_ascii_gap b ≡ true → b < 128
gap_small b is = grind (arith, nat_tests)

gap_is_gap : (b : ℕ) → is_ascii_gap b ≡ true → is_gap b ≡ true
gap_is_gap b is = grind (arith, nat_tests)

pub plain_small : (b : ℕ) → is_plain b ≡ true → b < 128
plain_small b is = grind (arith, nat_tests)

plain_no_gap : (b : ℕ) → is_plain b ≡ true → is_gap b ≡ false
plain_no_gap b is = grind (arith, nat_tests)

plain_printable : (b : ℕ) → is_plain b ≡ true → is_printable b ≡ true
plain_printable b is = grind (arith, nat_tests)

chars_byte : (b : ℕ) (rest : List ℕ) → b < 128 → chars (b ∷ rest) ≡ b ∷ chars rest
chars_byte b rest small =
    let one = IsAscii-cons b [] small IsAscii-nil in
    chars-append (b ∷ []) rest (IsUtf8-from_ascii (b ∷ []) one) ∙ ap (λ s. s ++ chars rest) (chars-IsAscii (b ∷ []) one)

pub one_more : (test : ℕ → Bool) (bytes : List ℕ) (start at : ℕ) → EachBetween test bytes start at → test (get_or bytes at 0) ≡ true → EachBetween test bytes start (at + 1)
one_more test bytes start at each here k from lt =
    elim (cases_lt k at) [
      | inl before ↦ each k from before
      | inr later ↦
          let same : at ≡ k = omega (arith, lt, later) in
          subst (λ p. test (get_or bytes p 0) ≡ true) same here
    ]

all_read : (test : ℕ → Bool) (xs : List ℕ) → ((k : ℕ) → k < length xs → test (get_or xs k 0) ≡ true) → list_all test xs ≡ true
all_read test [] each = refl
all_read test (x ∷ xs) each =
    ap (λ t. t && list_all test xs) (each 0 (omega arith))
    ∙ all_read test xs (λ k lt. each (suc k) (omega (arith, lt)))

all_between : (test : ℕ → Bool) (bytes : List ℕ) (start end : ℕ) → end ≤ length bytes → EachBetween test bytes start end → list_all test (slice_range bytes start end) ≡ true
all_between test bytes start end within each =
    all_read test (slice_range bytes start end) (λ k lt.
    let less : k < end - start = omega (arith, lt, length-take (end - start) (drop start bytes)) in
    let read = get_or-take (end - start) (drop start bytes) k 0 less ∙ get_or-drop start bytes k 0 in
    ap test read ∙ each (start + k) (omega arith) (omega (arith, less)))

all_plain_printable : (xs : List ℕ) → list_all is_plain xs ≡ true → list_all is_printable xs ≡ true
all_plain_printable [] all = refl
all_plain_printable (x ∷ xs) all =
    let both = and_parts (is_plain x) (list_all is_plain xs) all in
    ap (λ t. t && list_all is_printable xs) (plain_printable x both.0) ∙ all_plain_printable xs both.1

letter_plain : (b : ℕ) → is_ascii_alphabetic b ≡ true → is_plain b ≡ true
letter_plain b is = grind (arith, nat_tests)

pub letters_plain : (bytes : List ℕ) (start end : ℕ) → EachBetween is_ascii_alphabetic bytes start end → EachBetween is_plain bytes start end
letters_plain bytes start end each k from lt = letter_plain (get_or bytes k 0) (each k from lt)

-- Bytes are plain up to a place, and from there on.
pub plain_on : (bytes : List ℕ) (start known end : ℕ) → EachBetween is_plain bytes start known → EachBetween is_plain bytes known end → EachBetween is_plain bytes start end
plain_on bytes start known end before after k from lt =
    elim (cases_lt k known) [
      | inl early ↦ before k from early
      | inr late ↦ after k late lt
    ]

pub letters_between : (bytes : List ℕ) (start end : ℕ) → start < end → end ≤ length bytes → EachBetween is_ascii_alphabetic bytes start end → AreLetters (slice_range bytes start end)
letters_between bytes start end some within each =
    (omega (arith, some, within, length-take (end - start) (drop start bytes), length-drop start bytes), all_between is_ascii_alphabetic bytes start end within each)

pub plain_word_printable : (bytes : List ℕ) (start end : ℕ) → IsPlainWord bytes start end → list_all is_printable (slice_range bytes start end) ≡ true
plain_word_printable bytes start end is = all_plain_printable (slice_range bytes start end) (all_between is_plain bytes start end is.within is.plain)

-- ---- words

some_any : (text : List ℕ) → 0 < length text → if_any text ≡ text ∷ []
some_any text some = ap (λ t. cond t [] (text ∷ [])) (ne_eqb (length text) 0 (λ e. omega (arith, some, e)))

-- A gap takes no word.
gap_first : (b : ℕ) (rest : List ℕ) → is_ascii_gap b ≡ true → words (b ∷ rest) ≡ words rest
gap_first b rest is =
    ap (words_after []) (chars_byte b rest (gap_small b is))
    ∙ ap (λ t. cond t (if_any [] ++ words rest) (words_after ([] ++ encode_utf8 b) (chars rest))) (gap_is_gap b is)

gaps_first : (gaps rest : List ℕ) → list_all is_ascii_gap gaps ≡ true → words (gaps ++ rest) ≡ words rest
gaps_first [] rest all = refl
gaps_first (b ∷ gaps) rest all =
    let both = and_parts (is_ascii_gap b) (list_all is_ascii_gap gaps) all in
    gap_first b (gaps ++ rest) both.0 ∙ gaps_first gaps rest both.1

-- Plain bytes go on with a word.
plain_goes_on : (begun xs rest : List ℕ) → list_all is_plain xs ≡ true → words_after begun (chars (xs ++ rest)) ≡ words_after (begun ++ xs) (chars rest)
plain_goes_on begun [] rest all = ap (λ w. words_after w (chars rest)) (sym (append-nil begun))
plain_goes_on begun (x ∷ xs) rest all =
    let both = and_parts (is_plain x) (list_all is_plain xs) all in
    let others = chars (xs ++ rest) in
    ap (words_after begun) (chars_byte x (xs ++ rest) (plain_small x both.0))
    ∙ ap (λ t. cond t (if_any begun ++ words_after [] others) (words_after (begun ++ encode_utf8 x) others)) (plain_no_gap x both.0)
    ∙ ap (λ e. words_after (begun ++ e) others) (encode_ascii x (plain_small x both.0))
    ∙ plain_goes_on (begun ++ x ∷ []) xs rest both.1
    ∙ ap (λ w. words_after w (chars rest)) (append_assoc begun (x ∷ []) xs)

-- A word ends at a gap, and at the end.
word_ends : (word rest : List ℕ) → 0 < length word → EndsAt rest 0 → words_after word (chars rest) ≡ word ∷ words rest
word_ends word [] some ended = ap (words_after word) chars-nil ∙ some_any word some ∙ ap (λ s. word ∷ s) (sym (ap (words_after []) chars-nil))
word_ends word (b ∷ rest) some ended =
    let is = ended (omega arith) in
    ap (words_after word) (chars_byte b rest (gap_small b is))
    ∙ ap (λ t. cond t (if_any word ++ words rest) (words_after (word ++ encode_utf8 b) (chars rest))) (gap_is_gap b is)
    ∙ ap (λ s. s ++ words rest) (some_any word some)
    ∙ ap (λ s. word ∷ s) (sym (gap_first b rest is))

ends_after : (bytes : List ℕ) (end : ℕ) → EndsAt bytes end → EndsAt (drop end bytes) 0
ends_after bytes end ended lt =
    let place : end + 0 ≡ end = omega arith in
    ap is_ascii_gap (get_or-drop end bytes 0 0 ∙ ap (λ p. get_or bytes p 0) place) ∙ ended (omega (arith, lt, length-drop end bytes))

-- A plain word is the first one from its place on.
pub plain_word : (bytes : List ℕ) (start end : ℕ) → IsPlainWord bytes start end → words (drop start bytes) ≡ slice_range bytes start end ∷ words (drop end bytes)
plain_word bytes start end is =
    let word = slice_range bytes start end in
    let rest = drop end bytes in
    let after = is.after in
    let within = is.within in
    let long : 0 < length word = omega (arith, after, within, length-take (end - start) (drop start bytes), length-drop start bytes) in
    ap words (drop_split bytes start end (omega (arith, after)))
    ∙ plain_goes_on [] word rest (all_between is_plain bytes start end within is.plain)
    ∙ word_ends word rest long (ends_after bytes end is.ended)

-- Gaps of ASCII at the beginning take no word.
pub gaps_passed : (bytes : List ℕ) (start : ℕ) → start ≤ length bytes → EachBetween is_ascii_gap bytes 0 start → words bytes ≡ words (drop start bytes)
gaps_passed bytes start within each =
    ap words (drop_split bytes 0 start (omega arith))
    ∙ gaps_first (slice_range bytes 0 start) (drop start bytes) (all_between is_ascii_gap bytes 0 start within each)

-- Letters and characters, counted byte by byte.
use Rattle.std.proofs.Common.{◌≡◌, ℕ, zero, suc, ◌+◌, ◌-◌, ◌<◌, ◌≤◌, Bool, List, length, refl, ap, ◌∙◌, arith}
use Rattle.std.specs.Prelude.{slice_index, not, ◌||◌, if◌then◌else◌}
use Rattle.std.specs.List.{range_with_len, sum_by}
use Rattle.std.proofs.lemmas.List.Sums.{sum_by_push, sum_by-cons}
use Rattle.libhyphen_rule.proofs.WordSteps.{range_more}
use Rattle.libhyphen_files.specs.Bytes.{continues}
use Rattle.libhyphen_rule.specs.Letters.{letters_at, letters_in_first, characters_from}

-- No letter in no bytes.
pub letters_in_none : (utf8 : Bool) (text : List ℕ) → letters_in_first utf8 text 0 ≡ 0
unfolding letters_in_first
letters_in_none utf8 text = refl

-- One byte more.
pub letters_more : (utf8 : Bool) (text : List ℕ) (n : ℕ) → letters_in_first utf8 text (n + 1) ≡ letters_in_first utf8 text n + letters_at utf8 text n
unfolding letters_in_first
letters_more utf8 text n =
    ap (sum_by (letters_at utf8 text)) (range_more n) ∙ sum_by_push (letters_at utf8 text) (range_with_len 0 n) n

-- A byte begins two letters at most.
pub letters_at_most_two : (utf8 : Bool) (text : List ℕ) (at : ℕ) → letters_at utf8 text at ≤ 2
letters_at_most_two utf8 text at = grind arith

-- More bytes have no fewer letters.
letters_of_more : (utf8 : Bool) (text : List ℕ) (n more : ℕ) → letters_in_first utf8 text n ≤ letters_in_first utf8 text (n + more)
letters_of_more utf8 text n zero =
    let same : letters_in_first utf8 text (n + zero) ≡ letters_in_first utf8 text n = ap (letters_in_first utf8 text) (omega arith) in
    omega arith
letters_of_more utf8 text n (suc more) =
    let one : letters_in_first utf8 text (n + more + 1) ≡ letters_in_first utf8 text (n + more) + letters_at utf8 text (n + more) = letters_more utf8 text (n + more) in
    let same : letters_in_first utf8 text (n + suc more) ≡ letters_in_first utf8 text (n + more + 1) = ap (letters_in_first utf8 text) (omega arith) in
    omega (arith, letters_of_more utf8 text n more)

pub letters_rise : (utf8 : Bool) (text : List ℕ) (n m : ℕ) → n ≤ m → letters_in_first utf8 text n ≤ letters_in_first utf8 text m
letters_rise utf8 text n m le =
    let same : letters_in_first utf8 text (n + (m - n)) ≡ letters_in_first utf8 text m = ap (letters_in_first utf8 text) (omega arith) in
    omega (arith, letters_of_more utf8 text n (m - n))

-- Whether a character begins at a byte, as a number.
abbrev pub character_at : Bool → List ℕ → ℕ → ℕ
character_at utf8 word at = if not utf8 || not (continues (slice_index word at)) then 1 else 0

pub character_at_most_one : (utf8 : Bool) (word : List ℕ) (at : ℕ) → character_at utf8 word at ≤ 1
character_at_most_one utf8 word at = grind arith

-- No character begins behind a word.
pub characters_from_end : (utf8 : Bool) (word : List ℕ) → characters_from utf8 word (length word) ≡ 0
unfolding characters_from
characters_from_end utf8 word =
    let size : length word - length word ≡ 0 = omega arith in
    ap (λ n. sum_by (character_at utf8 word) (range_with_len (length word) n)) size

-- One byte more.
pub characters_more : (utf8 : Bool) (word : List ℕ) (from : ℕ) → from < length word → characters_from utf8 word from ≡ character_at utf8 word from + characters_from utf8 word (from + 1)
unfolding characters_from
characters_more utf8 word from lt =
    let size : length word - from ≡ suc (length word - (from + 1)) = omega arith in
    ap (λ n. sum_by (character_at utf8 word) (range_with_len from n)) size
    ∙ sum_by-cons (character_at utf8 word) from (range_with_len (from + 1) (length word - (from + 1)))

-- More bytes have no fewer characters.
characters_of_more : (utf8 : Bool) (word : List ℕ) (from more : ℕ) → from + more ≤ length word → characters_from utf8 word (from + more) ≤ characters_from utf8 word from
characters_of_more utf8 word from zero le =
    let same : characters_from utf8 word (from + zero) ≡ characters_from utf8 word from = ap (characters_from utf8 word) (omega arith) in
    omega arith
characters_of_more utf8 word from (suc more) le =
    let one = characters_more utf8 word (from + more) (omega arith) in
    let same : characters_from utf8 word (from + suc more) ≡ characters_from utf8 word (from + more + 1) = ap (characters_from utf8 word) (omega arith) in
    omega (arith, characters_of_more utf8 word from more (omega arith))

pub characters_fall : (utf8 : Bool) (word : List ℕ) (from to : ℕ) → from ≤ to → to ≤ length word → characters_from utf8 word to ≤ characters_from utf8 word from
characters_fall utf8 word from to le within =
    let same : characters_from utf8 word (from + (to - from)) ≡ characters_from utf8 word to = ap (characters_from utf8 word) (omega arith) in
    omega (arith, characters_of_more utf8 word from (to - from) (omega arith))

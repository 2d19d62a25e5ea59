-- Lines that are patterns without a change at first sight.
use Rattle.std.proofs.Common.{◌≡◌, ◌≢◌, ◌∙◌, ap, sym, refl, ℕ, ◌+◌, ◌<◌, ◌≤◌, ◌==◌, Bool, true, false, cond, List, [], ◌∷◌, length, get_or, nat_le, None, arith}
use Rattle.std.specs.Prelude.{◌||◌, not}
use Rattle.std.specs.List.{before_first, position_or_len}
use Rattle.std.proofs.lemmas.Grind.{common_steps}
use Rattle.std.proofs.lemmas.List.Sums.{take_while-cons}
use Rattle.hyphenation_breaks.specs.Ascii.{slash, percent, digit_zero}
use Rattle.libhyphen_files.specs.Bytes.{before_nul, begins_with}
use Rattle.libhyphen_files.specs.Levels.{Level, with_pattern}
use Rattle.libhyphen_files.specs.Patterns.{Pattern, before_blank, before_slash, digits_from, is_changing, key_of, pattern_of, spelt}
use Rattle.libhyphen_files.specs.Private.Growing.{IsPlain, SpellsAlone, ends_spelling, with_key, with_spelt}
use Rattle.libhyphen_files.specs.Private.Settings.{may_be_setting}
use Rattle.libhyphen_files.proofs.LevelsLemmas.{line_read, pattern_read}

-- The bytes before the first one that passes a test, by the first byte.
goes_on : (p : ℕ → Bool) (b : ℕ) (bs : List ℕ) → p b ≡ false → before_first p (b ∷ bs) ≡ b ∷ before_first p bs
goes_on p b bs e = take_while-cons (λ x. not (p x)) b bs ∙ ap (λ t. cond (not t) (b ∷ before_first p bs) []) e

stops : (p : ℕ → Bool) (b : ℕ) (bs : List ℕ) → p b ≡ true → before_first p (b ∷ bs) ≡ []
stops p b bs e = take_while-cons (λ x. not (p x)) b bs ∙ ap (λ t. cond (not t) (b ∷ before_first p bs) []) e

-- A byte that goes on spelling.
more : (b : ℕ) (bs : List ℕ) → ends_spelling b ≡ false → SpellsAlone bs (before_first ends_spelling bs)
    → SpellsAlone (b ∷ bs) (before_first ends_spelling (b ∷ bs))
more b bs e rest =
    let zero : b == 0 ≡ false = grind (arith, common_steps) in
    let blank : nat_le b 32 ≡ false = grind (arith, common_steps) in
    let none : b == slash ≡ false = grind (arith, common_steps) in
    let read : before_nul (b ∷ bs) ≡ b ∷ before_nul bs = goes_on (λ x. x == 0) b bs zero in
    record {
      spelling = ap spelt read
          ∙ ap before_blank (goes_on (λ x. x == slash) b (before_nul bs) none)
          ∙ goes_on (λ x. nat_le x 32) b (before_slash (before_nul bs)) blank
          ∙ ap (λ part. b ∷ part) rest.spelling
          ∙ sym (goes_on ends_spelling b bs e);
      alone = ap is_changing read ∙ ap (λ t. t || is_changing (before_nul bs)) none ∙ rest.alone;
    }

-- The last byte of a line, which is no slash.
last : (b : ℕ) → ends_spelling b ≡ true → b ≢ slash → SpellsAlone (b ∷ []) (before_first ends_spelling (b ∷ []))
last b e other =
    let blank : nat_le b 32 ≡ true = grind (arith, common_steps) in
    let none : b == slash ≡ false = grind (arith, common_steps) in
    by (b == 0) refl blank none
  where
    by : (t : Bool) → b == 0 ≡ t → nat_le b 32 ≡ true → b == slash ≡ false → SpellsAlone (b ∷ []) (before_first ends_spelling (b ∷ []))
    by true zero blank none =
        let read : before_nul (b ∷ []) ≡ [] = stops (λ x. x == 0) b [] zero in
        record { spelling = ap spelt read ∙ sym (stops ends_spelling b [] e); alone = ap is_changing read }
    by false zero blank none =
        let read : before_nul (b ∷ []) ≡ b ∷ [] = goes_on (λ x. x == 0) b [] zero in
        record {
          spelling = ap spelt read ∙ ap before_blank (goes_on (λ x. x == slash) b [] none)
              ∙ stops (λ x. nat_le x 32) b [] blank ∙ sym (stops ends_spelling b [] e);
          alone = ap is_changing read ∙ ap (λ t. t || false) none;
        }

-- The number of bytes before the one that ends spelling.
at_once : (b : ℕ) (bs : List ℕ) → ends_spelling b ≡ true → position_or_len ends_spelling (b ∷ bs) ≡ 0
at_once b bs e = ap (λ t. cond (not t) (1 + position_or_len ends_spelling bs) 0) e

later : (b : ℕ) (bs : List ℕ) → ends_spelling b ≡ false → position_or_len ends_spelling (b ∷ bs) ≡ 1 + position_or_len ends_spelling bs
later b bs e = ap (λ t. cond (not t) (1 + position_or_len ends_spelling bs) 0) e

behind_first : (b : ℕ) (bs : List ℕ) (n k : ℕ) → n ≡ 1 + k → get_or (b ∷ bs) n 0 ≡ get_or bs k 0
behind_first b bs n k e = grind (arith, common_steps)

stopped : (b : ℕ) (bs : List ℕ) → ends_spelling b ≡ true → length (b ∷ bs) ≤ position_or_len ends_spelling (b ∷ bs) + 1
    → (position_or_len ends_spelling (b ∷ bs) < length (b ∷ bs) → get_or (b ∷ bs) (position_or_len ends_spelling (b ∷ bs)) 0 ≢ slash)
    → SpellsAlone (b ∷ bs) (before_first ends_spelling (b ∷ bs))
stopped b [] e short other =
    let none = at_once b [] e in
    let inside : position_or_len ends_spelling (b ∷ []) < 1 = omega (arith, none) in
    last b e (λ is. other inside (ap (λ k. get_or (b ∷ []) k 0) none ∙ is))
stopped b (x ∷ xs) e short other = absurd (omega (arith, at_once b (x ∷ xs) e, short))

-- A line of which no more than one byte, which is no slash, follows what it spells.
pub spells_alone : (line : List ℕ) → length line ≤ position_or_len ends_spelling line + 1
    → (position_or_len ends_spelling line < length line → get_or line (position_or_len ends_spelling line) 0 ≢ slash)
    → SpellsAlone line (before_first ends_spelling line)
spells_alone [] short other = record { spelling = refl; alone = refl }
spells_alone (b ∷ bs) short other = by (ends_spelling b) refl (spells_alone bs)
  where
    by : (t : Bool) → ends_spelling b ≡ t
        → (length bs ≤ position_or_len ends_spelling bs + 1
        → (position_or_len ends_spelling bs < length bs → get_or bs (position_or_len ends_spelling bs) 0 ≢ slash)
        → SpellsAlone bs (before_first ends_spelling bs))
        → SpellsAlone (b ∷ bs) (before_first ends_spelling (b ∷ bs))
    by true e rest = stopped b bs e short other
    by false e rest =
        let n = later b bs e in
        more b bs e (rest (omega (arith, short, n)) (λ inside is. other (omega (arith, inside, n))
        (behind_first b bs _ (position_or_len ends_spelling bs) n ∙ is)))

-- ---- The level with such a line.

setting_read : (line : List ℕ) → may_be_setting line ≡ false → may_be_setting (before_nul line) ≡ false
setting_read [] h = refl
setting_read (b ∷ bs) h = by (b == 0) refl
  where
    by : (t : Bool) → b == 0 ≡ t → may_be_setting (before_nul (b ∷ bs)) ≡ false
    by true e = ap may_be_setting (stops (λ x. x == 0) b bs e)
    by false e = ap may_be_setting (goes_on (λ x. x == 0) b bs e) ∙ h

plain_pattern : (utf8 : Bool) (line : List ℕ) → is_changing line ≡ false
    → pattern_of utf8 line ≡ record { digits = digits_from digit_zero (spelt line); change = None }
plain_pattern utf8 line e = rw e refl

with_plain : (utf8 : Bool) (level : Level) (line : List ℕ) → is_changing line ≡ false → with_pattern utf8 level line ≡ with_spelt level (spelt line)
with_plain utf8 level line e = ap (λ (p : Pattern). with_key level (key_of line) p) (plain_pattern utf8 line e)

-- A line that is no comment and no setting, and spells only a pattern.
pub is_plain : (line part : List ℕ) → begins_with line (percent ∷ []) ≡ false → may_be_setting line ≡ false → SpellsAlone line part → IsPlain line part
is_plain line part comment other spelling utf8 level =
    line_read utf8 level line comment ∙ pattern_read utf8 level (before_nul line) (setting_read line other)
    ∙ with_plain utf8 level (before_nul line) spelling.alone ∙ ap (with_spelt level) spelling.spelling

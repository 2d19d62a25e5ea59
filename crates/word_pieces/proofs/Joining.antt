-- Which neighbors a rule of UAX #29 joins, by them or by what stands around them.
use Rattle.std.proofs.Common.{◌≡◌, Bool, true, false, ◌&&◌, ◌||◌, List, [], ◌∷◌, refl, sym, ◌∙◌, true≢false}
use Rattle.std.specs.Prelude.{⊤}
use Rattle.std.proofs.lemmas.Bool.{false≢true, and_left, or_from, or_parts}
use Rattle.ucd_breaks.specs.declared.WordBreak.{WordBreak}
use Rattle.ucd_breaks.specs.declared.WordBreak.TheVariants.{DoubleQuote, HebrewLetter, MidNumLet, MidNum, Numeric, SingleQuote}
use Rattle.unicode_segmentation.specs.Word.{is_ah_letter, is_hebrew_letter, is_mid_letter, is_mid_num, is_single_quote, is_double_quote, is_numeric, is_katakana, is_extend_num_let, joins}
use Rattle.unicode_segmentation.proofs.BoolLemmas.{and-true, and-false, or-false}

-- Each test of a list fails.
abbrev AllFail : List Bool → Type 0
AllFail [] = ⊤
AllFail (test ∷ tests) = (test ≡ false) × AllFail tests

-- One test of a list, or an earlier one, passes.
abbrev pub passes : Bool → List Bool → Bool
passes earlier [] = earlier
passes earlier (test ∷ tests) = passes (earlier || test) tests

all_fail : (earlier : Bool) (tests : List Bool) → passes earlier tests ≡ false → (earlier ≡ false) × AllFail tests
all_fail earlier [] h = (h, tt)
all_fail earlier (test ∷ tests) h =
    let later = all_fail (earlier || test) tests h in
    let both = or_parts earlier test later.0 in
    (both.0, (both.1, later.1))

none_passes : (earlier : Bool) (tests : List Bool) → earlier ≡ false → AllFail tests → passes earlier tests ≡ false
none_passes earlier [] h all = h
none_passes earlier (test ∷ tests) h all = none_passes (earlier || test) tests (or_from earlier test h all.0) all.1

without_last : (x a b : Bool) → (a && b) ≡ false → ((x && a) && b) ≡ false
without_last false a b h = refl
without_last true a b h = h

back : (a b : Bool) → (b ≡ false → a ≡ false) → a ≡ true → b ≡ true
back a true p h = refl
back a false p h = absurd (true≢false (sym h ∙ p refl))

-- The rules after the first one, each as a test.
abbrev later_rules : WordBreak → WordBreak → WordBreak → WordBreak → List Bool
later_rules far_left left right far_right =
    (is_ah_letter left && is_mid_letter right && is_ah_letter far_right)
    ∷ (is_ah_letter far_left && is_mid_letter left && is_ah_letter right)
    ∷ (is_hebrew_letter left && is_single_quote right)
    ∷ (is_hebrew_letter left && is_double_quote right && is_hebrew_letter far_right)
    ∷ (is_hebrew_letter far_left && is_double_quote left && is_hebrew_letter right)
    ∷ (is_numeric left && is_numeric right)
    ∷ (is_ah_letter left && is_numeric right)
    ∷ (is_numeric left && is_ah_letter right)
    ∷ (is_numeric far_left && is_mid_num left && is_numeric right)
    ∷ (is_numeric left && is_mid_num right && is_numeric far_right)
    ∷ (is_katakana left && is_katakana right)
    ∷ ((is_ah_letter left || is_numeric left || is_katakana left || is_extend_num_let left) && is_extend_num_let right)
    ∷ (is_extend_num_let left && (is_ah_letter right || is_numeric right || is_katakana right)) ∷ []

-- Those of them that may join the two.
abbrev pub later_near : WordBreak → WordBreak → List Bool
later_near left right =
    (is_ah_letter left && is_mid_letter right)
    ∷ (is_mid_letter left && is_ah_letter right)
    ∷ (is_hebrew_letter left && is_single_quote right)
    ∷ (is_hebrew_letter left && is_double_quote right)
    ∷ (is_double_quote left && is_hebrew_letter right)
    ∷ (is_numeric left && is_numeric right)
    ∷ (is_ah_letter left && is_numeric right)
    ∷ (is_numeric left && is_ah_letter right)
    ∷ (is_mid_num left && is_numeric right)
    ∷ (is_numeric left && is_mid_num right)
    ∷ (is_katakana left && is_katakana right)
    ∷ ((is_ah_letter left || is_numeric left || is_katakana left || is_extend_num_let left) && is_extend_num_let right)
    ∷ (is_extend_num_let left && (is_ah_letter right || is_numeric right || is_katakana right)) ∷ []

-- Those of them that surely join the two.
abbrev pub later_sure : WordBreak → WordBreak → List Bool
later_sure left right =
    (is_hebrew_letter left && is_single_quote right)
    ∷ (is_numeric left && is_numeric right)
    ∷ (is_ah_letter left && is_numeric right)
    ∷ (is_numeric left && is_ah_letter right)
    ∷ (is_katakana left && is_katakana right)
    ∷ ((is_ah_letter left || is_numeric left || is_katakana left || is_extend_num_let left) && is_extend_num_let right)
    ∷ (is_extend_num_let left && (is_ah_letter right || is_numeric right || is_katakana right)) ∷ []

-- A rule joins the two, whatever stands around them.
abbrev pub joins_surely : WordBreak → WordBreak → Bool
joins_surely left right = passes (is_ah_letter left && is_ah_letter right) (later_sure left right)

-- A rule joins the two where the right ones stand around them.
abbrev pub may_join : WordBreak → WordBreak → Bool
may_join left right = passes (is_ah_letter left && is_ah_letter right) (later_near left right)

surely_none : (far_left left right far_right : WordBreak) → joins far_left left right far_right ≡ false → joins_surely left right ≡ false
surely_none far_left left right far_right h =
    let a = all_fail (is_ah_letter left && is_ah_letter right) (later_rules far_left left right far_right) h in
    none_passes (is_ah_letter left && is_ah_letter right) (later_sure left right) a.0
    (a.1.1.1.0, (a.1.1.1.1.1.1.0, (a.1.1.1.1.1.1.1.0, (a.1.1.1.1.1.1.1.1.0, (a.1.1.1.1.1.1.1.1.1.1.1.0, (a.1.1.1.1.1.1.1.1.1.1.1.1.0, (a.1.1.1.1.1.1.1.1.1.1.1.1.1.0, tt)))))))

pub joins-surely : (far_left left right far_right : WordBreak) → joins_surely left right ≡ true → joins far_left left right far_right ≡ true
joins-surely far_left left right far_right h =
    back (joins_surely left right) (joins far_left left right far_right) (surely_none far_left left right far_right) h

pub joins-none : (far_left left right far_right : WordBreak) → may_join left right ≡ false → joins far_left left right far_right ≡ false
joins-none far_left left right far_right h =
    let a = all_fail (is_ah_letter left && is_ah_letter right) (later_near left right) h in
    none_passes (is_ah_letter left && is_ah_letter right) (later_rules far_left left right far_right) a.0 (
      and_left (is_ah_letter left && is_mid_letter right) (is_ah_letter far_right) a.1.0,
      (
        without_last (is_ah_letter far_left) (is_mid_letter left) (is_ah_letter right) a.1.1.0,
        (
          a.1.1.1.0,
          (
            and_left (is_hebrew_letter left && is_double_quote right) (is_hebrew_letter far_right) a.1.1.1.1.0,
            (
              without_last (is_hebrew_letter far_left) (is_double_quote left) (is_hebrew_letter right) a.1.1.1.1.1.0,
              (
                a.1.1.1.1.1.1.0,
                (
                  a.1.1.1.1.1.1.1.0,
                  (
                    a.1.1.1.1.1.1.1.1.0,
                    (
                      without_last (is_numeric far_left) (is_mid_num left) (is_numeric right) a.1.1.1.1.1.1.1.1.1.0,
                      (
                        and_left (is_numeric left && is_mid_num right) (is_numeric far_right) a.1.1.1.1.1.1.1.1.1.1.0,
                        (a.1.1.1.1.1.1.1.1.1.1.1.0, (a.1.1.1.1.1.1.1.1.1.1.1.1.0, (a.1.1.1.1.1.1.1.1.1.1.1.1.1.0, tt))),
                      ),
                    ),
                  ),
                ),
              ),
            ),
          ),
        ),
      ),
    )

-- WB7b
pub joins-hebrew_double : (far_left far_right : WordBreak) → joins far_left HebrewLetter DoubleQuote far_right ≡ is_hebrew_letter far_right
joins-hebrew_double far_left far_right = simp (and-false, or-false)

-- WB7c
pub joins-double_hebrew : (far_left far_right : WordBreak) → joins far_left DoubleQuote HebrewLetter far_right ≡ is_hebrew_letter far_left
joins-double_hebrew far_left far_right = simp (and-true, and-false, or-false)

-- WB11
joins-mid_num_numeric : (far_left left far_right : WordBreak) → is_mid_num left ≡ true → joins far_left left Numeric far_right ≡ is_numeric far_left
joins-mid_num_numeric far_left MidNum far_right h = simp (and-true, and-false, or-false)
joins-mid_num_numeric far_left MidNumLet far_right h = simp (and-true, and-false, or-false)
joins-mid_num_numeric far_left SingleQuote far_right h = simp (and-true, and-false, or-false)
joins-mid_num_numeric far_left _ far_right h = absurd (false≢true h)

pub joins-mid_numeric : (far_left left right far_right : WordBreak) → is_mid_num left ≡ true → is_numeric right ≡ true → joins far_left left right far_right ≡ is_numeric far_left
joins-mid_numeric far_left left Numeric far_right h q = joins-mid_num_numeric far_left left far_right h
joins-mid_numeric far_left left _ far_right h q = absurd (false≢true q)

-- Breaks of words that are not passed over, have no letter beside a digit, or are broken as their NFC is.
use Rattle.std.proofs.Common.{◌≡◌, ℕ, Bool, true, false, List, [], refl, sym, ap, ◌∙◌, cond, IsTrue, if◌then◌else◌}
use Rattle.hyphenation_breaks.specs.Break.{ascend_on}
use Rattle.composed_words.specs.Composed.{carried, composed, is_composed, through_composed}
use Rattle.composed_words.specs.Laws.{CarriedAscend}
use Rattle.text_words.specs.Words.{is_mixed, unless_mixed}
use Rattle.hyphenation_text.specs.Dictionaries.{Breaks}
use Rattle.hyphenation_text.specs.Words.{is_passed_over, within_limits}
use Rattle.hyphenation_text.specs.Dictionaries.{AllAscend}

either_ascends : (word places : List ℕ) (c : Bool) → IsTrue (ascend_on word 0 places) → IsTrue (ascend_on word 0 (if c then [] else places))
either_ascends word places true a = refl
either_ascends word places false a = a

pub limited_ascend : (least : ℕ) (skips : Bool) (breaks : Breaks) → AllAscend breaks → AllAscend (within_limits least skips breaks)
limited_ascend least skips breaks a = λ word u. either_ascends word (breaks word) (is_passed_over least skips word) (a word u)

pub mixed_ascend : (breaks : Breaks) → AllAscend breaks → AllAscend (unless_mixed breaks)
mixed_ascend breaks a = λ word u. either_ascends word (breaks word) (is_mixed word) (a word u)

pub through_ascend : CarriedAscend → (breaks : Breaks) → AllAscend breaks → AllAscend (through_composed breaks)
unfolding through_composed
through_ascend law breaks a = λ word u.
    elim (is_composed word) as (λ c. IsTrue (ascend_on word 0 (cond c (breaks word) (carried word (breaks (composed word)))))) [
      | true ↦ a word u
      | false ↦ law word (breaks (composed word))
    ]

-- The breaks of a word in NFC are its own.
pub through_itself : (breaks : Breaks) (word : List ℕ) → is_composed word ≡ true → through_composed breaks word ≡ breaks word
unfolding through_composed
through_itself breaks word same = ap (λ c. cond c (breaks word) (carried word (breaks (composed word)))) same

-- The breaks of any other word are those of its NFC, carried back.
pub through_other : (breaks : Breaks) (word nfc : List ℕ) → is_composed word ≡ false → nfc ≡ composed word → through_composed breaks word ≡ carried word (breaks nfc)
unfolding through_composed
through_other breaks word nfc other same =
    ap (λ c. cond c (breaks word) (carried word (breaks (composed word)))) other ∙ ap (λ n. carried word (breaks n)) (sym same)

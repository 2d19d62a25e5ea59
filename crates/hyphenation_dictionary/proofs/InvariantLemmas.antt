-- Edits of the exceptions keep the invariant of a dictionary.
use Rattle.std.proofs.Common.{◌≡◌, ℕ, suc, ◌+◌, ◌<◌, Bool, true, false, ◌&&◌, nat_le, arith, length, get_or, drop, drop-cons, List, Option, refl, sym, ap, ◌∙◌}
use Rattle.std.specs.Prelude.{IsTrue, ◌↔◌}
use Rattle.std.proofs.lemmas.Bool.Decides.{nat_tests}
use Rattle.std.specs.FinMap as finite
use Rattle.hyphenation_breaks.specs.Break.{Break, Change, is_boundary}
use Rattle.hyphenation_breaks.specs.Dictionary.{Contents}
use Rattle.hyphenation_breaks.specs.Invariant.{IsDictionary, IsException, lists_within}
use Rattle.hyphenation_breaks.specs.Laws.{listed_from}
use Rattle.hyphenation_dictionary.proofs.TextMaps.{inserted, removed}

pub IsKept-insert : {C B : Type 0} (change_of : C → Option Change) (break_of : B → Break) (contents : Contents C B) (word : List ℕ) (listed : List B)
    → IsDictionary change_of break_of contents → IsException break_of word listed → IsDictionary change_of break_of (record contents { exceptions = finite.insert contents.exceptions word listed })
IsKept-insert change_of break_of contents word listed kept is = record {
  code = kept.code;
  left = kept.left;
  right = kept.right;
  patterns = kept.patterns;
  exceptions = inserted (IsException break_of) contents.exceptions word listed kept.exceptions is;
}

pub IsKept-remove : {C B : Type 0} (change_of : C → Option Change) (break_of : B → Break) (contents : Contents C B) (word : List ℕ)
    → IsDictionary change_of break_of contents → IsDictionary change_of break_of (record contents { exceptions = finite.remove contents.exceptions word })
IsKept-remove change_of break_of contents word kept = record {
  code = kept.code;
  left = kept.left;
  right = kept.right;
  patterns = kept.patterns;
  exceptions = removed (IsException break_of) contents.exceptions word kept.exceptions;
}

-- Breaks that do not ascend, or do not lie in the word, may not be listed.
pub never : (t : Bool) → t ≡ false → (IsTrue false → IsTrue t) × (IsTrue t → IsTrue false)
never true e = absurd cc
never false e = (λ h. h, λ h. h)

pub before_least : {B : Type 0} (break_of : B → Break) (word : List ℕ) (least : ℕ) (listed : List B) (i : ℕ) (d : B) → i < length listed → (break_of (get_or listed i d)).place < least → listed_from break_of word least (drop i listed) ≡ false
before_least {B} break_of word least listed i d lt below =
    ap (listed_from break_of word least) (drop-cons listed i d lt) ∙ by (nat_le least (break_of (get_or listed i d)).place) off
  where
    off : nat_le least (break_of (get_or listed i d)).place ≡ false
    off = grind (arith, nat_tests)

    by : (t : Bool) → t ≡ false
        → (t && is_boundary word (break_of (get_or listed i d)).place && lists_within word (break_of (get_or listed i d)).place (break_of (get_or listed i d)).change && listed_from break_of word ((break_of (get_or listed i d)).place + 1) (drop (suc i) listed)) ≡ false
    by true e = absurd cc
    by false e = refl

pub out_of_word : {B : Type 0} (break_of : B → Break) (word : List ℕ) (least : ℕ) (listed : List B) (i : ℕ) (d : B) → i < length listed
    → (is_boundary word (break_of (get_or listed i d)).place && lists_within word (break_of (get_or listed i d)).place (break_of (get_or listed i d)).change) ≡ false → listed_from break_of word least (drop i listed) ≡ false
out_of_word {B} break_of word least listed i d lt off =
    ap (listed_from break_of word least) (drop-cons listed i d lt)
    ∙ by (nat_le least (break_of (get_or listed i d)).place) (is_boundary word (break_of (get_or listed i d)).place) (lists_within word (break_of (get_or listed i d)).place (break_of (get_or listed i d)).change) off
  where
    by : (t a b : Bool) → (a && b) ≡ false → (t && a && b && listed_from break_of word ((break_of (get_or listed i d)).place + 1) (drop (suc i) listed)) ≡ false
    by true true true e = absurd cc
    by true true false e = refl
    by true false b e = refl
    by false a b e = refl

pub off_by : (t r : Bool) → (IsTrue r ↔ IsTrue t) → r ≡ false → t ≡ false
off_by false r h e = refl
off_by true r h e = absurd (no (sym e ∙ h.1 refl))
  where
    no : false ≡ true → ⊥
    no x = cc

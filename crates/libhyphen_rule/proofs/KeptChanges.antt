-- Changes that minima leave at their places.
use Rattle.std.proofs.Common.{◌≡◌, ◌+◌, ℕ, ℤ, arith, inl, inr, Bool, true, false, cond, List, length, take, drop, get_or, Option, None, Some, sym, ap, ◌∙◌, zero-add}
use Rattle.std.specs.Prelude.{◌&&◌}
use Rattle.std.proofs.lemmas.Bool.{cases_Bool, cases_lt}
use Rattle.std.proofs.lemmas.List.FromFn.{get_or-map-range_with_len, length-map-range_with_len}
use Rattle.std.proofs.lemmas.List.{get_or_past}
use Rattle.libhyphen_files.specs.Bytes.{before_nul}
use Rattle.libhyphen_rule.specs.Calls.{at_least_two, found_by_call, least_of, part_minima}
use Rattle.libhyphen_rule.specs.Laws.{ChangesKeepMinima}
use Rattle.libhyphen_rule.specs.Minima.{change_is_short_after, change_is_short_before, changes_but, goes_after, goes_before, is_short_after, is_short_before, left_goes, right_goes}
use Rattle.libhyphen_rule.specs.OneLevel.{ChangeAt}
use Rattle.libhyphen_rule.specs.Parts.{Found, word_found}

-- A change that is left was there, and did not go.
left_there : (goes : ℕ → Bool) (changes : List (Option ChangeAt)) (k : ℕ) (change : ChangeAt)
    → get_or (changes_but goes changes) k None ≡ Some change
    → (goes k ≡ false) × (get_or changes k None ≡ Some change)
left_there goes changes k change is = elim (cases_lt k (length changes)) [
  | inr le ↦
      let long : length (changes_but goes changes) ≡ length changes
      = length-map-range_with_len (λ byte. cond (goes byte) None (get_or changes byte None)) 0 (length changes) in
      let none : get_or (changes_but goes changes) k None ≡ None = get_or_past (changes_but goes changes) k None (omega (arith, le, long)) in
      absurd (cc)
  | inl lt ↦
      let at : cond (goes k) None (get_or changes k None) ≡ Some change =
      sym (get_or-map-range_with_len (λ byte. cond (goes byte) None (get_or changes byte None)) 0 (length changes) k k None lt (zero-add k)) ∙ is in
      elim (cases_Bool (goes k)) [
        | inl gone ↦ let none : None ≡ Some change = sym (ap (λ b. cond b None (get_or changes k None)) gone) ∙ at in absurd (cc)
        | inr stays ↦ (stays, sym (ap (λ b. cond b None (get_or changes k None)) stays) ∙ at)
      ]
]

rest_false : (a b c : Bool) → (a && b && c) ≡ false → a ≡ true → (b && c) ≡ false
rest_false true b c left is = left
rest_false false b c left is = absurd (cc)

left_has : (utf8 : Bool) (least : ℤ) (text : List ℕ) (changes : List (Option ChangeAt)) (byte : ℕ) (change : ChangeAt)
    → left_goes utf8 least text changes byte ≡ false → get_or changes byte None ≡ Some change
    → is_short_before utf8 least text byte ≡ true → change_is_short_before utf8 least text (byte + 1) change ≡ false
left_has utf8 least text changes byte change stays is short =
    rest_false _ _ _ (sym (ap (goes_before utf8 least text byte) is) ∙ stays) short

right_has : (utf8 : Bool) (least : ℤ) (word text : List ℕ) (changes : List (Option ChangeAt)) (byte : ℕ) (change : ChangeAt)
    → right_goes utf8 least word text changes byte ≡ false → get_or changes byte None ≡ Some change
    → is_short_after utf8 least word byte ≡ true → change_is_short_after utf8 least text (byte + 1) change ≡ false
right_has utf8 least word text changes byte change stays is short =
    rest_false _ _ _ (sym (ap (goes_after utf8 least word text byte) is) ∙ stays) short

pub changes_keep : ChangesKeepMinima
unfolding found_by_call
changes_keep rules given text size byte change is =
    let least = least_of rules.first_level.minima given in
    let base : Found = word_found rules (part_minima least) (take size text) (drop size text) in
    let left : ℤ = at_least_two least.left in
    let right : ℤ = at_least_two least.right in
    let kept : List (Option ChangeAt) = changes_but (left_goes rules.utf8 left (before_nul text) base.changes) base.changes in
    let last = left_there (right_goes rules.utf8 right (take size text) (before_nul text) kept) kept byte change is in
    let first = left_there (left_goes rules.utf8 left (before_nul text) base.changes) base.changes byte change last.1 in (
      left_has rules.utf8 left (before_nul text) base.changes byte change first.0 first.1,
      right_has rules.utf8 right (take size text) (before_nul text) kept byte change last.0 last.1,
    )

-- Where two kinds of characters have a bound between them.

use Rattle.std.proofs.Common.{◌≡◌, ℕ, Bool, true, false, cond, not, ◌&&◌, ◌||◌, List, ◌∷◌, arith, Option, Some, None, unwrap_or, refl, sym, ap, ap₂, ◌∙◌}
use Rattle.std.proofs.lemmas.Bool.{not-true}
use Rattle.ucd_breaks.specs.WordBreak.{word_break}
use Rattle.ucd_breaks.specs.declared.WordBreak.{WordBreak}
use Rattle.ucd_emoji.specs.Binary.{is_extended_pictographic}
use Rattle.unicode_segmentation.specs.Word.{break_by_pair, is_ignored, is_ah_letter, is_numeric, is_regional, significant, starts_with_half_flag, joins, value_at, is_word_break}
use Rattle.unicode_segmentation.proofs.BoolLemmas.{or-false, same, same-true}
use Rattle.unicode_segmentation.proofs.WordLemmas.{is_word_break-inside, significant-kept, starts_with_half_flag-cons}
use Rattle.word_pieces.specs.declared.kinds.ByteKind.{ByteKind}
use Rattle.word_pieces.specs.declared.kinds.ByteKind.TheVariants.{Letter, Middle, Space, Return, Feed, Alone, Beyond}
use Rattle.word_pieces.specs.Private.Kinds.{kind_of_value, is_near, verdict, may_be_letter}
use Rattle.word_pieces.proofs.EveryValue.{every, every-at}

-- The value of Word_Break passes the test if its kind is not beyond ASCII.
abbrev if_near : WordBreak → Bool → Bool
if_near v test = cond (is_near (kind_of_value v)) test true

near-ok : (v : WordBreak) (test : Bool) → if_near v test ≡ true → is_near (kind_of_value v) ≡ true → test ≡ true
near-ok v test ok near = sym (ap (λ b. cond b test true) near) ∙ ok

pub near-kept : (v : WordBreak) → is_near (kind_of_value v) ≡ true → is_ignored v ≡ false
unfolding every
near-kept v near = not-true _ (near-ok v (not (is_ignored v)) (every-at (λ v. if_near v (not (is_ignored v))) refl v) near)

pub near-not_regional : (v : WordBreak) → is_near (kind_of_value v) ≡ true → is_regional v ≡ false
unfolding every
near-not_regional v near = not-true _ (near-ok v (not (is_regional v)) (every-at (λ v. if_near v (not (is_regional v))) refl v) near)

-- The rules for two characters whose values WB4 keeps, where no flag is open. They see the value before the first, the
-- two, and the value after the second.
abbrev pub rules_say : WordBreak → WordBreak → WordBreak → WordBreak → Bool → Bool
rules_say far_left v w far_right is_pictograph = unwrap_or (break_by_pair v w is_pictograph) (not (joins far_left v w far_right))

-- The rules say no other than an answer, if there is one.
abbrev agrees : Option Bool → Bool → Bool
agrees None is_break = true
agrees (Some answer) is_break = same answer is_break

-- The rules agree with the verdict on two values.
abbrev is_judged : WordBreak → WordBreak → WordBreak → Bool → WordBreak → Bool
is_judged v w far_right is_pictograph far_left = agrees (verdict (kind_of_value v) (kind_of_value w)) (rules_say far_left v w far_right is_pictograph)

all_judged : (far_right : WordBreak) (is_pictograph : Bool) (v w far_left : WordBreak) → is_judged v w far_right is_pictograph far_left ≡ true
unfolding every
all_judged far_right is_pictograph v w far_left =
    every-at (is_judged v w far_right is_pictograph)
    (every-at (λ w. every (is_judged v w far_right is_pictograph)) (every-at (λ v. every (λ w. every (is_judged v w far_right is_pictograph))) refl v) w)
    far_left

-- No half of a flag ends after a character of ASCII.
pub no_flag : (c : ℕ) (before : List ℕ) → is_near (kind_of_value (word_break c)) ≡ true → starts_with_half_flag (significant (c ∷ before)) ≡ false
no_flag c before near =
    rw (starts_with_half_flag-cons, near-kept (word_break c) near, near-not_regional (word_break c) near)

rules_say-near : (c d : ℕ) (before after : List ℕ) → is_near (kind_of_value (word_break c)) ≡ true
    → is_word_break (c ∷ before) (d ∷ after)
    ≡ rules_say (value_at (significant before) 0) (word_break c) (word_break d) (value_at (significant after) 0) (is_extended_pictographic d)
rules_say-near c d before after near =
    rw (
      is_word_break-inside (c ∷ before) d after (omega arith),
      no_flag c before near,
      significant-kept c before (near-kept (word_break c) near),
      or-false,
    )

-- Two characters of ASCII whose kinds decide it.
pub is_word_break-verdict : (c d : ℕ) (before after : List ℕ) (answer : Bool) → is_near (kind_of_value (word_break c)) ≡ true
    → verdict (kind_of_value (word_break c)) (kind_of_value (word_break d)) ≡ Some answer → is_word_break (c ∷ before) (d ∷ after) ≡ answer
is_word_break-verdict c d before after answer near decided =
    let far_left = value_at (significant before) 0 in
    let far_right = value_at (significant after) 0 in
    let judged = all_judged far_right (is_extended_pictographic d) (word_break c) (word_break d) far_left in
    rules_say-near c d before after near
    ∙ sym (same-true _ _ (sym (ap (λ v. agrees v (rules_say far_left (word_break c) (word_break d) far_right (is_extended_pictographic d))) decided) ∙ judged))

verdict-Beyond : (last : ByteKind) → verdict last Beyond ≡ None
verdict-Beyond Letter = refl
verdict-Beyond Middle = refl
verdict-Beyond Space = refl
verdict-Beyond Return = refl
verdict-Beyond Feed = refl
verdict-Beyond Alone = refl
verdict-Beyond Beyond = refl

-- The second of two kinds that decide it is not beyond ASCII.
pub verdict-near : (last next : ByteKind) (answer : Bool) → verdict last next ≡ Some answer → is_near next ≡ true
verdict-near last Beyond answer decided = let none = verdict-Beyond last in cc
verdict-near last _ answer decided = refl

-- The first value is that of a letter, a number or the underscore. The second is that of a character which joins only
-- between two of these.
abbrev is_letter_and_middle : ByteKind → ByteKind → Bool
is_letter_and_middle Letter Middle = true
is_letter_and_middle _ _ = false

abbrev may_join : WordBreak → Bool
may_join v = is_ah_letter v || is_numeric v

abbrev is_middle_judged : Bool → WordBreak → WordBreak → WordBreak → WordBreak → Bool
is_middle_judged is_pictograph v w far_right far_left =
    cond (is_letter_and_middle (kind_of_value v) (kind_of_value w) && not (may_join far_right)) (rules_say far_left v w far_right is_pictograph) true

all_middle_judged : (is_pictograph : Bool) (v w far_right far_left : WordBreak) → is_middle_judged is_pictograph v w far_right far_left ≡ true
unfolding every
all_middle_judged is_pictograph v w far_right far_left =
    every-at (is_middle_judged is_pictograph v w far_right)
    (every-at (λ r. every (is_middle_judged is_pictograph v w r))
    (every-at (λ w. every (λ r. every (is_middle_judged is_pictograph v w r)))
    (every-at (λ v. every (λ w. every (λ r. every (is_middle_judged is_pictograph v w r)))) refl v) w) far_right)
    far_left

-- A letter or a number, and a character that joins only between two of these, where none follows.
pub is_word_break-middle : (c d : ℕ) (before after : List ℕ) → kind_of_value (word_break c) ≡ Letter → kind_of_value (word_break d) ≡ Middle
    → (is_ah_letter (value_at (significant after) 0) || is_numeric (value_at (significant after) 0)) ≡ false → is_word_break (c ∷ before) (d ∷ after) ≡ true
is_word_break-middle c d before after letter middle far =
    let far_left = value_at (significant before) 0 in
    let far_right = value_at (significant after) 0 in
    let says = rules_say far_left (word_break c) (word_break d) far_right (is_extended_pictographic d) in
    let guard : (is_letter_and_middle (kind_of_value (word_break c)) (kind_of_value (word_break d)) && not (may_join far_right)) ≡ true =
    ap₂ (λ x y. x && y) (ap₂ is_letter_and_middle letter middle) (ap not far) in
    rules_say-near c d before after (ap is_near letter)
    ∙ sym (ap (λ b. cond b says true) guard) ∙ all_middle_judged (is_extended_pictographic d) (word_break c) (word_break d) far_right far_left

-- A character that is neither a letter nor beyond ASCII joins nothing before it.
pub near-may_not_join : (v : WordBreak) → may_be_letter (kind_of_value v) ≡ false → (is_ah_letter v || is_numeric v) ≡ false
unfolding every
near-may_not_join v no_letter =
    let test = every-at (λ v. cond (may_be_letter (kind_of_value v)) true (not (may_join v))) refl v in
    not-true _ (sym (ap (λ b. cond b true (not (may_join v))) no_letter) ∙ test)

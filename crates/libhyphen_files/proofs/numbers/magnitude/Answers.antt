use Rattle.std.proofs.Common.{◌≡◌, ◌<◌, ◌≤◌, ◌-◌, ℕ, List, true, length, get_or, take_while, arith}
use Rattle.std.specs.Char.{is_ascii_digit, digit_value}
use Rattle.std.proofs.lemmas.Grind.{common_steps}
use Rattle.std.proofs.lemmas.Int.Digits.{digits_value_more}
use Rattle.std.proofs.lemmas.List.Sums.{prefix_len_passes}
use Rattle.libhyphen_files.proofs.numbers.magnitude.Goals as goal

-- Each byte that `take_while` leaves passes.
passes : (text : List ℕ) (i : ℕ) → i < length (take_while is_ascii_digit text) → is_ascii_digit (get_or (take_while is_ascii_digit text) i 0) ≡ true
passes text i inside = grind (arith, common_steps, prefix_len_passes)

from_48 : (b : ℕ) → is_ascii_digit b ≡ true → 48 ≤ b
from_48 b is = grind arith

value : (b : ℕ) → is_ascii_digit b ≡ true → digit_value b ≡ b - 48
value b is = grind arith

-- The same of digits that are known to be those.
is_digit : (digits text : List ℕ) (i : ℕ) → digits ≡ take_while is_ascii_digit text → i < length digits → is_ascii_digit (get_or digits i 0) ≡ true
is_digit digits text i are inside = rw are (passes text i (rw (← are) inside))

pub overflow_sub-digit : goal.overflow_sub-digit
overflow_sub-digit c = from_48 _ (is_digit _ c.args.text.now c.loop-digit.digit-index c.digits_of-digit-items.ensures c.loop-digit-test.true)

pub loop-digit-preserved : goal.loop-digit-preserved
loop-digit-preserved c =
    let written = value (get_or c.digits_of-digit-items.result.now c.loop-digit.digit-index 0) (is_digit _ c.args.text.now c.loop-digit.digit-index c.digits_of-digit-items.ensures c.loop-digit-test.true) in
    let more = digits_value_more 10 c.digits_of-digit-items.result.now c.loop-digit.digit-index c.loop-digit-test.true in
    omega arith

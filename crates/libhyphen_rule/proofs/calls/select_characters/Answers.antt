use Rattle.std.proofs.Common.{◌≡◌, ◌∙◌, Bool, sym, ap, arith, cond, length, take, List, ℕ}
use Rattle.std.proofs.lemmas.List.{take_all}
use Rattle.libhyphen_rule.specs.Words.{digits_of_characters}
use Rattle.libhyphen_rule.proofs.Ascii.{ascii_digits, small_all}
use Rattle.libhyphen_rule.proofs.calls.select_characters.Goals.{else-utf8-via-then-utf8+else-not-ascii, else-utf8-via-else-utf8}
use Rattle.libhyphen_rule.proofs.calls.select_characters.Goals as goal

pub returns-else-utf8-clause-digits : goal.returns-else-utf8-clause-digits
returns-else-utf8-clause-digits c =
    let word = c.args.word.now in
    let digits : List ℕ = c.args.digits.now in
    let told : Bool → List ℕ = λ utf8. cond utf8 (digits_of_characters word digits) digits in
    let all : take (length word) digits ≡ digits = take_all (length word) digits (omega (arith, c.requires.digits)) in
    elim c.else-utf8.branch [
      | else-utf8-via-then-utf8+else-not-ascii w ↦
          all ∙ ascii_digits word digits (small_all word (c.requires.ascii w.if-not-ascii.false)) c.requires.digits ∙ sym (ap told w.if-utf8.true)
      | else-utf8-via-else-utf8 w ↦ all ∙ sym (ap told w.if-utf8.false)
    ]

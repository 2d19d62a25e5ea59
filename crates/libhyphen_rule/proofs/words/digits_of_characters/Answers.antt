use Rattle.std.proofs.Common.{◌≡◌, ◌∙◌, ℕ, List, ap, arith, map, length, sym, [], ◌∷◌, ◌++◌}
use Rattle.std.specs.Prelude.{filter, slice_index}
use Rattle.std.specs.List.{range_with_len}
use Rattle.libhyphen_rule.specs.Words.{is_last, last_bytes}
use Rattle.libhyphen_rule.proofs.WordSteps.{kept_more, left_more}
use Rattle.libhyphen_rule.proofs.words.digits_of_characters.Goals as goal
use Rattle.libhyphen_rule.proofs.words.digits_of_characters.Goals.{then-is_last+in_ok-push, else-is_last}

pub loop-byte-preserved : goal.loop-byte-preserved
loop-byte-preserved c =
    let n = c.loop-byte.byte in
    let last = is_last c.args.word.now in
    let digit = λ (byte : ℕ). slice_index c.args.digits.now byte in
    elim c.if-is_last.branch [
      | then-is_last+in_ok-push w ↦
          ap (λ v. v.items) w.found-is ∙ w.in_ok-push.ensures.items
          ∙ ap (λ (xs : List ℕ). xs ++ digit n ∷ []) c.loop-byte.invariant
          ∙ sym (kept_more digit last n (sym c.is_last.ensures ∙ w.if-is_last.true))
      | else-is_last w ↦
          ap (λ v. v.items) w.found-is ∙ c.loop-byte.invariant
          ∙ sym (left_more digit last n (sym c.is_last.ensures ∙ w.if-is_last.false))
    ]

pub returns : goal.returns
unfolding last_bytes
returns c =
    let digit = λ (byte : ℕ). slice_index c.args.digits.now byte in
    let e : c.loop-byte.byte ≡ length c.args.word.now = omega arith in
    c.loop-byte.invariant
    ∙ ap (λ (n : ℕ). map digit (filter (is_last c.args.word.now) (range_with_len 0 n))) e

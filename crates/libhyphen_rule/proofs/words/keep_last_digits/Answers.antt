use Rattle.std.proofs.Common.{◌≡◌, ◌∙◌, ◌+◌, ◌<◌, ◌≤◌, ℕ, List, ap, arith, map, length, refl, set, sym, take, [], ◌∷◌, ◌++◌}
use Rattle.std.specs.Prelude.{filter, slice_index}
use Rattle.std.specs.List.{range_with_len}
use Rattle.std.proofs.lemmas.Grind.{take-set_at}
use Rattle.std.proofs.lemmas.List.{get_or-set_other, length-set}
use Rattle.libhyphen_rule.specs.Words.{is_last, last_bytes}
use Rattle.libhyphen_rule.proofs.WordSteps.{kept_more, left_more, take_before_set}
use Rattle.libhyphen_rule.proofs.words.keep_last_digits.Goals as goal
use Rattle.libhyphen_rule.proofs.words.keep_last_digits.Goals.{then-is_last, else-is_last}

pub loop-byte-preserved : goal.loop-byte-preserved
loop-byte-preserved c =
    let n : ℕ = c.loop-byte.byte in
    let count : ℕ = c.loop-byte.count in
    let digits : List ℕ = c.loop-byte.digits in
    let here : ℕ = slice_index digits n in
    let last = is_last c.args.word.now in
    let digit = λ (byte : ℕ). slice_index c.args.digits.now byte in
    let inv = c.loop-byte.invariant in
    let within : count < length digits = omega (arith, inv.count, inv.length, c.requires, c.loop-byte-test.true) in
    let later : (byte : ℕ) → n + 1 ≤ byte → slice_index (set digits count here) byte ≡ slice_index c.args.digits.now byte =
    λ byte le.
    get_or-set_other digits count byte here 0 (λ e. absurd (omega (arith, e, le, inv.count)))
    ∙ inv.later byte (omega (arith, le)) in
    let long : length (set digits count here) ≡ length c.args.digits.now = length-set digits count here ∙ inv.length in
    elim c.if-is_last.branch [
      | then-is_last w ↦ record {
        length = long;
        count = omega (arith, w.count-is, inv.count);
        kept = ap (λ (k : ℕ). take k (set digits count here)) w.count-is
            ∙ take-set_at digits count (count + 1) here refl within
            ∙ ap (λ (v : ℕ). take count digits ++ v ∷ []) (inv.later n (omega arith))
            ∙ ap (λ (xs : List ℕ). xs ++ digit n ∷ []) inv.kept
            ∙ sym (kept_more digit last n (sym c.is_last.ensures ∙ w.if-is_last.true));
        later = later;
      }
      | else-is_last w ↦ record {
        length = long;
        count = omega (arith, w.count-is, inv.count);
        kept = ap (λ (k : ℕ). take k (set digits count here)) w.count-is
            ∙ take_before_set digits count here ∙ inv.kept
            ∙ sym (left_more digit last n (sym c.is_last.ensures ∙ w.if-is_last.false));
        later = later;
      }
    ]

pub returns-clause-digits : goal.returns-clause-digits
unfolding last_bytes
returns-clause-digits c =
    let digit = λ (byte : ℕ). slice_index c.args.digits.now byte in
    let e : c.loop-byte.byte ≡ length c.args.word.now = omega arith in
    c.loop-byte.invariant.kept
    ∙ ap (λ (n : ℕ). map digit (filter (is_last c.args.word.now) (range_with_len 0 n))) e

use Rattle.std.proofs.Common.{◌≡◌, ◌∙◌, ◌+◌, ◌<◌, ◌≤◌, ℕ, true, false, List, Option, None, [], ◌∷◌, ◌++◌, ap, arith, length, refl, set, sym, take}
use Rattle.std.specs.Prelude.{replicate, slice_index}
use Rattle.std.proofs.lemmas.Bool.Decides.{nat_tests}
use Rattle.std.proofs.lemmas.Grind.{take-set_at}
use Rattle.std.proofs.lemmas.List.{get_or-replicate, length-set}
use Rattle.hyphenation_breaks.specs.Ascii.{equals_sign}
use Rattle.libhyphen_rule.specs.OneLevel.{ChangeAt, is_odd}
use Rattle.libhyphen_rule.specs.Words.{Writing, with_copied, writing_at}
use Rattle.libhyphen_rule.proofs.WordSteps.{take_before_set}
use Rattle.libhyphen_rule.proofs.WrittenWord.{copied_byte, even_copied, odd_copied}
use Rattle.libhyphen_rule.proofs.words.mark_word.Goals as goal

pub loop-byte-init : goal.loop-byte-init
unfolding writing_at
loop-byte-init c = record { long = refl; count = omega arith; written = refl; next = refl }

pub loop-byte-preserved : goal.loop-byte-preserved
loop-byte-preserved c =
    let n : ℕ = c.loop-byte.byte in
    let count : ℕ = c.loop-byte.count in
    let word = c.args.word.now in
    let digits = c.args.digits.now in
    let none : List (Option ChangeAt) = replicate (length word) None in
    let inv = c.loop-byte.invariant in
    let byte : ℕ = slice_index word n in
    let digit : ℕ = slice_index digits n in
    let now : Writing = writing_at word digits none n in
    let was : List ℕ = c.loop-byte.written in
    let first : List ℕ = set was count byte in
    let both : List ℕ = set first (count + 1) equals_sign in
    let room : count + 1 < length was = omega (arith, inv.count, inv.long, c.requires.room, c.loop-byte-test.true) in
    let near : now.next ≤ n = omega (arith, inv.next) in
    let step : writing_at word digits none (n + 1) ≡ with_copied now.written byte digit None n =
    copied_byte word digits none n near
    ∙ ap (λ (change : Option ChangeAt). with_copied now.written byte digit change n) (get_or-replicate (length word) n None None c.loop-byte-test.true) in
    let copied : take (count + 1) first ≡ now.written ++ byte ∷ [] =
    take-set_at was count (count + 1) byte refl (omega (arith, room)) ∙ ap (λ (xs : List ℕ). xs ++ byte ∷ []) inv.written in
    let after : Writing = writing_at word digits none (n + 1) in
    let written : (take (count + (1 + c.from.result)) both ≡ after.written) × (after.next ≡ n + 1) =
    elim (is_odd digit) as (λ t. is_odd digit ≡ t → (take (count + (1 + c.from.result)) both ≡ after.written) × (after.next ≡ n + 1)) [
      | true ↦ λ odd.
          let more : count + (1 + c.from.result) ≡ (count + 1) + 1 = grind (arith, nat_tests, odd, c.from.ensures) in
          let end : n + 1 + 0 ≡ n + 1 = omega arith in
          let marked = step ∙ odd_copied now.written byte digit None n odd in (
            ap (λ (k : ℕ). take k both) more
                ∙ take-set_at first (count + 1) ((count + 1) + 1) equals_sign refl (omega (arith, room, length-set was count byte))
                ∙ ap (λ (xs : List ℕ). xs ++ equals_sign ∷ []) copied
                ∙ ap (λ (s : Writing). s.written) (sym marked),
            ap (λ (s : Writing). s.next) marked ∙ end,
          )
      | false ↦ λ even.
          let more : count + (1 + c.from.result) ≡ count + 1 = grind (arith, nat_tests, even, c.from.ensures) in
          let marked = step ∙ even_copied now.written byte digit None n even in (
            ap (λ (k : ℕ). take k both) more
                ∙ take_before_set first (count + 1) equals_sign ∙ copied
                ∙ ap (λ (s : Writing). s.written) (sym marked),
            ap (λ (s : Writing). s.next) marked,
          )
    ] refl in
    record {
      long = length-set first (count + 1) equals_sign ∙ length-set was count byte ∙ inv.long;
      count = omega (arith, inv.count, c.from.ensures);
      written = written.0;
      next = written.1;
    }

pub returns-clause-text : goal.returns-clause-text
returns-clause-text c =
    let word = c.args.word.now in
    let end : c.loop-byte.byte ≡ length word = omega arith in
    c.loop-byte.invariant.written
    ∙ ap (λ (k : ℕ). (writing_at word c.args.digits.now (replicate {A = Option ChangeAt} (length word) None) k).written) end

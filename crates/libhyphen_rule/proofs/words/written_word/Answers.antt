use Rattle.std.proofs.Common.{◌≡◌, ◌∙◌, ◌≤◌, ◌+◌, ◌-◌, ℕ, List, None, ap, arith, sym, refl, [], ◌∷◌, ◌++◌}
use Rattle.std.specs.Prelude.{option_map, slice_index, slice_index_or}
use Rattle.std.proofs.lemmas.Bool.{eq-eqb, ne_eqb}
use Rattle.std.proofs.lemmas.List.{get_or-map}
use Rattle.libhyphen_rule.specs.Found.{placed, placed_all}
use Rattle.libhyphen_rule.specs.Words.{Writing, passed_over, with_mark, writing_at}
use Rattle.libhyphen_rule.proofs.WrittenWord.{copied_byte, even_copied, odd_copied, passed_byte}
use Rattle.libhyphen_rule.proofs.words.written_word.Goals as goal
use Rattle.libhyphen_rule.proofs.words.written_word.Goals.{then-passed-gt0, else-passed-gt0+in_ok-push+then-digits-byte-eq1+in_ok-passed, else-passed-gt0+in_ok-push+else-digits-byte-eq1}

pub loop-byte-init : goal.loop-byte-init
unfolding writing_at
loop-byte-init c = record { written = c.in_ok-written.ensures.items; passed = refl }

pub loop-byte-preserved : goal.loop-byte-preserved
loop-byte-preserved c =
    let n = c.loop-byte.byte in
    let word = c.args.word.now in
    let digits = c.args.digits.now in
    let changes = placed_all c.args.changes.now in
    let now = writing_at word digits changes n in
    let next = writing_at word digits changes (n + 1) in
    elim c.if-passed-gt0.branch [
      | then-passed-gt0 w ↦
          let step : next ≡ now
          = passed_byte word digits changes n (omega (arith, c.loop-byte.invariant.passed)) in
          let less : c.loop-byte.passed - 1 ≡ now.next - (n + 1) = omega (arith, c.loop-byte.invariant.passed) in
          record {
            written = ap (λ v. v.items) w.written-is ∙ c.loop-byte.invariant.written
                ∙ ap (λ (s : Writing). s.written) (sym step);
            passed = w.passed-is ∙ less ∙ ap (λ (s : Writing). s.next - (n + 1)) (sym step);
          }
      | else-passed-gt0+in_ok-push+then-digits-byte-eq1+in_ok-passed w ↦
          let own = option_map placed (slice_index_or c.args.changes.now n None) in
          let change : slice_index_or changes n None ≡ own
          = get_or-map (option_map placed) c.args.changes.now n None None (omega arith) in
          let near : now.next ≤ n = omega (arith, c.loop-byte.invariant.passed, w.if-passed-gt0.false) in
          let byte = slice_index word n in
          let pushed : w.push.new.self.items ≡ now.written ++ byte ∷ []
          = w.in_ok-push.ensures.items ∙ ap (λ (xs : List ℕ). xs ++ byte ∷ []) c.loop-byte.invariant.written in
          let mark = slice_index_or changes n None in
          let marked : Writing = record {
            written = with_mark (now.written ++ byte ∷ []) mark;
            next = n + 1 + passed_over mark;
          } in
          let step : next ≡ marked
          = copied_byte word digits changes n near
          ∙ odd_copied now.written byte (slice_index digits n) mark n (eq-eqb _ _ w.if-digits-byte-eq1.true) in
          record {
            written = ap (λ v. v.items) w.written-is ∙ w.in_ok-passed.ensures.written
                ∙ ap (λ (xs : List ℕ). with_mark xs own) pushed
                ∙ ap (with_mark (now.written ++ byte ∷ [])) (sym change)
                ∙ ap (λ (s : Writing). s.written) (sym step);
            passed = w.passed-is ∙ w.in_ok-passed.ensures.passed ∙ ap passed_over (sym change)
                ∙ (let e : passed_over mark ≡ n + 1 + passed_over mark - (n + 1) = omega arith in e)
                ∙ ap (λ (s : Writing). s.next - (n + 1)) (sym step);
          }
      | else-passed-gt0+in_ok-push+else-digits-byte-eq1 w ↦
          let near : now.next ≤ n = omega (arith, c.loop-byte.invariant.passed, w.if-passed-gt0.false) in
          let byte = slice_index word n in
          let pushed : w.push.new.self.items ≡ now.written ++ byte ∷ []
          = w.in_ok-push.ensures.items ∙ ap (λ (xs : List ℕ). xs ++ byte ∷ []) c.loop-byte.invariant.written in
          let copied : Writing = record { written = now.written ++ byte ∷ []; next = n + 1 } in
          let step : next ≡ copied
          = copied_byte word digits changes n near
          ∙ even_copied now.written byte (slice_index digits n) (slice_index_or changes n None) n
          (ne_eqb _ _ w.if-digits-byte-eq1.false) in
          let no_more : c.loop-byte.passed ≡ n + 1 - (n + 1) = omega (arith, w.if-passed-gt0.false) in
          record {
            written = ap (λ v. v.items) w.written-is ∙ pushed ∙ ap (λ (s : Writing). s.written) (sym step);
            passed = w.passed-is ∙ no_more ∙ ap (λ (s : Writing). s.next - (n + 1)) (sym step);
          }
    ]

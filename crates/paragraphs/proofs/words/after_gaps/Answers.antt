use Rattle.std.proofs.Common.{◌++◌, ◌∙◌, [], encode_utf8, ap, sym, refl, arith, append_assoc}
use Rattle.paragraphs.proofs.WordLists.{gap_first}
use Rattle.paragraphs.proofs.words.after_gaps.Goals as goal

pub split_char-requires-text-text : goal.split_char-requires-text-text
split_char-requires-text-text c = λ _. c.loop-c.invariant.utf8

pub loop-c-preserved : goal.loop-c-preserved
loop-c-preserved c =
    let rest = c.loop-c.rest.now in
    let after = c.in-Some.after.now in
    record {
      passed = gap_first rest after c.in-Some.c c.in-Some.ensures.chars (sym c.if-not-is_gap.ensures) ∙ c.loop-c.invariant.passed;
      utf8 = c.in-Some.ensures.utf8;
      no_longer = omega (arith, c.in-Some.ensures.less, c.loop-c.invariant.no_longer);
      end =
          let front = c.loop-c.invariant.end.0 in
          let first = encode_utf8 c.in-Some.c in
          (front ++ first, c.loop-c.invariant.end.1 ∙ ap (λ r. front ++ r) c.in-Some.ensures.read ∙ sym (append_assoc front first after));
    }

pub loop-c-init : goal.loop-c-init
loop-c-init c = record { passed = refl; utf8 = c.utf8.text; no_longer = omega arith; end = ([], refl) }

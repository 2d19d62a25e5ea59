use Rattle.std.proofs.Common.{◌++◌, ◌∙◌, map, ap, sym, subst, refl, not, arith}
use Rattle.std.specs.String.{string_bytes}
use Rattle.std.proofs.lemmas.Bool.{and_parts, not-true}
use Rattle.std.proofs.lemmas.Grind.{common_steps}
use Rattle.hyphenation_breaks.specs.Break.{plain_break}
use Rattle.hyphenation_segments.specs.Fits.{Fits}
use Rattle.hyphenation_text.specs.Words.{breaks_under}
use Rattle.hyphenation_text.specs.Words as specs
use Rattle.hyphenation_text.proofs.PassedWords.{IsPassed, written_after, passed_none, passes_word, appends_word, all_passed, leaves_whole, not_whole}
use Rattle.hyphenation_text.proofs.text.push_words.Goals as goal

pub loop-word-init : goal.loop-word-init
loop-word-init c = record {
  passed = passed_none (breaks_under c.args.settings.now c.args.dictionary.now) c.args.settings.now.mark.now c.args.token.text.now c.range-own.result.now (string_bytes c.args.output.now.text)
      c.args.kept c.args.token.start c.args.token.end _ c.words_are_slices.ensures.slices c.words_are_slices.ensures.join c.range-own.utf8 c.requires.kept c.args.token.order
      c.requires.begins c.args.token.begins c.args.token.ends c.range-own.ensures.value (grind (arith, common_steps));
  asked = λ h. absurd (cc h);
  unasked = λ h. refl;
}

pub returns-then-is_whole : goal.returns-then-is_whole
returns-then-is_whole c =
    let own = c.range-own.result.now in
    let parts = and_parts (not c.loop-word.is_asked) (specs.is_left_whole own) (sym c.is_whole.ensures ∙ c.if-is_whole.true) in
    leaves_whole (breaks_under c.args.settings.now c.args.dictionary.now) c.args.settings.now.mark.now c.args.token.text.now own _ (string_bytes c.args.output.now.text)
    c.args.kept c.args.token.start c.args.token.end c.requires.kept c.args.token.order c.requires.begins c.args.token.begins c.range-own.ensures.value parts.1
    (ap string_bytes c.find_breaks.ensures.text ∙ c.loop-word.invariant.unasked (not-true c.loop-word.is_asked parts.0))

pub loop-word-preserved-in_ok-push_marked_text : goal.loop-word-preserved-in_ok-push_marked_text
loop-word-preserved-in_ok-push_marked_text c =
    let breaks = breaks_under c.args.settings.now c.args.dictionary.now in
    let mark = c.args.settings.now.mark.now in
    let own = c.range-own.result.now in
    let word = c.in-Some.word.now in
    let found = c.in_ok-find_breaks.ensures in
    let marked = not_whole c.loop-word.is_asked (specs.is_left_whole own) c.loop-word.invariant.asked (sym c.is_whole.ensures ∙ c.if-is_whole.false) in
    record {
      passed = appends_word _ refl c.marked_segments_join.ensures (subst (λ places. Fits word (map plain_break places)) (sym c.deref.ensures.value) (found.fit c.if-branch.true))
          (c.deref.ensures.value ∙ found.breaks) marked
          (c.in_ok-push_str.ensures.bytes ∙ ap (λ t. string_bytes t ++ c.range.result.now) c.find_breaks.ensures.text ∙ ap (λ x. string_bytes c.loop-word.output.text ++ x) c.range.ensures.value)
          c.in_ok-push_marked_text.ensures.adds
          (subst (IsPassed breaks mark c.args.token.text.now own (written_after breaks mark c.args.token.text.now own (string_bytes c.args.output.now.text) c.args.kept c.args.token.start) (string_bytes c.loop-word.output.text) c.loop-word.left c.loop-word.at c.args.token.end) c.in-Some.ensures.steps c.loop-word.invariant.passed);
      asked = λ h. marked;
      unasked = λ h. absurd (cc h);
    }

pub loop-word-preserved : goal.loop-word-preserved
loop-word-preserved c =
    let breaks = breaks_under c.args.settings.now c.args.dictionary.now in
    let mark = c.args.settings.now.mark.now in
    let own = c.range-own.result.now in
    record {
      passed = passes_word _ refl (c.in_ok-find_breaks.ensures.none (ap not c.if-branch.false)) (ap string_bytes c.find_breaks.ensures.text)
          (subst (IsPassed breaks mark c.args.token.text.now own (written_after breaks mark c.args.token.text.now own (string_bytes c.args.output.now.text) c.args.kept c.args.token.start) (string_bytes c.loop-word.output.text) c.loop-word.left c.loop-word.at c.args.token.end) c.in-Some.ensures.steps c.loop-word.invariant.passed);
      asked = c.loop-word.invariant.asked;
      unasked = λ h. ap string_bytes c.find_breaks.ensures.text ∙ c.loop-word.invariant.unasked h;
    }

pub returns : goal.returns
returns c =
    let breaks = breaks_under c.args.settings.now c.args.dictionary.now in
    let mark = c.args.settings.now.mark.now in
    let own = c.range-own.result.now in
    all_passed c.args.kept c.args.token.start (string_bytes c.args.output.now.text) _ c.words_are_slices.ensures.join c.range-own.utf8 (sym c.range-own.ensures.value)
    (subst (IsPassed breaks mark c.args.token.text.now own (written_after breaks mark c.args.token.text.now own (string_bytes c.args.output.now.text) c.args.kept c.args.token.start) (string_bytes c.loop-word.output.text) c.loop-word.left c.loop-word.at c.args.token.end) c.in-None.ensures.steps.0 c.loop-word.invariant.passed)

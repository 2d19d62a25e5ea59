use Rattle.std.proofs.Common.{◌≡◌, ◌∙◌, ◌<◌, true, ap, sym, refl, length, get_or, subst}
use Rattle.std.specs.String.{string_bytes}
use Rattle.std.specs.Char.{is_ascii_alphabetic}
use Rattle.hyphenation_text.specs.Words.{breaks_under}
use Rattle.hyphenation_text.proofs.TextSteps.{text_first, text_on, text_parted, letters_more, letter_is_no_white}
use Rattle.hyphenation_text.proofs.text.push_tokens.Goals as goal
use Rattle.hyphenation_text.proofs.text.push_tokens.Goals.{then-is_white_space+in_ok-kept, else-is_white_space}

pub loop-end-init : goal.loop-end-init
loop-end-init c =
    text_first (breaks_under c.args.settings.now c.args.dictionary.now) c.args.settings.now.mark.now c.args.text.now (string_bytes c.args.output.now.text) c.args.touched_before c.args.touched_after c.utf8.text

pub loop-end-preserved-then-is_ascii_alphabetic : goal.loop-end-preserved-then-is_ascii_alphabetic
loop-end-preserved-then-is_ascii_alphabetic c =
    let same = c.as_bytes-bytes.ensures.value in
    let bytes = c.as_bytes-bytes.result.now in
    let letter = sym c.is_ascii_alphabetic.ensures.value ∙ c.if-is_ascii_alphabetic.true in
    text_on bytes _ _ c.loop-end.letters _ _ same c.loop-end.invariant c.loop-end-test.true (letter_is_no_white (get_or bytes c.loop-end.end 0) letter)
    (λ l all. letters_more c.args.text.now c.loop-end.start c.loop-end.end c.loop-end.invariant.started (subst (λ bs. c.loop-end.end < length bs) same c.loop-end-test.true) (all l)
    (subst (λ bs. is_ascii_alphabetic (get_or bs c.loop-end.end 0) ≡ true) same letter)) refl refl refl refl

pub loop-end-preserved : goal.loop-end-preserved
loop-end-preserved c =
    let same = c.as_bytes-bytes.ensures.value in
    let bytes = c.as_bytes-bytes.result.now in
    elim c.if-is_white_space.branch [
      | then-is_white_space+in_ok-kept w ↦
          text_parted bytes (string_bytes w.push_token.new.output.text) _ _ _ _ _ _ same c.utf8.text c.loop-end.invariant c.loop-end-test.true (sym c.is_white_space.ensures ∙ w.if-is_white_space.true)
          w.in_ok-kept.ensures (ap (λ o. string_bytes o.text) w.output-is) w.touches-is w.letters-is w.kept-is w.start-is
      | else-is_white_space w ↦
          text_on bytes _ _ _ _ _ same c.loop-end.invariant c.loop-end-test.true (sym c.is_white_space.ensures ∙ w.if-is_white_space.false)
          (λ l. absurd (cc (sym w.letters-is ∙ l))) (ap (λ o. string_bytes o.text) w.output-is) w.touches-is w.kept-is w.start-is
    ]

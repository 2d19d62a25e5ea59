use Rattle.std.proofs.Common.{eqb-true, ◌≤◌, ◌∷◌, ◌∙◌, length, drop, ap, sym, subst}
use Rattle.paragraphs.specs.Words.{words}
use Rattle.std.specs.Char.{is_ascii_alphabetic}
use Rattle.std.specs.List.{list_all}
use Rattle.paragraphs.specs.Private.Printable.{is_printable}
use Rattle.paragraphs.specs.Private.Plain.{is_ascii_gap, AreLetters, EachBetween, IsPlainWord}
use Rattle.paragraphs.proofs.PlainWords.{plain_word, plain_word_printable, letters_between, gaps_passed}
use Rattle.paragraphs.proofs.plain.split_plain.Goals as goal

pub returns-clause-word : goal.returns-clause-word
returns-clause-word c =
    let text = c.args.text.now in
    let start = c.past_gaps-start.result in
    let end = c.in_ok-end.end in
    let same = c.as_bytes-bytes.ensures.value in
    let within = subst (λ b. start ≤ length b) same c.past_gaps-start.ensures.within in
    let each = subst (λ b. EachBetween is_ascii_gap b 0 start) same c.past_gaps-start.ensures.each in
    gaps_passed text start within each
    ∙ plain_word text start end (subst (λ b. IsPlainWord b start end) same c.in_ok-end.ensures)
    ∙ ap (λ w. w ∷ words (drop end text)) (sym c.range.ensures.value)
    ∙ ap (λ r. c.range.result.now ∷ words r) (sym c.range_from.ensures.value)

pub invariant_of-result : goal.invariant_of-result
invariant_of-result c =
    let text = c.args.text.now in
    let start = c.past_gaps-start.result in
    let end = c.in_ok-end.end in
    let letters = c.past_letters-letters_end.result in
    let same = c.as_bytes-bytes.ensures.value in
    let is = subst (λ b. IsPlainWord b start end) same c.in_ok-end.ensures in
    let each = subst (λ b. EachBetween is_ascii_alphabetic b start letters) same c.past_letters-letters_end.ensures.each in
    record {
      utf8 = ∣ c.range.utf8 ∣₁;
      utf8_after = ∣ c.range_from.utf8 ∣₁;
      printable = λ _. ap (list_all is_printable) c.range.ensures.value ∙ plain_word_printable text start end is;
      alphabetic = λ e.
          subst AreLetters (sym c.range.ensures.value)
          (letters_between text start end is.after is.within (subst (EachBetween is_ascii_alphabetic text start) (sym (eqb-true end letters e)) each));
    }

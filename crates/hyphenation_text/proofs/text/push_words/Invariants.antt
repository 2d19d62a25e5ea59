use Rattle.std.proofs.Common.{◌≡◌, false, IsTrue}
use Rattle.std.specs.String.{string_bytes}
use Rattle.text_words.specs.Left.{words_left}
use Rattle.hyphenation_text.specs.Words.{breaks_under}
use Rattle.hyphenation_text.specs.Words.{is_left_whole}
use Rattle.hyphenation_text.proofs.PassedWords.{IsPassed, written_after}
use Rattle.hyphenation_text.proofs.text.push_words.Given as goal

abbrev pub invariant-loop-word : goal.invariant-loop-word
invariant-loop-word l =
    let breaks = breaks_under l.settings l.dictionary in
    let mark = l.settings.mark.now in
    let old = string_bytes l.fn.output.text in
    record {
      passed : IsPassed breaks mark l.token.text.now l.own (written_after breaks mark l.token.text.now l.own old l.kept l.token.start) (string_bytes l.output.text) l.left l.at l.token.end (words_left l.word-iterator);
      asked : IsTrue l.is_asked → is_left_whole l.own ≡ false;
      unasked : l.is_asked ≡ false → string_bytes l.output.text ≡ old;
    }

use Rattle.std.proofs.Common.{◌++◌, ◌∙◌, map, ap, sym, subst, not, slice_range, length, arith, ◌<◌}
use Rattle.std.specs.Char.{is_ascii_alphabetic}
use Rattle.std.specs.List.{list_all}
use Rattle.std.specs.String.{string_bytes}
use Rattle.std.proofs.lemmas.List.Edits.{length-between}
use Rattle.hyphenation_breaks.specs.Break.{plain_break}
use Rattle.hyphenation_segments.specs.Fits.{Fits}
use Rattle.hyphenation_segments.specs.Laws.{with_marks}
use Rattle.hyphenation_text.specs.Words.{breaks_under}
use Rattle.hyphenation_text.specs.Private.Marked.{marked_token, Leaves}
use Rattle.hyphenation_text.proofs.LetterTokens.{letters_are_ascii, letters_marked, word_appended}
use Rattle.hyphenation_text.proofs.PassedWords.{leaves_all}
use Rattle.hyphenation_text.proofs.text.push_letters.Goals as goal

pub find_breaks-requires-clause-in_nfc : goal.find_breaks-requires-clause-in_nfc
find_breaks-requires-clause-in_nfc c =
    λ known. c.ascii_is_composed.ensures c.range-word.result.now
    (letters_are_ascii c.range-word.result.now (ap (list_all is_ascii_alphabetic) c.range-word.ensures.value ∙ c.args.token.alphabetic c.requires.letters))

pub returns-then-not-branch : goal.returns-then-not-branch
returns-then-not-branch c =
    let breaks = breaks_under c.args.settings.now c.args.dictionary.now in
    let mark = c.args.settings.now.mark.now in
    let token = slice_range c.args.token.text.now c.args.token.start c.args.token.end in
    let some : 0 < length token = omega (arith, length-between c.args.token.text.now c.args.token.start c.args.token.end c.args.token.ends.0, c.requires.some) in
    let one = letters_marked breaks mark token c.letters_are_one_word.ensures c.letters_are_no_name.ensures some (c.args.token.alphabetic c.requires.letters) in
    let none = ap breaks (sym c.range-word.ensures.value) ∙ c.in_ok-find_breaks.ensures.none (ap not c.if-not-branch.true) in
    subst (λ o. Leaves c.args.token.text.now c.args.kept c.args.token.end o (string_bytes c.args.output.now.text ++ (slice_range c.args.token.text.now c.args.kept c.args.token.start ++ marked_token breaks mark token))) (sym (ap string_bytes c.find_breaks.ensures.text))
    (leaves_all c.args.token.text.now (string_bytes c.args.output.now.text) (marked_token breaks mark token) c.args.kept c.args.token.start c.args.token.end c.requires.kept c.args.token.order c.requires.begins c.args.token.begins
    (one ∙ ap (with_marks mark token) none))

pub returns : goal.returns
returns c =
    let breaks = breaks_under c.args.settings.now c.args.dictionary.now in
    let mark = c.args.settings.now.mark.now in
    let token = slice_range c.args.token.text.now c.args.token.start c.args.token.end in
    let some : 0 < length token = omega (arith, length-between c.args.token.text.now c.args.token.start c.args.token.end c.args.token.ends.0, c.requires.some) in
    let one = letters_marked breaks mark token c.letters_are_one_word.ensures c.letters_are_no_name.ensures some (c.args.token.alphabetic c.requires.letters) in
    let word = c.range-word.result.now in
    let found = c.in_ok-find_breaks.ensures in
    word_appended breaks mark c.args.token.text.now word (string_bytes c.args.output.now.text) _ _ (slice_range c.args.token.text.now c.args.kept c.args.token.start) token _ c.args.token.end c.marked_segments_join.ensures one c.range-word.ensures.value
    c.args.token.ends (subst (λ places. Fits word (map plain_break places)) (sym c.deref.ensures.value) (found.fit c.if-not-branch.false)) (c.deref.ensures.value ∙ found.breaks)
    (c.in_ok-push_str.ensures.bytes ∙ ap (λ t. string_bytes t ++ c.range.result.now) c.find_breaks.ensures.text ∙ ap (λ x. string_bytes c.args.output.now.text ++ x) c.range.ensures.value)
    c.in_ok-push_marked_text.ensures.adds

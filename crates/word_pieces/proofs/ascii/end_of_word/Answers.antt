use Rattle.std.proofs.Common.{◌≡◌, ◌+◌, false, subst, rules}
use Rattle.std.proofs.lemmas.Option.{same_Some}
use Rattle.word_pieces.specs.Private.Kinds.{IsRun, word_may_go_on}
use Rattle.word_pieces.specs.Private.Walks.{IsPlainEnd}
use Rattle.word_pieces.proofs.PlainWalks.{IsPlainEnd-word}
use Rattle.word_pieces.proofs.ascii.end_of_word.Goals as goal

pub returns-else-word_may_go_on : goal.returns-else-word_may_go_on
returns-else-word_may_go_on c x same =
    let text = c.args.text.now in
    let start = c.args.start in
    let at = c.past_run-at.result in
    let run : IsRun text (start + 1) at = search rules in
    let ended : word_may_go_on text at ≡ false = search rules in
    subst (IsPlainEnd text start) (same_Some _ _ same)
    (IsPlainEnd-word text c.utf8.text start at c.requires.some c.requires.start c.requires.first run ended)

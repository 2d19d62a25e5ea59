use Rattle.std.proofs.Common.{◌≡◌, ◌+◌, ◌-◌, ◌∷◌, ◌++◌, ◌∙◌, length, drop, sym, ap, subst, arith, length-append}
use Rattle.std.specs.Str.{IsCharBoundary}
use Rattle.std.proofs.lemmas.List.{take-append-drop}
use Rattle.std.proofs.lemmas.Str.{IsCharBoundary-at_seam}
use Rattle.paragraphs.specs.Words.{words}
use Rattle.paragraphs.proofs.WordLists.{no_word, one_word}
use Rattle.paragraphs.proofs.words.split_word.Goals as goal

pub split_at-requires : goal.split_at-requires
split_at-requires c =
    let begun = c.after_gaps-begun.result.now in
    let rest = c.after_word-rest.result.now in
    let cut = c.after_word-rest.ensures.cut in
    let parts : length begun ≡ length cut.word + length rest = ap length cut.parted ∙ length-append cut.word rest in
    let many : length cut.word ≡ length begun - length rest = omega (arith, parts) in
    subst (IsCharBoundary begun) many (IsCharBoundary-at_seam begun cut.word rest cut.parted c.after_word-rest.utf8)

pub returns-then-length-eq0-clause-word : goal.returns-then-length-eq0-clause-word
returns-then-length-eq0-clause-word c =
    no_word c.args.text.now c.after_gaps-begun.result.now c.after_word-rest.result.now c.after_gaps-begun.ensures.words c.after_gaps-begun.ensures.begins c.after_word-rest.ensures.cut c.after_word-rest.ensures.begins c.if-length-eq0.true

pub returns-clause-word : goal.returns-clause-word
returns-clause-word c =
    let begun = c.after_gaps-begun.result.now in
    let rest = c.after_word-rest.result.now in
    one_word c.args.text.now begun rest c.after_gaps-begun.ensures.words c.after_word-rest.ensures.cut c.after_word-rest.ensures.begins (omega (arith, c.if-length-eq0.false))
    ∙ ap (λ w. w ∷ words (drop (length begun - length rest) begun)) (sym c.split_at.ensures.front)
    ∙ ap (λ r. c.split_at.result.0.now ∷ words r) (sym c.split_at.ensures.back)

pub returns-clause-end : goal.returns-clause-end
returns-clause-end c =
    let begun = c.after_gaps-begun.result.now in
    let rest = c.after_word-rest.result.now in
    let at = length begun - length rest in
    let end = c.after_gaps-begun.ensures.end in
    let both : begun ≡ c.split_at.result.0.now ++ c.split_at.result.1.now =
    sym (take-append-drop at begun) ∙ ap (λ w. w ++ drop at begun) (sym c.split_at.ensures.front) ∙ ap (λ r. c.split_at.result.0.now ++ r) (sym c.split_at.ensures.back) in
    (end.0, end.1 ∙ ap (λ b. end.0 ++ b) both)

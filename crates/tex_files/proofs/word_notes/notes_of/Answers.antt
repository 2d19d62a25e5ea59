use Rattle.std.proofs.Common.{◌≡◌, ◌∙◌, ℕ, ◌+◌, List, ◌∷◌, drop, fold, map, take, ap, sym}
use Rattle.std.specs.Prelude.{reverse}
use Rattle.std.proofs.lemmas.List.Sums.{fold-append}
use Rattle.pattern_results.specs.Notes.{with_remark}
use Rattle.pattern_results.specs.declared.notes.Note.{Note}
use Rattle.tex_files.specs.Notes.{FileWord, all_letters, is_among, letters_in, remarks_after, remarks_on}
use Rattle.tex_files.specs.Private.Notes.{file_word}
use Rattle.tex_files.specs.declared.group.Group.{Group}
use Rattle.tex_files.specs.declared.group.Group.TheVariants.{Exceptions, Patterns}
use Rattle.tex_files.proofs.Noting.{before_more, one_and_after}
use Rattle.tex_files.proofs.word_notes.notes_of.Goals as goal

pub loop-pair-preserved : goal.loop-pair-preserved
loop-pair-preserved c =
    let words = c.deref-pair-items.result.now in
    let i = c.loop-pair.pair-index in
    let one = file_word c.pair-item.result in
    let before : List FileWord = reverse (map file_word (take i words)) in
    let after : List FileWord = map file_word (drop (i + 1) words) in
    let known : Group → List (List ℕ) = λ group. all_letters group before in
    let more = before_more words i c.pair-item.result c.loop-pair-test.true c.pair-item.is in
    let rest = one_and_after words i c.pair-item.result c.loop-pair-test.true c.pair-item.is in
    let own = remarks_on (record { file = one.file; line = one.word.line }) one.word (is_among (known one.word.group) (letters_in one.word)) in
    let noted = c.in_ok-note_word.ensures.noted known c.loop-pair.invariant.keys c.loop-pair.invariant.exceptions in
    record {
      keys = λ text.
          c.in_ok-note_word.ensures.keys (known Patterns) c.loop-pair.invariant.keys text
          ∙ ap (λ (words : List FileWord). is_among (all_letters Patterns words) text.items) (sym more);
      exceptions = λ text.
          c.in_ok-note_word.ensures.exceptions (known Exceptions) c.loop-pair.invariant.exceptions text
          ∙ ap (λ (words : List FileWord). is_among (all_letters Exceptions words) text.items) (sym more);
      noted =
          ap (λ (words : List FileWord). fold with_remark c.note_word.new.notes.items (remarks_after words after)) more
          ∙ ap (λ (notes : List Note). fold with_remark notes (remarks_after (one ∷ before) after)) noted
          ∙ sym (fold-append with_remark c.loop-pair.notes.items own (remarks_after (one ∷ before) after))
          ∙ sym (ap (λ (words : List FileWord). fold with_remark c.loop-pair.notes.items (remarks_after before words)) rest)
          ∙ c.loop-pair.invariant.noted;
    }

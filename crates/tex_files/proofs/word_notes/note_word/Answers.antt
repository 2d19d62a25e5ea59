use Rattle.std.proofs.Common.{◌≡◌, ◌∙◌, ◌==◌, ◌++◌, ℕ, List, filter, fold, length, not, ap, sym}
use Rattle.std.specs.Str.{bytes_eq}
use Rattle.std.proofs.lemmas.List.Sums.{fold-append}
use Rattle.std.proofs.lemmas.Result.{on_ok_weaker}
use Rattle.pattern_results.specs.Notes.{with_remark}
use Rattle.pattern_results.specs.declared.notes.Note.{Note}
use Rattle.pattern_results.specs.declared.notes.NoteKind.TheVariants.{Capital}
use Rattle.tex_files.specs.Notes.{group_remarks, is_among, letters_in, remark_if}
use Rattle.tex_files.specs.Private.Views.{word_view}
use Rattle.tex_files.specs.Spelling.{folded_text, says_place}
use Rattle.tex_files.proofs.word_notes.note_word.Goals as goal

pub returns-clause-noted : goal.returns-clause-noted
returns-clause-noted c =
    let word = word_view c.args.word.now in
    let notes = c.args.notes.now.items in
    let at = c.args.at in
    let capitals = c.ne-has_capitals.result in
    let folded_is : c.in_ok-folded.folded.items ≡ folded_text word.text = c.in_ok-folded.ensures ∙ ap folded_text c.deref.ensures.value in
    let letters_are : c.in_ok-letters.letters.items ≡ letters_in word =
    c.in_ok-letters.ensures ∙ ap (filter (λ (b : ℕ). not (says_place word.group b))) (c.deref-2.ensures.value ∙ folded_is) in
    let capitals_are : capitals ≡ not (bytes_eq (folded_text word.text) word.text) =
    c.ne-has_capitals.ensures ∙ (λ i. not (bytes_eq ((c.as_slice.ensures.value ∙ folded_is) i) (c.as_slice-2.ensures.value i))) in
    let without = c.are_as_long-without_values.result in
    let without_is : without ≡ (length (letters_in word) == length (folded_text word.text)) =
    c.are_as_long-without_values.ensures
    ∙ (λ i. length ((c.deref-3.ensures.value ∙ letters_are) i) == length ((c.deref-4.ensures.value ∙ folded_is) i)) in
    on_ok_weaker c.note_letters.result
    (λ noted known keys exceptions.
    noted known keys exceptions
    ∙ ap (λ (ns : List Note). fold with_remark ns (group_remarks word.group without at (is_among (known word.group) c.in_ok-letters.letters.items))) c.in_ok-note_if.ensures
    ∙ sym (fold-append with_remark notes (remark_if capitals Capital at) (group_remarks word.group without at (is_among (known word.group) c.in_ok-letters.letters.items)))
    ∙ (λ i. fold with_remark notes (remark_if (capitals_are i) Capital at ++ group_remarks word.group (without_is i) at (is_among (known word.group) (letters_are i)))))
    c.note_letters.ensures.noted

use Rattle.std.proofs.Common.{ap, fold, ◌∙◌}
use Rattle.std.proofs.lemmas.Option.{IfSome_then}
use Rattle.any_dictionary.specs.Dictionaries.{breaks_by, edited}
use Rattle.hyphenation_breaks.specs.Borrowed.{texts_now}
use Rattle.hyphenation_hyphenator.specs.Hyphenated.{hyphenated_text}
use Rattle.hyphenation.proofs.GivenDictionary.{output_given}
use Rattle.hyphenation.proofs.engine.text_run.run_text.Goals as goal

pub returns-clause-output : goal.returns-clause-output
returns-clause-output g c =
    let edits = c.args.marking.edits.now in
    let mark = c.args.marking.mark.now in
    let done = c.edit_all.new.dictionary in
    IfSome_then (g.D.Read.remaining c.args.reader.now) c.in_ok-dictionary.ensures.contents (λ bytes given. IfSome_then (g.I.Read.remaining c.args.input.now) c.in_ok-text.ensures.read (λ text read.
    c.in_ok-hyphenated.ensures
    ∙ ap (λ t. hyphenated_text (breaks_by done) mark t) (c.deref.ensures ∙ read)
    ∙ ap (λ d. hyphenated_text (breaks_by d) mark text) (c.in_ok-edit_all.ensures.done ∙ ap (λ d. fold edited d (texts_now edits)) given)
    ∙ output_given c.args.kind edits mark bytes text))

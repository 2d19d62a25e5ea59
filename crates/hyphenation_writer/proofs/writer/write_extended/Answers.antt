use Rattle.std.proofs.Common.{sym}
use Rattle.std.proofs.lemmas.Result.{IfOk-weaker}
use Rattle.hyphenation_grammar.specs.declared.form.Kind.TheVariants.{Extended}
use Rattle.hyphenation_writer.proofs.HoldsExactly.{extended_held, extended_holds}
use Rattle.hyphenation_writer.proofs.writer.write_extended.Goals as goal

pub returns-clause-accepted : goal.returns-clause-accepted
returns-clause-accepted c =
    IfOk-weaker c.write_text.result _ _ (λ text is. rw is (c.written_is_read_again.ensures.accepted Extended extended_held c.args.dictionary.now extended_holds c.invariant.ensures)) c.write_text.ensures

pub returns-clause-read_again : goal.returns-clause-read_again
returns-clause-read_again c =
    IfOk-weaker c.write_text.result _ _ (λ text is. rw is (sym (c.written_is_read_again.ensures.equal Extended extended_held c.args.dictionary.now extended_holds c.invariant.ensures))) c.write_text.ensures

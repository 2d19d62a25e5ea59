use Rattle.std.proofs.Common.{ap, subst, refl, inr, rules}
use Rattle.std.proofs.lemmas.Result.{err_from_is_err_and}
use Rattle.hyphenation_breaks.specs.Borrowed.{texts_now}
use Rattle.explain_command.proofs.Runs.{words_fail}
use Rattle.explain_command.specs.Explained.{ExplainsGiven}
use Rattle.explain_command.specs.Private.Requests.{parsed_request}
use Rattle.explain_command.proofs.run.run.Goals as goal

pub returns-in_err-text-clause-failure : goal.returns-in_err-text-clause-failure
returns-in_err-text-clause-failure g c =
    let p = err_from_is_err_and c.from_residual-in_err-text.result c.from_residual-in_err-text.ensures.1 in
    words_fail (parsed_request c.args.request.now) c.in_ok-dictionary.dictionary (g.F.NamedFiles.bytes c.args.files.now) c.args.folders.now
    (g.I.Read.remaining c.args.input.now) (texts_now c.deref.result.now) c.in_err-text.field-0.0 p.0 c.from_residual-in_err-text.result
    c.in_ok-dictionary.ensures.loaded (ap texts_now c.deref.ensures.value) c.in_err-text.ensures.failure p.1 p.2

pub returns-in-Ok-clause-written : goal.returns-in-Ok-clause-written
returns-in-Ok-clause-written g c = (
  c.in_ok-text.text.items,
  record {
    dictionary = c.in_ok-dictionary.dictionary;
    named = c.in_ok-dictionary.ensures.loaded;
    explained = subst (λ words. ExplainsGiven c.in_ok-dictionary.dictionary c.args.request.now.style (g.F.NamedFiles.bytes c.args.files.now)
        (g.I.Read.remaining c.args.input.now) (texts_now words) c.in_ok-text.text.items) c.deref.ensures.value c.in_ok-text.ensures.text;
  },
  search rules,
)

pub returns-clause-failure : goal.returns-clause-failure
returns-clause-failure g c = inr (inr (
  refl,
  (
    c.in_ok-text.text.items,
    record {
      dictionary = c.in_ok-dictionary.dictionary;
      named = c.in_ok-dictionary.ensures.loaded;
      explained = subst (λ words. ExplainsGiven c.in_ok-dictionary.dictionary c.args.request.now.style (g.F.NamedFiles.bytes c.args.files.now)
          (g.I.Read.remaining c.args.input.now) (texts_now words) c.in_ok-text.text.items) c.deref.ensures.value c.in_ok-text.ensures.text;
    },
  ),
))

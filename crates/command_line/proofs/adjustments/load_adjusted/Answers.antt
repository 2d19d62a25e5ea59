use Rattle.std.proofs.Common.{◌≡◌, ◌∙◌, ap, map, subst}
use Rattle.std.proofs.lemmas.Result.{IfErr-weaker, IfOk-weaker}
use Rattle.std.specs.String.{string_bytes}
use Rattle.hyphenation_breaks.specs.Borrowed.{texts_now}
use Rattle.command_line.specs.Adjustments.{as_adjustments, exception_paths_for, IsAdjusted, IsFailureOfAdjusting}
use Rattle.command_line.proofs.Adjusting.{adjusting_fails, own_cause}
use Rattle.command_line.proofs.adjustments.load_adjusted.Goals as goal

pub returns-clause-loaded : goal.returns-clause-loaded
returns-clause-loaded g c =
    let paths : map string_bytes c.deref.result.now ≡ exception_paths_for (texts_now c.args.folders.now) c.args.argument.now =
    ap (map string_bytes) c.deref.ensures.value ∙ c.in_ok-paths.ensures in
    IfOk-weaker c.adjust.result _ _
    (λ dictionary is. (
      c.in_ok-dictionary.dictionary,
      c.in_ok-dictionary.ensures.loaded,
      subst (λ all. IsAdjusted (g.F.NamedFiles.bytes c.args.files.now) all (as_adjustments c.args.adjustments.now) c.in_ok-dictionary.dictionary dictionary) paths is,
    ))
    c.adjust.ensures.adjusted

pub returns-clause-failure : goal.returns-clause-failure
returns-clause-failure g c =
    let paths : map string_bytes c.deref.result.now ≡ exception_paths_for (texts_now c.args.folders.now) c.args.argument.now =
    ap (map string_bytes) c.deref.ensures.value ∙ c.in_ok-paths.ensures in
    IfErr-weaker c.adjust.result _ _
    (λ failure is. adjusting_fails (g.F.NamedFiles.bytes c.args.files.now) (texts_now c.args.folders.now) c.args.argument.now (as_adjustments c.args.adjustments.now)
    c.in_ok-dictionary.dictionary failure c.in_ok-dictionary.ensures.loaded
    (subst (λ all. IsFailureOfAdjusting (g.F.NamedFiles.bytes c.args.files.now) all (as_adjustments c.args.adjustments.now) c.in_ok-dictionary.dictionary failure) paths is))
    c.adjust.ensures.failure

pub returns-clause-cause : goal.returns-clause-cause
returns-clause-cause g c =
    IfErr-weaker c.adjust.result _ _
    (λ failure is. own_cause (g.F.NamedFiles.bytes c.args.files.now) (map string_bytes c.deref.result.now) (as_adjustments c.args.adjustments.now)
    c.in_ok-dictionary.dictionary failure is)
    c.adjust.ensures.failure

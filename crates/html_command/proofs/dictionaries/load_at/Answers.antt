use Rattle.std.proofs.Common.{◌≡◌, ◌∙◌, ap, map, [], subst}
use Rattle.std.proofs.lemmas.Result.{IfErr-weaker, IfOk-weaker}
use Rattle.std.specs.String.{string_bytes}
use Rattle.command_line.specs.Adjustments.{as_adjustments, IsAdjusted, IsFailureOfAdjusting}
use Rattle.html_command.proofs.Refused.{list_at_path}
use Rattle.html_command.proofs.dictionaries.load_at.Goals as goal

pub returns-clause-loaded : goal.returns-clause-loaded
returns-clause-loaded g c =
    let none : map string_bytes c.deref.result.now ≡ [] = ap (map string_bytes) (c.deref.ensures.value ∙ c.new-no_lists.ensures.items) in
    IfOk-weaker c.adjust.result _ _
    (λ dictionary is. (
      c.in_ok-dictionary.dictionary,
      c.in_ok-dictionary.ensures.loaded,
      subst (λ all. IsAdjusted (g.F.NamedFiles.bytes c.args.files.now) all (as_adjustments c.args.adjustments.now) c.in_ok-dictionary.dictionary dictionary) none is,
    ))
    c.adjust.ensures.adjusted

pub returns-clause-failure : goal.returns-clause-failure
returns-clause-failure g c =
    let none : map string_bytes c.deref.result.now ≡ [] = ap (map string_bytes) (c.deref.ensures.value ∙ c.new-no_lists.ensures.items) in
    IfErr-weaker c.adjust.result _ _
    (λ failure is. list_at_path (g.F.NamedFiles.bytes c.args.files.now) (as_adjustments c.args.adjustments.now) c.args.path.now c.in_ok-dictionary.dictionary failure
    c.in_ok-dictionary.ensures.loaded
    (subst (λ all. IsFailureOfAdjusting (g.F.NamedFiles.bytes c.args.files.now) all (as_adjustments c.args.adjustments.now) c.in_ok-dictionary.dictionary failure) none is))
    c.adjust.ensures.failure

use Rattle.std.proofs.Common.{◌∙◌, ap}
use Rattle.tex_files.specs.Groups.{GroupScan}
use Rattle.tex_files.proofs.Skipping.{skipped, rest_later}
use Rattle.tex_files.proofs.laws.a_command_without_a_brace_is_skipped.Goals as goal

pub returns : goal.returns
returns c = record {
  rest = λ group before rest h free e b. (
    (skipped group before rest h free e b).0 ∙ ap (λ (f : GroupScan). f.words) (rest_later before rest),
    (skipped group before rest h free e b).1 ∙ ap (λ (f : GroupScan). f.fault) (rest_later before rest),
  );
}

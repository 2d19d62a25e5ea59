use Rattle.std.proofs.Common.{List, ℕ, ◌∙◌, subst}
use Rattle.std.specs.Prelude.{IfOk, Some}
use Rattle.c_calls.specs.Contents.{held_in}
use Rattle.c_calls.specs.TexFiles.{files_of, HoldsFiles}
use Rattle.c_calls.proofs.tex.load_patterns.Goals as goal

pub returns-clause-good : goal.returns-clause-good
returns-clause-good c = c.boxed_from_files.ensures.good

pub returns-clause-contents : goal.returns-clause-contents
returns-clause-contents c =
    subst (λ (l : List ℕ). IfOk c.boxed_from_files.result (λ boxed. HoldsFiles c.args.kind l c.args.minima.left c.args.minima.right (files_of c.args.form c.args.bytes c.args.exceptions) (Some (held_in boxed.value))))
    (c.in-Some.ensures.code ∙ c.in-Ok.ensures.cases.0) c.boxed_from_files.ensures.contents

pub returns-clause-no_dictionary : goal.returns-clause-no_dictionary
returns-clause-no_dictionary c = c.boxed_from_files.ensures.refused c.args.code.now

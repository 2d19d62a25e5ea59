use Rattle.std.proofs.Common.{◌≡◌, ℕ, ap, sym, ◌∙◌, subst}
use Rattle.std.specs.Prelude.{Option, Some, unwrap_or}
use Rattle.c_calls.specs.Contents.{Held}
use Rattle.c_calls.specs.TexFiles.{files_given, HoldsFiles}
use Rattle.c_calls.proofs.OfFiles.{of_files}
use Rattle.c_calls.proofs.tex.boxed_from_files.Goals as goal

pub returns-in-Ok-of_dictionary-clause-contents : goal.returns-in-Ok-of_dictionary-clause-contents
returns-in-Ok-of_dictionary-clause-contents c =
    let minima : ℕ × ℕ = c.in-Some.field-0 in
    let same : c.unwrap_or.result ≡ minima = c.unwrap_or.ensures ∙ ap (λ (found : Option (ℕ × ℕ)). unwrap_or found (0, 0)) c.in-Some.is in
    subst (λ (held : Held). HoldsFiles c.args.kind c.args.language c.args.minima.left c.args.minima.right c.args.files.now (Some held)) (sym c.in-Ok-of_dictionary.ensures)
    (of_files c.args.kind c.args.language c.args.minima.left c.args.minima.right minima c.args.files.now _
    (c.in-Ok.ensures.contents ∙ ap (λ (m : ℕ × ℕ). files_given c.args.kind c.args.language m c.args.files.now) same)
    (sym c.in-Some.ensures.exact) c.in-Some.ensures.left_if_given c.in-Some.ensures.right_if_given)

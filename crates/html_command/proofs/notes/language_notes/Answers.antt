use Rattle.std.proofs.Common.{◌≡◌, ◌∙◌, ◌∷◌, ℕ, List, ap, map, subst}
use Rattle.std.specs.Prelude.{IfOk}
use Rattle.std.specs.String.{string_bytes}
use Rattle.html_command.specs.Notes.{language_notes}
use Rattle.html_command.proofs.notes.language_notes.Goals as goal

pub returns : goal.returns
returns c =
    subst (λ (tags : List (List ℕ)). IfOk c.notes_on_languages.result (λ notes. notes.items ≡ language_notes c.args.dictionaries.now (c.args.language.now ∷ tags)))
    (ap (map string_bytes) c.deref.ensures.value ∙ c.in_ok-languages.ensures) c.notes_on_languages.ensures

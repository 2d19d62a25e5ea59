use Rattle.std.proofs.Common.{◌≡◌, ◌∷◌, [], drop, map}
use Rattle.std.specs.String.{string_bytes}
use Rattle.html_command.specs.Notes.{with_languages}
use Rattle.html_command.proofs.notes.notes_on_languages.Given as goal

-- The notes so far, with those on the languages to come, are those on all languages.
abbrev pub invariant-loop-tag : goal.invariant-loop-tag
invariant-loop-tag l =
    with_languages l.dictionaries l.notes.items (map string_bytes (drop l.tag-index l.languages))
    ≡ with_languages l.dictionaries [] (l.language ∷ map string_bytes l.languages)

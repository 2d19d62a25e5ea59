use Rattle.std.proofs.Common.{◌≡◌, ◌+◌, map, take, drop, fold}
use Rattle.any_dictionary.specs.Dictionaries.{edited, kind_by}
use Rattle.hyphenation_reader.specs.Edits.{first_refused_from, first_refused}
use Rattle.hyphenation.proofs.engine.text_run.edit_all.Given as goal

abbrev pub invariant-loop-index : goal.invariant-loop-index
invariant-loop-index l =
    (l.dictionary ≡ fold edited l.initial.dictionary (map (λ edit. edit.now) (take l.index l.edits)))
    × (kind_by l.dictionary ≡ kind_by l.initial.dictionary)
    × (first_refused_from (kind_by l.initial.dictionary) (l.index + 1) (map (λ edit. edit.now) (drop l.index l.edits)) ≡ first_refused (kind_by l.initial.dictionary) (map (λ edit. edit.now) l.edits))

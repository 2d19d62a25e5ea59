use Rattle.std.proofs.Common.{◌≡◌, ◌++◌, map}
use Rattle.std.specs.Vec.Iter.{into_iter_items}
use Rattle.tex_files.specs.Private.Notes.{file_word}
use Rattle.tex_files.proofs.word_notes.push_all.Given as goal

abbrev pub invariant-loop-word : goal.invariant-loop-word
invariant-loop-word l =
    map file_word l.all.items ++ map (λ word. file_word (l.number, word)) (into_iter_items l.word-iterator)
    ≡ map file_word l.initial.all.items ++ map (λ word. file_word (l.number, word)) (into_iter_items l.initial.word-iterator)

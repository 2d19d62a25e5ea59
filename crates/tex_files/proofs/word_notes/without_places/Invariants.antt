use Rattle.std.proofs.Common.{◌≡◌, filter, not, take}
use Rattle.tex_files.specs.Spelling.{says_place}
use Rattle.tex_files.proofs.word_notes.without_places.Given as goal

abbrev pub invariant-loop-byte : goal.invariant-loop-byte
invariant-loop-byte l = l.letters.items ≡ filter (λ b. not (says_place l.group b)) (take l.byte-index l.text)

use Rattle.std.proofs.Common.{◌≡◌, ◌++◌, drop, map}
use Rattle.tex_files.specs.Notes.{words_from}
use Rattle.tex_files.specs.Private.Notes.{file_word}
use Rattle.tex_files.proofs.word_notes.words_in.Given as goal

abbrev pub invariant-loop-file : goal.invariant-loop-file
invariant-loop-file l = record {
  number : l.number ≡ l.file-index;
  words : map file_word l.all.items ++ words_from l.number (drop l.file-index l.files) ≡ words_from 0 l.files;
}

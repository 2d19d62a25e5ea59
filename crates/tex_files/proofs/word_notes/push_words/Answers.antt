use Rattle.std.proofs.Common.{◌≡◌, ◌∙◌, List, ◌++◌, ap, map, sym}
use Rattle.std.proofs.lemmas.List.{append-nil}
use Rattle.std.proofs.lemmas.Result.{on_ok_weaker}
use Rattle.tex_files.specs.Converting.{words_of}
use Rattle.tex_files.specs.Groups.{GroupWord}
use Rattle.tex_files.specs.Notes.{FileWord}
use Rattle.tex_files.specs.Private.Notes.{file_word}
use Rattle.tex_files.proofs.Noting.{viewed}
use Rattle.tex_files.proofs.word_notes.push_words.Goals as goal

pub returns : goal.returns
returns c =
    let number = c.args.number in
    let one : GroupWord → FileWord = λ word. record { file = number; word = word } in
    let file_has = words_of c.args.file.now.form c.args.file.now.bytes.now in
    on_ok_weaker c.push_all.result
    (λ pushed.
    pushed
    ∙ ap (λ (words : List FileWord). map file_word c.args.all.now.items ++ words)
    (viewed number c.in_ok-words.words.items ∙ ap (map one) c.in_ok-words.ensures.words ∙ sym (append-nil (map one file_has))))
    c.push_all.ensures

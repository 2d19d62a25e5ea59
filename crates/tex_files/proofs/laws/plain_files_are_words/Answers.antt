use Rattle.std.proofs.Common.{◌∙◌, ap, List}
use Rattle.tex_files.specs.Groups.{FilePiece, pieces_of}
use Rattle.tex_files.proofs.Lexing.{pieces-lex}
use Rattle.tex_files.proofs.Grouping.{plain-picked, picked}
use Rattle.tex_files.proofs.Between.{words-inside}
use Rattle.tex_files.proofs.laws.plain_files_are_words.Goals as goal

pub returns : goal.returns
returns c = record {
  words = λ group text i. plain-picked group (pieces_of text) ∙ ap (λ (ps : List FilePiece). picked group ps) (pieces-lex text) ∙ words-inside group 1 text i;
}

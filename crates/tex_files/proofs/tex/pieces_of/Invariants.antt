use Rattle.std.proofs.Common.{◌≡◌, ◌≤◌, ◌+◌, fold, drop}
use Rattle.tex_files.specs.Groups.{with_byte, nothing_lexed}
use Rattle.tex_files.specs.Private.Views.{lexer_view}
use Rattle.tex_files.proofs.tex.pieces_of.Given as goal

abbrev pub invariant-loop-b : goal.invariant-loop-b
invariant-loop-b l = record {
  read : fold with_byte (lexer_view l.lexer) (drop l.b-index l.bytes) ≡ fold with_byte nothing_lexed l.bytes;
  lines : l.lexer.line ≤ 1 + l.b-index;
}

-- The values of private structs in the words of the definitions, and the errors of reading a word.
use Rattle.std.specs.Prelude.{map, Option, Some, ◌≡◌}
use Rattle.tex_files.specs.ExceptionLists as lists
use Rattle.tex_files.specs.Groups as groups
use Rattle.tex_files.specs.Groups.{Lexed, GroupScan, GroupWord}
use Rattle.tex_files.specs.declared.exception_list.ListScan.{ListScan}
use Rattle.tex_files.specs.declared.tex.Lexer.{Lexer}
use Rattle.tex_files.specs.declared.tex.FilePiece.{FilePiece}
use Rattle.tex_files.specs.declared.tex.Scan.{Scan}
use Rattle.tex_files.specs.declared.group.Word.{Word}
use Rattle.pattern_results.specs.declared.errors.FileCause.{FileCause}
use Rattle.tex_files.specs.declared.word_error.WordError.TheVariants.{Fails, Memory}
use Rattle.tex_files.specs.declared.word_error.WordError.{WordError}
use Rattle.pattern_results.specs.declared.errors.FileError.TheVariants.{Memory}

-- A word in the words of the definitions.
abbrev pub word_view : Word → GroupWord
word_view word = record { line = word.line; group = word.group; text = word.text.items }

-- A piece in the words of the definitions.
abbrev pub piece_view : FilePiece → groups.FilePiece
piece_view piece = record { line = piece.line; text = piece.text.items }

-- A reader in the words of the definitions.
abbrev pub lexer_view : Lexer → Lexed
lexer_view lexer = record {
  line = lexer.line;
  in_comment = lexer.in_comment;
  pieces = map piece_view lexer.pieces.items;
  last = lexer.last.items;
}

-- A scan in the words of the definitions.
abbrev pub scan_view : Scan → GroupScan
scan_view scan = record {
  words = map word_view scan.words.items;
  place = scan.place;
  at_end = scan.at_end;
  fault = scan.fault;
}

-- A scan of a list in the words of the definitions.
abbrev pub list_view : ListScan → lists.ListScan
list_view scan = record { words = map piece_view scan.words.items; place = scan.place; fault = scan.fault }

-- An error of a word: out of memory, or the test that it fails.
abbrev pub IsWordError : WordError → Option FileCause → Type 0
IsWordError Memory cause = Unit {0}
IsWordError (Fails c) cause = cause ≡ Some c

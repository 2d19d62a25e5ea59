use Rattle.std.proofs.Common.{◌≡◌, ◌∙◌, ap, sym, List, ℕ, fold, [], false}
use Rattle.std.proofs.lemmas.List.{append-nil}
use Rattle.tex_files.specs.Groups.{GroupScan, FilePiece, pieces_of, with_piece, nothing_scanned}
use Rattle.tex_files.specs.TexFiles.{IsOutside}
use Rattle.tex_files.specs.declared.group.Place.TheVariants.{Outside}
use Rattle.tex_files.proofs.Lexing.{lex, pieces-lex}
use Rattle.tex_files.proofs.Grouping.{found_at, closed}
use Rattle.tex_files.proofs.Between.{passed}
use Rattle.tex_files.proofs.laws.nothing_is_read_outside_of_groups.Goals as goal

nothing : (text : List ℕ) → IsOutside text → fold with_piece nothing_scanned (pieces_of text) ≡ found_at [] Outside
nothing text h = ap (λ (ps : List FilePiece). fold with_piece nothing_scanned ps) (pieces-lex text ∙ sym (append-nil (lex 1 false [] text))) ∙ passed text [] h

pub returns : goal.returns
returns c = record {
  words = λ text h. ap (λ (f : GroupScan). (closed f).words) (nothing text h);
  fault = λ text h. ap (λ (f : GroupScan). (closed f).fault) (nothing text h);
}

use Rattle.std.proofs.Common.{◌≡◌, fold, drop, map}
use Rattle.tex_files.specs.ExceptionLists.{with_list_piece, nothing_listed}
use Rattle.tex_files.specs.Private.Views.{list_view, piece_view}
use Rattle.tex_files.proofs.exception_list.scan_pieces.Given as goal

abbrev pub invariant-loop-piece : goal.invariant-loop-piece
invariant-loop-piece l = fold with_list_piece (list_view l.scan) (map piece_view (drop l.piece-index l.pieces)) ≡ fold with_list_piece nothing_listed (map piece_view l.pieces)

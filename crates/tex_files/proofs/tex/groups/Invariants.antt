use Rattle.std.proofs.Common.{◌≡◌, fold, drop, map}
use Rattle.tex_files.specs.Groups.{with_piece, nothing_scanned}
use Rattle.tex_files.specs.Private.Views.{scan_view, piece_view}
use Rattle.tex_files.proofs.tex.groups.Given as goal

abbrev pub invariant-loop-piece : goal.invariant-loop-piece
invariant-loop-piece l = fold with_piece (scan_view l.scan) (map piece_view (drop l.piece-index l.pieces)) ≡ fold with_piece nothing_scanned (map piece_view l.pieces)

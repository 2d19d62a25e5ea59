use Rattle.std.proofs.Common.{◌≡◌, fold, drop, map, []}
use Rattle.tex_files.specs.Groups.{with_plain}
use Rattle.tex_files.specs.Private.Views.{piece_view, word_view}
use Rattle.tex_files.proofs.tex.plain_words.Given as goal

abbrev pub invariant-loop-piece : goal.invariant-loop-piece
invariant-loop-piece l = fold (with_plain l.group) (map word_view l.words.items) (map piece_view (drop l.piece-index l.pieces)) ≡ fold (with_plain l.group) [] (map piece_view l.pieces)

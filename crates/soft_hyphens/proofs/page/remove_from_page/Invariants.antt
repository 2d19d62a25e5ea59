use Rattle.std.specs.Prelude.{◌≡◌, ◌++◌, map, drop}
use Rattle.std.specs.List.{concat}
use Rattle.std.specs.String.{string_bytes}
use Rattle.html_pieces.specs.Pieces.{as_piece}
use Rattle.soft_hyphens.specs.Removed.{removed_page, removed_piece}
use Rattle.soft_hyphens.proofs.page.remove_from_page.Given as goal

-- The pieces so far, and those to come, are all pieces of the page.
abbrev pub invariant-loop-piece : goal.invariant-loop-piece
invariant-loop-piece l =
    string_bytes l.rest ++ concat (map removed_piece (map as_piece (drop l.piece-index l.piece-items))) ≡ removed_page l.page

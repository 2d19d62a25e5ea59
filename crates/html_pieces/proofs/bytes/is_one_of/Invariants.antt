use Rattle.std.proofs.Common.{◌≡◌, map, drop}
use Rattle.html_pieces.specs.Bytes as specs
use Rattle.html_pieces.proofs.bytes.is_one_of.Given as goal

abbrev pub invariant-loop-other : goal.invariant-loop-other
invariant-loop-other l =
    specs.is_one_of (map (λ other. other.now) (drop l.other-index l.table)) l.name ≡ specs.is_one_of (map (λ other. other.now) l.table) l.name

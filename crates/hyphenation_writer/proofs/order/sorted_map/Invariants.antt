use Rattle.std.proofs.Common.{◌≡◌, ◌-◌, length, drop}
use Rattle.hyphenation_dictionary.specs.Parts.{pair_views}
use Rattle.hyphenation_writer.specs.Private.Ordered.{in_byte_order}
use Rattle.hyphenation_writer.proofs.order.sorted_map.Given as goal

abbrev pub invariant-loop-index : goal.invariant-loop-index
invariant-loop-index g l = pair_views l.found.entries ≡ in_byte_order (pair_views (drop (length l.pairs - l.index) l.pairs))

use Rattle.std.proofs.Common.{◌≡◌, ◌++◌}
use Rattle.hyphenation_dictionary.specs.Parts.{pair_views}
use Rattle.hyphenation_writer.specs.Private.Ordered.{in_byte_order}
use Rattle.hyphenation_writer.proofs.order.in_order.Given as goal

abbrev pub invariant-loop-text : goal.invariant-loop-text
invariant-loop-text g l = pair_views l.sorted.items ++ pair_views l.text-iterator ≡ in_byte_order (pair_views l.pairs)

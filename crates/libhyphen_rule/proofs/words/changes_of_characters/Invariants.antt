use Rattle.std.proofs.Common.{◌≡◌, map, None}
use Rattle.std.specs.Prelude.{filter, option_map, slice_index_or}
use Rattle.std.specs.List.{range_with_len}
use Rattle.libhyphen_rule.specs.Found.{placed_all}
use Rattle.libhyphen_rule.specs.Words.{change_in_characters, is_last}
use Rattle.libhyphen_rule.proofs.words.changes_of_characters.Given as goal

abbrev pub invariant-loop-byte : goal.invariant-loop-byte
invariant-loop-byte l =
    placed_all l.found.items
    ≡ map (λ byte. option_map (change_in_characters l.text byte) (slice_index_or (placed_all l.changes) byte None))
    (filter (is_last l.word) (range_with_len 0 l.byte))

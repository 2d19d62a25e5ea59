use Rattle.std.proofs.Common.{◌≡◌, map}
use Rattle.std.specs.Prelude.{filter, slice_index}
use Rattle.std.specs.List.{range_with_len}
use Rattle.libhyphen_rule.specs.Words.{is_last}
use Rattle.libhyphen_rule.proofs.words.digits_of_characters.Given as goal

abbrev pub invariant-loop-byte : goal.invariant-loop-byte
invariant-loop-byte l =
    l.found.items ≡ map (λ byte. slice_index l.digits byte) (filter (is_last l.word) (range_with_len 0 l.byte))

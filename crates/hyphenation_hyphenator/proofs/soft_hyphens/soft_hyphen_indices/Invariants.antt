use Rattle.std.specs.Str.Iter.{char_indices_rest, char_indices_offset}
use Rattle.hyphenation_hyphenator.proofs.SoftHyphens.{Searching}
use Rattle.hyphenation_hyphenator.proofs.soft_hyphens.soft_hyphen_indices.Given as goal

abbrev pub invariant-loop-place : goal.invariant-loop-place
invariant-loop-place l = record {
  can : (goal.iterator-loop-place).can_next l.place-iterator;
  finite : (goal.iterator-loop-place).is_finite l.place-iterator;
  holds : Searching l.word (char_indices_rest l.place-iterator) (char_indices_offset l.place-iterator) l.places.items;
}

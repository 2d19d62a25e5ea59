use Rattle.std.proofs.Common.{◌≡◌, ◌+◌, length, map, take}
use Rattle.std.specs.List.{range_with_len}
use Rattle.any_dictionary.specs.Dictionaries.{all_places_by}
use Rattle.c_calls.specs.Lists.{places_of_all}
use Rattle.c_calls.proofs.lists.places_of_words.Given as goal

abbrev pub invariant-loop-word : goal.invariant-loop-word
invariant-loop-word l = record {
  places : l.places.items ≡ places_of_all (all_places_by l.dictionary) (take l.word-index (map (λ word. word.now) l.words));
  ends : l.ends.items ≡ map (λ n. length (places_of_all (all_places_by l.dictionary) (take (n + 1) (map (λ word. word.now) l.words)))) (range_with_len 0 l.word-index);
}

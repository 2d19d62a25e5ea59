use Rattle.std.proofs.Common.{◌≡◌, ℕ, ◌+◌, ◌<◌, List, [], ◌∷◌, ◌++◌, Bor, length, map, take, ap, ◌∙◌, arith}
use Rattle.std.proofs.lemmas.List.{length-map}
use Rattle.any_dictionary.specs.Dictionaries.{all_places_by}
use Rattle.c_calls.specs.Lists.{places_of_all}
use Rattle.c_calls.proofs.WordLists.{places_more, ends_more, word_read}
use Rattle.c_calls.proofs.lists.places_of_words.Goals as goal

pub loop-word-preserved : goal.loop-word-preserved
loop-word-preserved c =
    let f = all_places_by c.args.dictionary.now in
    let now = λ (word : Bor (List ℕ)). word.now in
    let words = map now c.args.words.now in
    let n = c.loop-word.word-index in
    let lt : n < length c.args.words.now = omega (arith, c.loop-word-test.true) in
    let lt_words : n < length words = omega (arith, length-map c.args.words.now now) in
    let places : c.extend_from_slice.new.self.items ≡ places_of_all f (take (n + 1) words) =
    c.in_ok-extend_from_slice.ensures.items
    ∙ places_more f words n _ c.loop-word.places.items c.deref.result.now lt_words (word_read now c.args.words.now n _ _ lt) c.loop-word.invariant.places (c.deref.ensures.value ∙ c.in_ok-places_into.ensures.places) in
    let size : c.len.result ≡ length c.extend_from_slice.new.self.items = omega (arith, c.len.ensures, c.extend_from_slice.new.self.ok.0) in
    record {
      places = places;
      ends = c.in_ok-push.ensures.items ∙ ap (λ (k : ℕ). c.loop-word.ends.items ++ k ∷ []) size
          ∙ ends_more f words n c.extend_from_slice.new.self.items c.loop-word.ends.items places c.loop-word.invariant.ends;
    }

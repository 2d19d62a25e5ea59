-- The tag of each listed word's slot stands for the word.
use Rattle.std.proofs.Common.{◌≡◌, ℕ, true, List, length, sym, ap, ◌∙◌, replicate, arith}
use Rattle.std.specs.List.{slice_index}
use Rattle.std.specs.Ordering.{nat_cmp}
use Rattle.std.specs.Cmp.Lexicographic.{slice_cmp}
use Rattle.std.specs.FinMap as finite
use Rattle.std.specs.FinMap.{get-empty}
use Rattle.std.proofs.lemmas.List.{length-replicate}
use Rattle.hyphenation_breaks.specs.Dictionary.{TextMap}
use Rattle.hyphenation_dictionary.specs.Private.Slots.{slot_count, hash_of, slot_of, tag_of, stands_for, StandForNoLess, AreTagged}
use Rattle.hyphenation_dictionary.proofs.TextMaps.{inserted, removed}

pub none_tagged : {X : Type 0} (tags : List ℕ) (words : TextMap X) → tags ≡ replicate slot_count 0 → words ≡ finite.empty → AreTagged tags words
none_tagged tags words is none = record {
  tags_len = ap length is ∙ length-replicate {A = ℕ} slot_count 0;
  tag_stands = λ word listed has. let no = sym (get-empty (slice_cmp nat_cmp) word) ∙ ap (λ m. finite.get m word) (sym none) ∙ has in absurd cc;
}

pub tagged_after_insert : {X : Type 0} (old new : List ℕ) (words : TextMap X) (word : List ℕ) (listed : X) → AreTagged old words → length new ≡ length old
    → stands_for (slice_index new (slot_of (hash_of word))) (tag_of (hash_of word)) ≡ true
    → StandForNoLess old new
    → AreTagged new (finite.insert words word listed)
tagged_after_insert old new words word listed are len here others = record {
  tags_len = len ∙ are.tags_len;
  tag_stands = inserted (λ q x. stands_for (slice_index new (slot_of (hash_of q))) (tag_of (hash_of q)) ≡ true) words word listed (λ q x has. others (slot_of (hash_of q)) (tag_of (hash_of q)) (omega arith) (are.tag_stands q x has)) here;
}

pub tagged_after_remove : {X : Type 0} (tags : List ℕ) (words : TextMap X) (word : List ℕ) → AreTagged tags words → AreTagged tags (finite.remove words word)
tagged_after_remove tags words word are = record {
  tags_len = are.tags_len;
  tag_stands = removed (λ q x. stands_for (slice_index tags (slot_of (hash_of q))) (tag_of (hash_of q)) ≡ true) words word are.tag_stands;
}

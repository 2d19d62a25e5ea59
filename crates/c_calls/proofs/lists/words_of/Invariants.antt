use Rattle.std.proofs.Common.{◌≡◌, ℕ, ◌<◌, ◌≤◌, length, map}
use Rattle.std.specs.Prelude.{slice_index}
use Rattle.std.specs.List.{range_with_len}
use Rattle.std.specs.Str.{IsUtf8}
use Rattle.c_calls.specs.Lists.{begin_of, word_at}
use Rattle.c_calls.proofs.lists.words_of.Given as goal

abbrev pub invariant-loop-end : goal.invariant-loop-end
invariant-loop-end l = record {
  words : map (λ word. word.now) l.words.items ≡ map (word_at l.text l.ends) (range_with_len 0 l.end-index);
  begin : l.begin ≡ begin_of l.ends l.end-index;
  ends : (number : ℕ) → number < l.end-index → (begin_of l.ends number ≤ slice_index l.ends number) × (slice_index l.ends number ≤ length l.text);
  utf8 : (number : ℕ) → number < l.end-index → IsUtf8 (word_at l.text l.ends number);
}

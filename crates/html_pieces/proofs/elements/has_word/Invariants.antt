use Rattle.std.proofs.Common.{◌≡◌, ◌≤◌, drop, slice_range}
use Rattle.html_pieces.specs.Elements.{has_word, has_word_from}
use Rattle.html_pieces.proofs.elements.has_word.Given as goal

abbrev pub invariant-loop-i : goal.invariant-loop-i
invariant-loop-i l = record {
  started : l.start ≤ l.i;
  told : has_word_from l.word (slice_range l.text l.start l.i) (drop l.i l.text) ≡ has_word l.word l.text;
}

use Rattle.std.proofs.Common.{◌≡◌, map, drop}
use Rattle.text_words.specs.Names as specs
use Rattle.text_words.proofs.names.has_end_of.Given as goal

abbrev pub invariant-loop-ending : goal.invariant-loop-ending
invariant-loop-ending l = specs.has_end_of l.text (map (λ ending. ending.now) (drop l.ending-index l.endings)) ≡ specs.has_end_of l.text (map (λ ending. ending.now) l.endings)

use Rattle.std.proofs.Common.{ℕ, max, ap, ◌∙◌}
use Rattle.std.specs.Prelude.{slice_index}
use Rattle.libhyphen_rule.proofs.plain_words.passed_vector.Goals as goal

pub returns-clause-takes : goal.returns-clause-takes
returns-clause-takes c = record {
  lanes = c.greater-last.ensures.lanes;
  seen_lanes = c.greater.ensures.lanes;
  each = λ lane lt. c.greater-last.ensures.each lane lt ∙ ap (λ (k : ℕ). max k (slice_index c.args.vector.now lane)) (c.moved.ensures.each lane lt);
  seen = c.greater.ensures.each;
  written = c.store.ensures.written;
  before = c.store.ensures.before;
}

use Rattle.std.proofs.Common.{◌≡◌, ◌&&◌, eqb, not, slice_index, arith}
use Rattle.hyphenation_grammar.specs.Parsed.{pattern_view}
use Rattle.hyphenation_grammar.proofs.PatternBytes.{byte_more, then_after, else_after}
use Rattle.hyphenation_grammar.proofs.pattern.read_pattern.Goals as goal
use Rattle.hyphenation_grammar.proofs.pattern.read_pattern.Goals.{then-not-after, else-not-after}

pub loop-byte-preserved : goal.loop-byte-preserved
loop-byte-preserved c =
    let token = c.args.token.now in
    let i = c.loop-byte.byte-index in
    let after = c.loop-byte.after in
    let next : c.if-not-after.after ≡ (not after && eqb (slice_index token i) 92) = elim c.if-not-after.branch [
      | then-not-after w ↦ then_after after c.if-not-after.after (eqb (slice_index token i) 92) w.if-not-after.true w.after-is
      | else-not-after w ↦ else_after after c.if-not-after.after (eqb (slice_index token i) 92) w.if-not-after.false w.after-is
    ] in
    byte_more c.args.version token i after c.if-not-after.after c.in_ok-read.field-0 (pattern_view c.loop-byte.pattern) (pattern_view c.read.new.self) _ (omega arith) next c.if-not-branch.false c.in_ok-read.ensures c.loop-byte.invariant

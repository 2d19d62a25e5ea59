use Rattle.std.proofs.Common.{◌≡◌, ◌+◌, true, sym, ◌∙◌, arith, slice_index}
use Rattle.std.specs.Char.{is_ascii_lowercase}
use Rattle.hyphenation_hyphenator.proofs.CommonLowercase.{two_letters_go_on}
use Rattle.hyphenation_hyphenator.proofs.case_folding.are_common_lowercase_in_turn.Goals as goal

pub loop-at-preserved-then-is_ascii_lowercase-2 : goal.loop-at-preserved-then-is_ascii_lowercase-2
loop-at-preserved-then-is_ascii_lowercase-2 c =
    let bytes = c.args.bytes.now in
    let at = c.loop-at.at in
    let first : is_ascii_lowercase (slice_index bytes at) ≡ true = sym c.is_ascii_lowercase.ensures.value ∙ c.if-is_ascii_lowercase.true in
    let second : is_ascii_lowercase (slice_index bytes (at + 1)) ≡ true = sym c.is_ascii_lowercase-then-is_ascii_lowercase.ensures.value ∙ c.if-is_ascii_lowercase-2.true in
    record {
      within = omega arith;
      same = c.loop-at.invariant.same ∙ two_letters_go_on bytes at (omega arith) first second;
    }

use Rattle.std.proofs.Common.{◌≡◌, ◌-◌, ◌<◌, length, slice_index, subst, rules, arith}
use Rattle.std.proofs.lemmas.Option.{same_Some}
use Rattle.word_pieces.specs.declared.kinds.ByteKind.TheVariants.{Letter, Space}
use Rattle.word_pieces.specs.Private.Kinds.{kind_of_byte}
use Rattle.word_pieces.specs.Private.Walks.{IsBoundBetween}
use Rattle.word_pieces.proofs.Bounds.{IsPlainBound-space_letter}
use Rattle.word_pieces.proofs.ascii.bound_before_letter.Goals as goal

pub returns-then-is_space_then_letter : goal.returns-then-is_space_then_letter
returns-then-is_space_then_letter c x same =
    let s = c.args.text.now in
    let at = c.bytes.at in
    let after : c.args.from < at = search rules in
    let some : 0 < at = search (rules, arith) in
    let inside : at < length s = search rules in
    let space : kind_of_byte (slice_index s (at - 1)) ≡ Space = search rules in
    let letter : kind_of_byte (slice_index s at) ≡ Letter = search rules in
    subst (IsBoundBetween s c.args.from c.args.to) (same_Some _ _ same)
    (IsPlainBound-space_letter s c.utf8.text at some inside space letter, after, c.bytes.invariant.0, inside)

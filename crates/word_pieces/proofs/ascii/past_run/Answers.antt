use Rattle.std.proofs.Common.{◌≡◌, ◌<◌, length, slice_index, rules}
use Rattle.word_pieces.specs.declared.kinds.ByteKind.TheVariants.{Letter}
use Rattle.word_pieces.specs.Private.Kinds.{kind_of_byte}
use Rattle.word_pieces.proofs.PlainWalks.{IsRun-more}
use Rattle.word_pieces.proofs.ascii.past_run.Goals as goal

pub bytes-preserved : goal.bytes-preserved
bytes-preserved c =
    let inside : c.bytes.at < length c.args.bytes.now = search rules in
    let here : kind_of_byte (slice_index c.args.bytes.now c.bytes.at) ≡ Letter = search rules in
    IsRun-more _ _ _ c.bytes.invariant inside here

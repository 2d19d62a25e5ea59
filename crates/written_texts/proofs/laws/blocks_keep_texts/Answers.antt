use Rattle.written_texts.proofs.Seen.{texts_kept}
use Rattle.written_texts.proofs.laws.blocks_keep_texts.Goals as goal

pub returns : goal.returns
returns c = texts_kept

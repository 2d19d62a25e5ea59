use Rattle.written_texts.proofs.Prose.{prose_alike}
use Rattle.written_texts.proofs.laws.prose_is_filled_alike.Goals as goal

pub returns : goal.returns
returns c = prose_alike

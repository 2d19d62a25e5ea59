use Rattle.soft_hyphens.proofs.Back.{text_comes_back}
use Rattle.soft_hyphens.proofs.laws.text_comes_back.Goals as goal

pub returns : goal.returns
returns c = text_comes_back c.marked_segments_join.ensures

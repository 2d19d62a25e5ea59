use Rattle.soft_hyphens.proofs.Back.{marks_come_out}
use Rattle.soft_hyphens.proofs.laws.marks_come_out.Goals as goal

pub returns : goal.returns
returns c = marks_come_out c.marked_segments_join.ensures

use Rattle.html_pieces.proofs.NamesEqual.{other_length}
use Rattle.html_pieces.proofs.bytes.is_same_name.Goals as goal

pub returns-then-a-b : goal.returns-then-a-b
returns-then-a-b c = other_length c.args.a.now c.args.b.now c.if-a-b.true

use Rattle.std.proofs.Common.{map}
use Rattle.std.specs.Char.{to_ascii_lowercase}
use Rattle.html_pieces.specs.Bytes.{is_same_name}
use Rattle.html_pieces.proofs.NamesEqual.{told_by_pointwise}
use Rattle.html_pieces.proofs.bytes.is_same_by_letters.Goals as goal

pub returns : goal.returns
unfolding is_same_name
returns c = told_by_pointwise _ (map to_ascii_lowercase c.args.a.now) (map to_ascii_lowercase c.args.b.now) c.eq_ignore_ascii_case.ensures.test

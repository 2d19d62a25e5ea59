use Rattle.std.proofs.Common.{rules}
use Rattle.std.proofs.lemmas.Str.{chars_from_encodes}
use Rattle.callers.proofs.line_filler.leaves_room.Goals as goal

pub returns : goal.returns
returns c = search (rules, chars_from_encodes)

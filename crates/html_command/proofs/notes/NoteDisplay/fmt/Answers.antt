use Rattle.std.proofs.Common.{subst, sym}
use Rattle.std.specs.Fmt.{HasWritten}
use Rattle.html_command.specs.Notes.{words_of}
use Rattle.html_command.proofs.notes.NoteDisplay.fmt.Goals as goal

pub returns-in-OtherVariety-clause-writes : goal.returns-in-OtherVariety-clause-writes
returns-in-OtherVariety-clause-writes g c plain ok =
    subst (λ note. HasWritten {W = g.row.W.Denot} g.W.Write.write_str_gives c.args.f.now (words_of note) c.write-in-OtherVariety.new.self)
    (sym c.in-OtherVariety.is) (c.write-in-OtherVariety.ensures.writes plain ok)

pub returns-in-LeftAlone-clause-writes : goal.returns-in-LeftAlone-clause-writes
returns-in-LeftAlone-clause-writes g c plain ok =
    subst (λ note. HasWritten {W = g.row.W.Denot} g.W.Write.write_str_gives c.args.f.now (words_of note) c.write-in-LeftAlone.new.self)
    (sym c.in-LeftAlone.is) (c.write-in-LeftAlone.ensures.writes plain ok)

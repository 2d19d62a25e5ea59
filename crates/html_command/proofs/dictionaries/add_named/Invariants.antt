use Rattle.std.proofs.Common.{◌∷◌, map, take}
use Rattle.std.specs.String.{string_bytes}
use Rattle.command_line.specs.Adjustments.{as_adjustments}
use Rattle.hyphenation_breaks.specs.Borrowed.{texts_now}
use Rattle.html_command.specs.Dictionaries.{AddsFound, AreServed, code_of}
use Rattle.html_command.specs.Private.Found.{AreFirst}
use Rattle.html_command.proofs.dictionaries.add_named.Given as goal

-- The dictionaries so far are found for the tags, and the tags so far are served. The others are the first.
abbrev pub invariant-loop-named : goal.invariant-loop-named
invariant-loop-named g l =
    AddsFound (g.F.NamedFiles.bytes l.files) (texts_now l.folders) (as_adjustments l.adjustments) (l.language ∷ map string_bytes l.named-items) l.fn.all.items l.all.items
    × AreServed (g.F.NamedFiles.bytes l.files) (texts_now l.folders) (map code_of l.all.items) (l.language ∷ map string_bytes (take l.named-index l.named-items))
    × AreFirst (g.F.NamedFiles.bytes l.files) (texts_now l.folders) (as_adjustments l.adjustments) l.others.items

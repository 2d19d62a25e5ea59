use Rattle.std.proofs.Common.{◌≡◌, ◌++◌, map, drop, length}
use Rattle.std.specs.String.{string_bytes}
use Rattle.paragraphs.specs.Settings.{lines_to}
use Rattle.paragraphs.specs.Private.PartSettings.{settings_of}
use Rattle.paragraphs.specs.Private.Ends.{Rise}
use Rattle.paragraphs.proofs.setting.lines.Given as goal

-- The lines so far and those to come are all lines.
abbrev pub invariant-loop-end : goal.invariant-loop-end
invariant-loop-end l = record {
  all : map string_bytes l.lines.items ++ lines_to (settings_of l.parts) l.start (drop l.end-index l.ends) ≡ lines_to (settings_of l.parts) 0 l.ends;
  rise : Rise l.start (length l.parts) (drop l.end-index l.ends);
}

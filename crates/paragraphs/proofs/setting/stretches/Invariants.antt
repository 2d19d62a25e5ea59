use Rattle.std.proofs.Common.{◌≡◌, map, take}
use Rattle.paragraphs.specs.Settings.{stretch_of}
use Rattle.paragraphs.specs.Private.PartSettings.{settings_of}
use Rattle.paragraphs.proofs.setting.stretches.Given as goal

-- The columns of the parts so far.
abbrev pub invariant-loop-part : goal.invariant-loop-part
invariant-loop-part l = l.all.items ≡ map stretch_of (settings_of (take l.part-index l.parts))

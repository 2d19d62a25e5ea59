use Rattle.std.proofs.Common.{◌≡◌, ◌++◌, take}
use Rattle.std.specs.List.{flat_map}
use Rattle.std.specs.String.{string_bytes}
use Rattle.paragraphs.specs.Settings.{setting_at, shown_text}
use Rattle.paragraphs.specs.Private.PartSettings.{settings_of}
use Rattle.paragraphs.proofs.setting.line.Given as goal

-- The line up to here.
abbrev pub invariant-loop-part : goal.invariant-loop-part
invariant-loop-part l =
    string_bytes l.line ≡ (setting_at (settings_of l.parts) l.start).opening ++ flat_map shown_text (settings_of (take l.part-index l.part-items))

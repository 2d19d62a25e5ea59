-- The changes of breaks, as parts hold them.
use Rattle.std.specs.Prelude.{ℕ, Bool, if◌then◌else◌, Option, Some, None, Box, List, [], ◌∷◌}
use Rattle.std.specs.declared.alloc.Global.{Global}
use Rattle.std.specs.String.{string_bytes}
use Rattle.hyphenation_breaks.specs.Ascii.{space}
use Rattle.paragraphs.specs.declared.changes.PartChanges.{PartChanges}
use Rattle.paragraphs.specs.declared.changes.Sides.{Sides}

-- The second half of a change, if there is one.
abbrev pub after_if : Option (Box Sides Global) → List ℕ
after_if None = []
after_if (Some sides) = string_bytes sides.value.after

-- The letters that a change replaces. Where nothing is changed, a word goes on at once after a part that is broken off,
-- and a space is after its last part.
abbrev pub joint_if : Option (Box Sides Global) → Bool → List ℕ
joint_if None broken = if broken then [] else space ∷ []
joint_if (Some sides) broken = sides.value.joint.now

-- The first half of a change, if there is one.
abbrev pub before_if : Option (Box Sides Global) → List ℕ
before_if None = []
before_if (Some sides) = string_bytes sides.value.before

-- The second half of the change before a part.
abbrev pub after_bytes : PartChanges → List ℕ
after_bytes changes = after_if changes.sides

-- The text between a part and the next one of the same line.
abbrev pub joint_bytes : PartChanges → Bool → List ℕ
joint_bytes changes broken = joint_if changes.sides broken

-- The first half of the change after a part.
abbrev pub before_bytes : PartChanges → List ℕ
before_bytes changes = before_if changes.sides

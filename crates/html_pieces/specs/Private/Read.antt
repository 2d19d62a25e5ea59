-- References as the code holds them.
use Rattle.std.specs.Prelude.{ℕ, ◌==◌, List, Option, None, if◌then◌else◌}
use Rattle.html_pieces.specs.References.{Reference, reference_at}
use Rattle.html_pieces.specs.declared.references.Reference as declared

-- The same of a reference as the code holds it.
abbrev pub as_reference : declared.Reference → Reference
as_reference held = record { character = held.character; size = held.size }

-- The reference that a byte begins; none by another byte than "&".
abbrev pub reference_after : ℕ → List ℕ → Option Reference
reference_after b bs = if b == 38 then reference_at bs else None

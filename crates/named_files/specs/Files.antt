-- The bytes of files that are known, and the files that a list holds.
use Rattle.std.specs.Prelude.{ℕ, List, [], ◌∷◌, if◌then◌else◌, Option, Some, None}
use Rattle.std.specs.Borrow.{Bor}
use Rattle.std.specs.Str.{bytes_eq}

-- The bytes of a file, if they are known. Else nothing is known of it, or it is known that there is none.
abbrev pub known_bytes : Option (Option (List ℕ)) → Option (List ℕ)
known_bytes (Some known) = known
known_bytes None = None

-- The bytes of the first file of that path.
abbrev pub bytes_at : List (Bor (List ℕ) × Bor (List ℕ)) → List ℕ → Option (List ℕ)
bytes_at [] path = None
bytes_at ((name, bytes) ∷ rest) path = if bytes_eq name.now path then Some bytes.now else bytes_at rest path

-- Files that were written, by their paths and bytes.
use Rattle.std.specs.Prelude.{◌≡◌, ℕ, List, ◌++◌, Option, Some, IfSome}

-- Files that were written, in their order: the path of each, and its bytes.
abbrev pub WrittenFiles : Type 0
WrittenFiles = List (List ℕ × List ℕ)

-- If it is known which files were written before, then it is known afterwards, and these came after them.
abbrev pub WritesFiles : Option WrittenFiles → Option WrittenFiles → WrittenFiles → Type 0
WritesFiles old new files = IfSome old (λ before. new ≡ Some (before ++ files))

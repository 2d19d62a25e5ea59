-- The steps of a run: a line of values, and errors.
use Rattle.std.specs.Prelude.{◌==◌, if◌then◌else◌, ℕ, List, [], ◌∷◌, ⊤}
use Rattle.hyphenation.specs.declared.engine.RunError.{RunError}
use Rattle.hyphenation.specs.declared.engine.RunError.TheVariants.{Dictionary, Edit, Memory}

-- The space before each value but the first.
abbrev pub space_before : ℕ → List ℕ
space_before index = if index == 0 then [] else 32 ∷ []

-- The errors of loading a dictionary: what its text or its reader gives, or memory.
abbrev pub IsLoadingError : RunError → Type 0
IsLoadingError (Dictionary e) = ⊤
IsLoadingError Memory = ⊤
IsLoadingError _ = ⊥

-- The errors of doing edits: one is refused, or memory.
abbrev pub IsEditError : RunError → Type 0
IsEditError (Edit number) = ⊤
IsEditError Memory = ⊤
IsEditError _ = ⊥

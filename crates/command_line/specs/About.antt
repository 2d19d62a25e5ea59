-- The text of `--help` and `--version`.
use Rattle.std.specs.Prelude.{◌≡◌, ◌⊎◌, ℕ, List, [], ◌∷◌, ◌++◌, ◌||◌, codes, if◌then◌else◌, Option, Some, None, IfSome}
use Rattle.std.specs.Borrow.{Bor}
use Rattle.hyphenation_grammar.specs.Lines.{is_same}
use Rattle.hyphenation_load.specs.Load.{AppendsTo}

-- The line of a program's name and version.
abbrev pub version_line : List ℕ → List ℕ → List ℕ
version_line name version = name ++ (codes " " ++ (version ++ codes "\n"))

-- The text that the arguments ask for. The one argument `--version` asks for the line of name and version, the one argument
-- `--help` or `-h` for the usage, and others for none.
abbrev pub help_or_version : List ℕ → List ℕ → List ℕ → List (Bor (List ℕ)) → Option (List ℕ)
help_or_version name version usage (arg ∷ []) =
    if is_same arg.now (codes "--version") then Some (version_line name version)
    else (if is_same arg.now (codes "--help") || is_same arg.now (codes "-h") then Some usage else None)
help_or_version name version usage _ = None

-- If the arguments ask for one of these texts, the status is 5, or it is 0 and the text was appended to the output.
abbrev pub WritesHelp : {W : Type 0} → List ℕ → List ℕ → List ℕ → List (Bor (List ℕ)) → Option ℕ
    → (W → Option (List ℕ)) → W → W → Type 0
WritesHelp name version usage args status contents old new = IfSome (help_or_version name version usage args)
    (λ text. (status ≡ Some 5) ⊎ ((status ≡ Some 0) × AppendsTo contents old new text))

-- The steps in which lists of exceptions are read.
use Rattle.std.specs.Prelude.{◌≡◌, ◌≢◌, ℕ, List, Option, None, Some, IfSome, ⊤}
use Rattle.std.specs.Global.{Vec}
use Rattle.std.specs.String.{string_bytes}
use Rattle.named_files.specs.Files.{known_bytes}
use Rattle.pattern_results.specs.declared.errors.FileCause.{FileCause}
use Rattle.command_line.specs.declared.failure.Failure.{Failure}
use Rattle.command_line.specs.declared.failure.Failure.TheVariants as failed
use Rattle.command_line.specs.declared.failure.ListRefusal.{ListRefusal}
use Rattle.command_line.specs.declared.failure.ListRefusal.TheVariants.{OnLine}

-- These are the bytes of a file, if they are known. None are there only if the file is not known to be there.
abbrev pub AreBytesIfThere : Option (Option (List ℕ)) → Option (Vec ℕ) → Type 0
AreBytesIfThere file (Some bytes) = (file ≢ Some None) × IfSome (known_bytes file) (λ known. bytes.items ≡ known)
AreBytesIfThere file None = known_bytes file ≡ None

-- The list at this path is refused for that cause, or memory was.
abbrev pub IsListRefusal : List ℕ → ListRefusal → Failure → Type 0
IsListRefusal path cause (failed.Exceptions named given) = (string_bytes named ≡ path) × (given ≡ cause)
IsListRefusal path cause failed.Memory = ⊤
IsListRefusal path cause _ = ⊥

-- The list at this path is refused for this fault, or memory was.
abbrev pub HasFault : List ℕ → Option (ℕ × FileCause) → Failure → Type 0
HasFault path fault (failed.Exceptions named (OnLine line cause)) =
    (string_bytes named ≡ path) × (fault ≡ Some (line, cause))
HasFault path fault failed.Memory = ⊤
HasFault path fault _ = ⊥

-- The errors that readers of patterns return, by the first fault of their files.
use Rattle.std.specs.Prelude.{◌≡◌, ℕ, Option, Some}
use Rattle.pattern_results.specs.declared.errors.FileCause.{FileCause}
use Rattle.pattern_results.specs.declared.errors.FileError.{FileError}
use Rattle.pattern_results.specs.declared.errors.FileError.TheVariants as of_file
use Rattle.pattern_results.specs.declared.errors.ConvertError.{ConvertError}
use Rattle.pattern_results.specs.declared.errors.ConvertError.TheVariants.{Memory, Fault}

-- An error of one file: out of memory, or the file's first fault.
abbrev pub IsFileError : FileError → Option (ℕ × FileCause) → Type 0
IsFileError of_file.Memory fault = Unit {0}
IsFileError (of_file.OnLine line cause) fault = fault ≡ Some (line, cause)

-- An error of files: out of memory, or their first fault.
abbrev pub IsConvertError : ConvertError → Option (ℕ × (ℕ × FileCause)) → Type 0
IsConvertError Memory fault = Unit {0}
IsConvertError (Fault file line cause) fault = fault ≡ Some (file, (line, cause))

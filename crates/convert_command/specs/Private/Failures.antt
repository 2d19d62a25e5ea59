-- The failures of making a dictionary of files.
use Rattle.std.specs.Prelude.{◌≡◌, ℕ, Bool, List, map}
use Rattle.std.specs.declared.vec.Vec.{Vec}
use Rattle.hyphenation_grammar.specs.declared.Error.{Error}
use Rattle.hyphenation_grammar.specs.declared.Error.TheVariants as loading
use Rattle.convert_command.specs.Failures.{IsFailureOfBytes}
use Rattle.convert_command.specs.declared.Failure.{Failure}
use Rattle.convert_command.specs.declared.Failure.TheVariants.{Reading, Writing, Memory}
use Rattle.convert_command.specs.declared.request.Request.{Request}

-- The file of this number can't be opened or read.
abbrev pub IsReadingOf : ℕ → Failure → Type 0
IsReadingOf index (Reading number e) = number ≡ index
IsReadingOf index _ = ⊥

-- The files of a request, which have these bytes, fail so: they are one .dic, or files of TeX and plain ones.
abbrev pub IsFailureOf : {Y : Type 0} → Bool → Request → List (Vec ℕ Y) → Failure → Type 0
IsFailureOf is_dic request files failure = IsFailureOfBytes is_dic request.left request.right
    (map (λ path. path.now) request.paths.now) (map (λ one. one.items) files) failure

-- The failure of an error of writing: memory was refused for the text, or it can't be written.
abbrev pub failure_of_writing : Error → Failure
failure_of_writing (loading.Memory e) = Memory
failure_of_writing _ = Writing

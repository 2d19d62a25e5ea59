-- Why files give no dictionary.
use Rattle.std.specs.Prelude.{◌≡◌, ◌⊎◌, ℕ, Bool, true, false, List, [], Option, None, option_map, slice_index_or, ⊤}
use Rattle.libreoffice_files.specs.LibreOffice.{dic_fault}
use Rattle.pattern_results.specs.Errors.{IsConvertError}
use Rattle.tex_files.specs.Converting.{fault_from}
use Rattle.tex_files.specs.Heads.{minima_for}
use Rattle.tex_files.specs.declared.group.File.{File}
use Rattle.convert_command.specs.Written.{AreFilesAt}
use Rattle.convert_command.specs.declared.Failure.{Failure}
use Rattle.convert_command.specs.declared.Failure.TheVariants.{Reading, Refused, Minima, Writing, Memory}

-- Files of TeX and plain ones with these paths and bytes fail in this way. The failure is the first fault. Where there
-- is no fault, it is a minimum that is neither given nor in a head. Else memory was refused.
abbrev pub IsFailureOfTex : Option ℕ → Option ℕ → List (List ℕ) → List (List ℕ) → Failure → Type 0
IsFailureOfTex left right paths all (Refused error) =
    (files : List File) × AreFilesAt paths all files × IsConvertError error (fault_from 0 files)
IsFailureOfTex left right paths all Minima = ((left ≡ None) ⊎ (right ≡ None))
    × (files : List File) × AreFilesAt paths all files × (fault_from 0 files ≡ None) × (minima_for left right files ≡ None)
IsFailureOfTex left right paths all Memory = ⊤
IsFailureOfTex left right paths all _ = ⊥

-- A .dic fails so: the failure is its first fault, or that memory was refused.
abbrev pub IsFailureOfDic : List ℕ → Failure → Type 0
IsFailureOfDic bytes (Refused error) = IsConvertError error (option_map (λ fault. (0, fault)) (dic_fault bytes))
IsFailureOfDic bytes _ = ⊥

-- Files with these paths and bytes fail so: they are one .dic, or files of TeX and plain ones.
abbrev pub IsFailureOfBytes : Bool → Option ℕ → Option ℕ → List (List ℕ) → List (List ℕ) → Failure → Type 0
IsFailureOfBytes true left right paths all failure = IsFailureOfDic (slice_index_or all 0 []) failure
IsFailureOfBytes false left right paths all failure = IsFailureOfTex left right paths all failure

-- A failure that says nothing of the bytes of files. One can't be opened or read, the result can't be written, or memory was
-- refused.
abbrev pub IsOutside : Failure → Type 0
IsOutside (Reading index e) = ⊤
IsOutside Writing = ⊤
IsOutside Memory = ⊤
IsOutside _ = ⊥

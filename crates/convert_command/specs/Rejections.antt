-- Which files are taken, and why others are rejected.
use Rattle.std.specs.Prelude.{ℕ, ◌+◌, List, [], ◌∷◌, if◌then◌else◌, is_none, Option, None, Some, Result, Ok, Err}
use Rattle.convert_command.specs.Arguments.{form_of, is_dic_alone, is_dic_path}
use Rattle.convert_command.specs.Tags.{other_language_from}
use Rattle.convert_command.specs.declared.request.BadArgs.{BadArgs}
use Rattle.convert_command.specs.declared.request.BadArgs.TheVariants.{NoForm, Ending, NotAlone, OtherLanguage}
use Rattle.convert_command.specs.declared.request.Input.{Input}
use Rattle.convert_command.specs.declared.request.Input.TheVariants.{Dic, Tex}

-- The first of some files that is a .dic, or whose ending is not known. The next file has that number.
abbrev pub bad_ending_from : ℕ → List (List ℕ) → Option BadArgs
bad_ending_from index [] = None
bad_ending_from index (path ∷ paths) =
    if is_dic_path path then Some (NotAlone index)
    else (if is_none (form_of path) then Some (Ending index) else bad_ending_from (index + 1) paths)

-- Files of TeX and plain ones, if none of them has another ending or is of another language.
abbrev pub input_unless : Option BadArgs → Option ℕ → Result Input BadArgs
input_unless (Some bad_args) other = Err bad_args
input_unless None (Some index) = Err (OtherLanguage index)
input_unless None None = Ok Tex

-- The sort of some files, or why they are rejected: one .dic, or files of TeX and plain ones of one language.
abbrev pub input_of : List (List ℕ) → Result Input BadArgs
input_of [] = Err NoForm
input_of (path ∷ paths) =
    if is_dic_alone (path ∷ paths) then Ok Dic
    else input_unless (bad_ending_from 0 (path ∷ paths)) (other_language_from None 0 (path ∷ paths))

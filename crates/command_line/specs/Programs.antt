-- The programs that one file holds, and which of them is called.
use Rattle.std.specs.Prelude.{ℕ, ◌==◌, if◌then◌else◌, List, [], ◌∷◌, codes, Option, Some, None}
use Rattle.std.specs.Str.{bytes_eq}
use Rattle.command_line.specs.declared.programs.Program.{Program}
use Rattle.command_line.specs.declared.programs.Program.TheVariants as program

-- The byte of a slash.
abbrev pub slash : ℕ
slash = 47

-- The end of a path after its last slash, where this is the end after those before.
abbrev pub end_after : List ℕ → List ℕ → List ℕ
end_after end [] = end
end_after end (byte ∷ bytes) = end_after (if byte == slash then bytes else end) bytes

-- The name of the file at a path: what is after its last slash.
abbrev pub file_name : List ℕ → List ℕ
file_name path = end_after path path

-- The program of a name.
unfoldable pub program_of : List ℕ → Option Program
program_of name =
    if bytes_eq name (codes "hyphenate") then Some program.Hyphenate
    else (if bytes_eq name (codes "hyphenate-canonical") then Some program.Canonical
    else (if bytes_eq name (codes "hyphenate-convert") then Some program.Convert
    else (if bytes_eq name (codes "hyphenate-explain") then Some program.Explain
    else (if bytes_eq name (codes "hyphenate-html") then Some program.Html
    else (if bytes_eq name (codes "hyphenate-lines") then Some program.Lines
    else (if bytes_eq name (codes "hyphenate-text") then Some program.Text
    else None))))))

-- A program with its arguments, if there is one.
abbrev pub with_args : Option Program → List (List ℕ) → Option (Program × List (List ℕ))
with_args None args = None
with_args (Some called) args = Some (called, args)

-- The program that the first of some arguments names, with the others.
abbrev pub called_by_first : List (List ℕ) → Option (Program × List (List ℕ))
called_by_first [] = None
called_by_first (name ∷ args) = with_args (program_of name) args

-- The program that a command line calls, with its arguments: that of the name by which the file was called. Where that is the
-- name of no program, the first argument names it.
abbrev pub called : Option Program → List (List ℕ) → Option (Program × List (List ℕ))
called None args = called_by_first args
called (Some program) args = Some (program, args)

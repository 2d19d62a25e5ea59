-- How the program `hyphenate-convert` reads its arguments.
use Rattle.std.specs.Prelude.{◌≡◌, ◌≢◌, ◌⊎◌, ◌<◌, ◌==◌, ◌^◌, ℕ, Bool, false, List, [], ◌∷◌, codes, if◌then◌else◌, map, slice_index_or, unwrap_or, Option, Some, None}
use Rattle.std.specs.Borrow.{Bor}
use Rattle.std.specs.List.{ends_with}
use Rattle.std.specs.Str.Parse.{digits_value, without_leading_plus, IsNumeral}
use Rattle.command_line.specs.About.{help_or_version}
use Rattle.command_line.specs.declared.TheConstants.{VERSION}
use Rattle.hyphenation_breaks.specs.Language.{IsCode}
use Rattle.hyphenation_grammar.specs.Form.{kind_of_name}
use Rattle.hyphenation_grammar.specs.declared.form.Kind.{Kind}
use Rattle.tex_files.specs.declared.group.FileForm.{FileForm}
use Rattle.tex_files.specs.declared.group.FileForm.TheVariants.{Tex, Plain}
use Rattle.tex_files.specs.declared.group.Group.TheVariants.{Patterns, Exceptions}
use Rattle.convert_command.specs.declared.TheConstants.{NAME, USAGE}

-- The text that the arguments ask for by `--help` or `--version`, if they do.
abbrev pub asked_text : List (Bor (List ℕ)) → Option (List ℕ)
asked_text args = help_or_version NAME.now VERSION.now USAGE.now args

-- Arguments: the kind of the dictionary, the code of its language, the minima that are given, and the paths of files.
pub record ParsedArgs : Type 0 where
  pub kind : Kind
  pub code : List ℕ
  pub left : Option ℕ
  pub right : Option ℕ
  pub paths : List (List ℕ)

-- A minimum as an argument has it: `-` if none is given, else a number below 256 in digits.
abbrev pub ParsesAsMinimum : List ℕ → Option ℕ → Type 0
ParsesAsMinimum text None = text ≡ codes "-"
ParsesAsMinimum text (Some minimum) = IsNumeral 10 (without_leading_plus text)
    × (digits_value 10 (without_leading_plus text) ≡ minimum) × (minimum < 2 ^ 8)

-- The path of the file of a number, counted from 0.
abbrev pub path_at : List (List ℕ) → ℕ → List ℕ
path_at paths index = slice_index_or paths index []

-- A text is a minimum as an argument has it: `-`, or a number below 256 in digits.
abbrev pub IsMinimum : List ℕ → Type 0
IsMinimum text = (text ≡ codes "-")
    ⊎ (IsNumeral 10 (without_leading_plus text) × (digits_value 10 (without_leading_plus text) < 2 ^ 8))

-- Arguments begin as the usage says: with the name of a kind, the code of a language, and two minima.
abbrev pub BeginAsUsage : List (Bor (List ℕ)) → Type 0
BeginAsUsage (kind ∷ code ∷ left ∷ right ∷ paths) =
    (kind_of_name kind.now ≢ None) × IsCode code.now × IsMinimum left.now × IsMinimum right.now
BeginAsUsage _ = ⊥

-- Arguments `KIND CODE LEFT RIGHT FILE..` are parsed so.
abbrev pub ParsesAs : List (Bor (List ℕ)) → ParsedArgs → Type 0
ParsesAs (kind ∷ code ∷ left ∷ right ∷ paths) parsed =
    (kind_of_name kind.now ≡ Some parsed.kind) × (parsed.code ≡ code.now) × IsCode code.now
    × ParsesAsMinimum left.now parsed.left × ParsesAsMinimum right.now parsed.right
    × (parsed.paths ≡ map (λ path. path.now) paths)
ParsesAs _ parsed = ⊥

-- A path ends so.
abbrev pub has_ending : List ℕ → List ℕ → Bool
has_ending ending path = ends_with (λ a b. a == b) path ending

-- The path is that of a .dic.
abbrev pub is_dic_path : List ℕ → Bool
is_dic_path path = has_ending (codes ".dic") path

-- The paths are that of one .dic.
abbrev pub is_dic_alone : List (List ℕ) → Bool
is_dic_alone (path ∷ []) = is_dic_path path
is_dic_alone _ = false

-- The form of a file of TeX or a plain one, by the ending of its path; none for another ending.
abbrev pub form_of : List ℕ → Option FileForm
form_of path =
    if has_ending (codes ".tex") path then Some Tex
    else (if has_ending (codes ".pat.txt") path then Some (Plain Patterns)
    else (if has_ending (codes ".hyp.txt") path then Some (Plain Exceptions) else None))

-- The form of a file, as TeX's for an ending that is not known.
abbrev pub known_form : List ℕ → FileForm
known_form path = unwrap_or (form_of path) Tex

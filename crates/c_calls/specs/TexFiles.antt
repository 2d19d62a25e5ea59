-- Dictionaries that are made of TeX files and plain ones, and the statuses of the call that makes them.
use Rattle.std.specs.Prelude.{◌≡◌, ◌⊎◌, zero, suc, ℕ, List, [], ◌∷◌, Option, None, Some, IsSome, IfSome}
use Rattle.std.specs.Borrow.{Bor}
use Rattle.std.specs.Str.{IsUtf8}
use Rattle.any_dictionary.specs.Dictionaries.{minima_by}
use Rattle.any_dictionary.specs.declared.AnyDictionary.{AnyDictionary}
use Rattle.any_dictionary.specs.declared.AnyDictionary.TheVariants as of
use Rattle.hyphenation_breaks.specs.Language.{IsCode}
use Rattle.hyphenation_grammar.specs.declared.form.Kind.{Kind}
use Rattle.hyphenation_grammar.specs.declared.form.Kind.TheVariants.{Standard, Extended}
use Rattle.pattern_results.specs.declared.errors.FileCause.{FileCause}
use Rattle.tex_files.specs.Converting.{contents_of_files, fault_from}
use Rattle.tex_files.specs.Heads.{minima_for}
use Rattle.tex_files.specs.declared.group.File.{File}
use Rattle.tex_files.specs.declared.group.FileForm.{FileForm}
use Rattle.tex_files.specs.declared.group.FileForm.TheVariants.{Tex, Plain}
use Rattle.tex_files.specs.declared.group.Group.TheVariants.{Patterns, Exceptions}
use Rattle.c_calls.specs.Contents.{Held, Dictionary}
use Rattle.c_calls.specs.declared.tex.NoDictionary.{NoDictionary}
use Rattle.c_calls.specs.declared.tex.NoDictionary.TheVariants.{Memory, NotUtf8, NotCode, NoMinima, Fault}
use Rattle.c_calls.specs.Patterns.{minimum_given, pattern_cause_number}
use Rattle.c_calls.specs.Statuses.{kind_numbered}

-- 0 is the form of TeX files, 1 that of plain files of patterns, and no other number is a form.
abbrev pub form_numbered : ℕ → Option FileForm
form_numbered zero = Some Tex
form_numbered (suc zero) = Some (Plain Patterns)
form_numbered _ = None

-- The two files of a call: one of the form, and a plain one of exceptions after it.
abbrev pub files_of : FileForm → Bor (List ℕ) → Bor (List ℕ) → List File
files_of form bytes exceptions =
    (record { form = form; bytes = bytes }) ∷ (record { form = Plain Exceptions; bytes = exceptions }) ∷ []

-- The dictionary of a kind that files give.
unfoldable pub files_given : Kind → List ℕ → ℕ × ℕ → List File → AnyDictionary
files_given Standard language minima files =
    of.Standard (contents_of_files (λ _. tt) (λ b. b.place) language minima.0 minima.1 files)
files_given Extended language minima files =
    of.Extended (contents_of_files (λ change. change) (λ b. (b.place, b.change)) language minima.0 minima.1 files)

-- The dictionary is the one that files give with its own minima. Each of these is the given one, or else that in a head.
abbrev pub IsOfFiles : Kind → List ℕ → Option ℕ → Option ℕ → List File → AnyDictionary → Type 0
IsOfFiles kind language left right files dictionary =
    (dictionary ≡ files_given kind language (minima_by dictionary) files)
    × (minima_for left right files ≡ Some (minima_by dictionary))
    × IfSome left (λ given. (minima_by dictionary).0 ≡ given) × IfSome right (λ given. (minima_by dictionary).1 ≡ given)

-- The handle holds a dictionary of the files.
abbrev pub HoldsFiles : Kind → List ℕ → Option ℕ → Option ℕ → List File → Option Held → Type 0
HoldsFiles kind language left right files (Some (Dictionary dictionary)) =
    IsOfFiles kind language left right files dictionary
HoldsFiles kind language left right files _ = ⊥

-- 0: the language is a code, the files have no fault, and the handle holds the dictionary that they give. 2: out of
-- memory. 4: the language is not UTF-8. 5: the files have a fault. 7: the language is no code. 9: a minimum is neither
-- given nor in a head. No other status comes, and from 1 on the handle is unchanged.
abbrev pub MakesOfFiles : Kind → List ℕ → Option ℕ → Option ℕ → List File → Option Held → Option Held → ℕ
    → Type 0
MakesOfFiles kind language left right files old new zero =
    IsCode language × (fault_from 0 files ≡ None) × HoldsFiles kind language left right files new
MakesOfFiles kind language left right files old new (suc (suc zero)) = new ≡ old
MakesOfFiles kind language left right files old new (suc (suc (suc (suc zero)))) = ¬ IsUtf8 language × (new ≡ old)
MakesOfFiles kind language left right files old new (suc (suc (suc (suc (suc zero))))) =
    IsSome (fault_from 0 files) × (new ≡ old)
MakesOfFiles kind language left right files old new (suc (suc (suc (suc (suc (suc (suc zero))))))) =
    ¬ IsCode language × (new ≡ old)
MakesOfFiles kind language left right files old new (suc (suc (suc (suc (suc (suc (suc (suc (suc zero))))))))) =
    (((left ≡ None) ⊎ (right ≡ None)) × (minima_for left right files ≡ None)) × (new ≡ old)
MakesOfFiles kind language left right files old new _ = ⊥

-- 6: no kind or no form has the number, and the handle is unchanged. Else the statuses above.
abbrev pub LoadsPatternsOf : Option Kind → Option FileForm → Option ℕ → Option ℕ → List ℕ → Bor (List ℕ) → Bor (List ℕ)
    → Option Held → Option Held → ℕ → Type 0
LoadsPatternsOf (Some kind) (Some form) left right language bytes exceptions old new status =
    MakesOfFiles kind language left right (files_of form bytes exceptions) old new status
LoadsPatternsOf _ _ left right language bytes exceptions old new status = (status ≡ 6) × (new ≡ old)

-- The call, by the numbers of the kind and the form, and by those of the minima.
abbrev pub LoadsPatterns : ℕ × ℕ → ℕ × ℕ → List ℕ → Bor (List ℕ) → Bor (List ℕ) → Option Held
    → Option Held → ℕ → Type 0
LoadsPatterns kind_and_form minima language bytes exceptions old new status =
    LoadsPatternsOf (kind_numbered kind_and_form.0) (form_numbered kind_and_form.1) (minimum_given minima.0)
    (minimum_given minima.1) language bytes exceptions old new status

-- Files are refused at this place, a file with a line, for the cause of this number.
abbrev pub AreRefusedAt : Option (ℕ × (ℕ × FileCause)) → ℕ × (ℕ × ℕ) → Type 0
AreRefusedAt (Some (file, (line, cause))) place = place ≡ (file, (line, pattern_cause_number cause))
AreRefusedAt None place = ⊥

-- 5: the place and the cause of the files' first fault are written. With each other status they are unchanged.
abbrev pub PlacesFaultOf : Option FileForm → Bor (List ℕ) → Bor (List ℕ) → ℕ × (ℕ × ℕ) → ℕ × (ℕ × ℕ) → ℕ → Type 0
PlacesFaultOf (Some form) bytes exceptions before after (suc (suc (suc (suc (suc zero))))) =
    AreRefusedAt (fault_from 0 (files_of form bytes exceptions)) after
PlacesFaultOf _ bytes exceptions before after _ = after ≡ before

abbrev pub PlacesFault : ℕ → Bor (List ℕ) → Bor (List ℕ) → ℕ × (ℕ × ℕ) → ℕ × (ℕ × ℕ) → ℕ → Type 0
PlacesFault form bytes exceptions before after status =
    PlacesFaultOf (form_numbered form) bytes exceptions before after status

-- Each reason for which files give no dictionary.
abbrev pub IsNoDictionary : NoDictionary → List ℕ → Option ℕ → Option ℕ → List File → Type 0
IsNoDictionary Memory language left right files = Unit {0}
IsNoDictionary NotUtf8 language left right files = ¬ IsUtf8 language
IsNoDictionary NotCode language left right files = ¬ IsCode language
IsNoDictionary NoMinima language left right files =
    ((left ≡ None) ⊎ (right ≡ None)) × (minima_for left right files ≡ None)
IsNoDictionary (Fault file line cause) language left right files = fault_from 0 files ≡ Some (file, (line, cause))

-- Dictionaries that are made of files of patterns, and the statuses of the call that makes them.
use Rattle.std.specs.Prelude.{◌≡◌, zero, suc, ℕ, List, Option, None, Some, if◌then◌else◌, nat_le}
use Rattle.std.specs.Str.{IsUtf8}
use Rattle.any_dictionary.specs.declared.AnyDictionary.{AnyDictionary}
use Rattle.any_dictionary.specs.declared.AnyDictionary.TheVariants as of
use Rattle.hyphenation_breaks.specs.Language.{IsCode}
use Rattle.hyphenation_grammar.specs.declared.form.Kind.{Kind}
use Rattle.hyphenation_grammar.specs.declared.form.Kind.TheVariants.{Standard, Extended}
use Rattle.libreoffice_files.specs.LibreOffice.{contents_of_dic, dic_fault}
use Rattle.pattern_results.specs.declared.errors.FileCause.{FileCause}
use Rattle.pattern_results.specs.declared.errors.FileCause.TheVariants as causes
use Rattle.pattern_results.specs.declared.errors.ConvertError.{ConvertError}
use Rattle.pattern_results.specs.declared.errors.ConvertError.TheVariants as refusals
use Rattle.c_calls.specs.declared.patterns.Failure.{Failure}
use Rattle.c_calls.specs.declared.patterns.Failure.TheVariants.{Memory, NotUtf8, NotCode, Fault}
use Rattle.c_calls.specs.Contents.{Dictionary}
use Rattle.c_calls.specs.Statuses.{Loading, kind_numbered}

-- A number up to 255 is a minimum; each greater one leaves the minimum to the file.
abbrev pub minimum_given : ℕ → Option ℕ
minimum_given number = if nat_le number 255 then Some number else None

-- The causes for which files are refused, from 21 on.
abbrev pub pattern_cause_number : FileCause → ℕ
pattern_cause_number causes.Command = 21
pattern_cause_number causes.Caret = 22
pattern_cause_number causes.Symbol = 23
pattern_cause_number causes.TwoInOnePlace = 24
pattern_cause_number causes.NoLetters = 25
pattern_cause_number causes.NotUtf8 = 26
pattern_cause_number causes.Input = 27
pattern_cause_number causes.Unclosed = 28
pattern_cause_number causes.Charset = 29
pattern_cause_number causes.NotInCharset = 30
pattern_cause_number causes.Minimum = 31
pattern_cause_number causes.Nothing = 32

-- The dictionary of a kind that a `.dic` gives.
unfoldable pub dic_given : Kind → List ℕ → Option ℕ → Option ℕ → List ℕ → AnyDictionary
dic_given Standard language left right bytes = of.Standard (contents_of_dic (λ _. None) (λ _. tt) language left right bytes)
dic_given Extended language left right bytes =
    of.Extended (contents_of_dic (λ change. change) (λ change. change) language left right bytes)

-- The file is refused at this line, for the cause of this number.
abbrev pub IsFaultAt : Option (ℕ × FileCause) → ℕ × ℕ → Type 0
IsFaultAt (Some (line, cause)) place = place ≡ (line, pattern_cause_number cause)
IsFaultAt None place = ⊥

-- 0: the language is a code, the file has no fault, and the handle holds the dictionary that it gives. 2: out of memory. 4: the
-- language is not UTF-8. 5: the file has its first fault at the line and of the cause that are written. 7: the language is no
-- code. No other status comes. From 1 on the handle is unchanged, and the line and the cause are written only with status 5.
abbrev pub MakesAs : List ℕ → Option (ℕ × FileCause) → AnyDictionary → Loading → ℕ → Type 0
MakesAs language fault given loading zero =
    IsCode language × (fault ≡ None) × (loading.new ≡ Some (Dictionary given)) × (loading.after ≡ loading.before)
MakesAs language fault given loading (suc (suc zero)) = (loading.new ≡ loading.old) × (loading.after ≡ loading.before)
MakesAs language fault given loading (suc (suc (suc (suc zero)))) =
    ¬ IsUtf8 language × (loading.new ≡ loading.old) × (loading.after ≡ loading.before)
MakesAs language fault given loading (suc (suc (suc (suc (suc zero))))) =
    IsFaultAt fault loading.after × (loading.new ≡ loading.old)
MakesAs language fault given loading (suc (suc (suc (suc (suc (suc (suc zero))))))) =
    ¬ IsCode language × (loading.new ≡ loading.old) × (loading.after ≡ loading.before)
MakesAs language fault given loading _ = ⊥

-- The statuses of a kind, with the minima that are given. 6: no kind has the number, and all is unchanged.
abbrev pub LoadsDicOf : Option Kind → Option ℕ → Option ℕ → List ℕ → List ℕ → Loading → ℕ → Type 0
LoadsDicOf None left right language bytes loading status =
    (status ≡ 6) × (loading.new ≡ loading.old) × (loading.after ≡ loading.before)
LoadsDicOf (Some kind) left right language bytes loading status =
    MakesAs language (dic_fault bytes) (dic_given kind language left right bytes) loading status

-- The call of a `.dic`, by the numbers of the kind and of the minima.
abbrev pub LoadsDic : ℕ → ℕ → ℕ → List ℕ → List ℕ → Loading → ℕ → Type 0
LoadsDic kind left right language bytes loading status =
    LoadsDicOf (kind_numbered kind) (minimum_given left) (minimum_given right) language bytes loading status

-- Each failure, and why it comes: the language, or the first fault of the file.
abbrev pub IsFailure : Failure → List ℕ → Option (ℕ × FileCause) → Type 0
IsFailure Memory language fault = Unit {0}
IsFailure NotUtf8 language fault = ¬ IsUtf8 language
IsFailure NotCode language fault = ¬ IsCode language
IsFailure (Fault line cause) language fault = fault ≡ Some (line, cause)

-- The failure that an error of converting is.
abbrev pub failure_of : ConvertError → Failure
failure_of refusals.Memory = Memory
failure_of (refusals.Fault file line cause) = Fault line cause

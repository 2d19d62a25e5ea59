-- Texts and pages whose soft hyphens are taken out.
use Rattle.std.specs.Prelude.{◌≡◌, ℕ, if◌then◌else◌, List, codes, map, Option, Some, None, Result, Ok}
use Rattle.command_line.specs.Dictionaries.{KnownFiles}
use Rattle.command_line.specs.Endings.{End}
use Rattle.command_line.specs.Inputs.{AreTextsOf}
use Rattle.command_line.specs.Options.{ReadArguments, RefusedArgument, after_step, is_given}
use Rattle.soft_hyphens.specs.Removed.{removed, removed_page}
use Rattle.text_results.specs.Files.{WrittenFiles}
use Rattle.text_results.specs.Targets.{Target, target_of, names_for}
use Rattle.text_results.specs.Texts.{IsFailureAmong}
use Rattle.text_results.specs.Written.{Ends}
use Rattle.text_results.specs.declared.removal.Source.{Source}
use Rattle.text_results.specs.declared.removal.Source.TheVariants.{Text, Page}

-- A removal: the form of the texts, where results go, and the names of the texts.
pub record ParsedRemoval : Type 0 where
  pub source : Source
  pub target : Target
  pub inputs : List (List ℕ)

-- The removal whose results go to a target, by operands. Each of these names a text.
abbrev pub removal_to : Source → Target → List (List ℕ) → Result (Option ParsedRemoval) RefusedArgument
removal_to source target operands =
    after_step (λ inputs. Ok (Some (record { source = source; target = target; inputs = inputs }))) (names_for target operands)

-- The removal from texts of this form that arguments ask for by `--remove`; none if they don't.
abbrev pub removal_of : Source → ReadArguments → Result (Option ParsedRemoval) RefusedArgument
removal_of source read = if is_given (codes "--remove") read.given
    then after_step (λ target. removal_to source target read.operands) (target_of read.given) else Ok None

-- A text without its soft hyphens.
abbrev pub rest_of : Source → List ℕ → List ℕ
rest_of Text text = removed text
rest_of Page page = removed_page page

-- Results of a removal: the texts of these names, in their order, each without its soft hyphens.
abbrev pub AreRests : Source → KnownFiles → Option (List ℕ) → List (List ℕ) → List (List ℕ) → Type 0
AreRests source bytes_of left names results = (texts : List (List ℕ))
    × AreTextsOf bytes_of left names texts × (results ≡ map (rest_of source) texts)

-- A program ends so for a removal: the results are written, or a text is not read, or the results are not written.
abbrev pub EndsRemoval : {W S : Type 0} → ParsedRemoval → KnownFiles → Option (List ℕ)
    → (W → Option (List ℕ)) → W → W → (S → Option WrittenFiles) → S → S → End → Type 0
EndsRemoval removal bytes_of left =
    Ends (AreRests removal.source bytes_of left removal.inputs) (IsFailureAmong bytes_of left removal.inputs)
    removal.target removal.inputs

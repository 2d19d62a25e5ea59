-- How a reader of arguments corresponds to the definitions.
use Rattle.std.specs.Prelude.{◌≡◌, Bool, List, ℕ, Result, Ok, Err}
use Rattle.std.specs.Borrow.{Bor}
use Rattle.command_line.specs.Options.{ReadArguments, RefusedArgument, Next, Any, ValueOf, OperandsAlone}
use Rattle.command_line.specs.Reading.{as_read, IsReadError}
use Rattle.command_line.specs.Usage.{OptionForm}
use Rattle.command_line.specs.declared.options.Next.{Next as NextInCode}
use Rattle.command_line.specs.declared.options.Next.TheVariants.{Any as AnyInCode, ValueOf as ValueInCode, OperandsAlone as OperandsInCode}
use Rattle.command_line.specs.declared.options.OptionForm.{OptionForm as OptionInCode}
use Rattle.command_line.specs.declared.options.Reader.{Reader}
use Rattle.command_line.specs.declared.options.ReadError.{ReadError}

-- An option that a program has.
abbrev pub as_form : OptionInCode → OptionForm
as_form form = record { name = form.name.now; takes_value = form.takes_value }

-- The option of a line of a usage.
abbrev pub as_form_in : (Bor (List ℕ) × Bool) → OptionForm
as_form_in found = record { name = found.0.now; takes_value = found.1 }

-- Which arguments may come next.
abbrev pub as_next : NextInCode → Next
as_next AnyInCode = Any
as_next (ValueInCode name) = ValueOf name.now
as_next OperandsInCode = OperandsAlone

-- A reader has read these arguments, and these may come next.
abbrev pub IsReader : Reader → ReadArguments → Next → Type 0
IsReader reader read next = (as_read reader.arguments ≡ read) × (as_next reader.next ≡ next)

-- One more argument was read as wanted, or the step has this error.
abbrev pub IsStep : Result (Unit {0}) ReadError → Result (ReadArguments × Next) RefusedArgument → Reader → Type 0
IsStep (Ok done) wanted reader = wanted ≡ Ok (as_read reader.arguments, as_next reader.next)
IsStep (Err e) wanted reader = IsReadError wanted e

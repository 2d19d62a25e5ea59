-- How the arguments in code correspond to those of the definitions.
use Rattle.std.specs.Prelude.{◌≡◌, List, map, option_copied, Result, Ok, Err, ⊤}
use Rattle.command_line.specs.Options.{GivenOption, ReadArguments, RefusedArgument}
use Rattle.command_line.specs.declared.options.Given.{Given}
use Rattle.command_line.specs.declared.options.Arguments.{Arguments}
use Rattle.command_line.specs.declared.options.BadArgument.{BadArgument}
use Rattle.command_line.specs.declared.options.ReadError.{ReadError}
use Rattle.command_line.specs.declared.options.ReadError.TheVariants.{Bad, Memory}

-- An option that is given.
abbrev pub as_given : Given → GivenOption
as_given given = record { name = given.name.now; value = option_copied given.value }

-- The options of arguments.
abbrev pub given_options : Arguments → List GivenOption
given_options arguments = map as_given arguments.given.items

-- The arguments as read.
abbrev pub as_read : Arguments → ReadArguments
as_read arguments = record { given = given_options arguments; operands = map (λ operand. operand.now) arguments.operands.items }

-- An argument that is refused.
abbrev pub as_refused : BadArgument → RefusedArgument
as_refused bad = record { argument = bad.argument.now; value = option_copied bad.value; expected = bad.expected }

-- An error is the argument that is refused, or says that memory was refused.
abbrev pub IsReadError : {X : Type 0} → Result X RefusedArgument → ReadError → Type 0
IsReadError wanted (Bad bad) = wanted ≡ Err (as_refused bad)
IsReadError wanted Memory = ⊤

-- A result is the wanted value, or the wanted refusal.
abbrev pub IsAsWanted : {X : Type 0} → Result X BadArgument → Result X RefusedArgument → Type 0
IsAsWanted (Ok x) wanted = wanted ≡ Ok x
IsAsWanted (Err bad) wanted = wanted ≡ Err (as_refused bad)

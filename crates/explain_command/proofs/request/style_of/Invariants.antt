use Rattle.std.specs.Prelude.{◌≡◌, fold, map, drop}
use Rattle.command_line.specs.Reading.{as_given}
use Rattle.explain_command.specs.Arguments.{style_by, style_of}
use Rattle.explain_command.proofs.request.style_of.Given as goal

-- The style by the options to come, after that so far, is that of all.
abbrev pub invariant-loop-one : goal.invariant-loop-one
invariant-loop-one l =
    fold (λ so_far one. style_by so_far one.name) l.style (map as_given (drop l.one-index l.given)) ≡ style_of (map as_given l.given)

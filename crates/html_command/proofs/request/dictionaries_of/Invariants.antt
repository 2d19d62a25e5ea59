use Rattle.std.specs.Prelude.{◌≡◌, map, drop}
use Rattle.hyphenation_breaks.specs.Borrowed.{texts_now}
use Rattle.html_command.specs.Arguments.{dictionaries_after, dictionaries_of}
use Rattle.html_command.specs.Private.Requests.{parsed_dictionary}
use Rattle.html_command.proofs.request.dictionaries_of.Given as goal

-- The dictionaries of values to come, after those so far, are those of all values.
abbrev pub invariant-loop-value : goal.invariant-loop-value
invariant-loop-value l =
    dictionaries_after (map parsed_dictionary l.given.items) (texts_now (drop l.value-index l.values)) ≡ dictionaries_of (texts_now l.values)

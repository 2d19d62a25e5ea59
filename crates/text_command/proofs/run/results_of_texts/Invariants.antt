use Rattle.std.proofs.Common.{◌≡◌, ◌++◌, map}
use Rattle.std.specs.String.{string_bytes}
use Rattle.hyphenation_breaks.specs.Borrowed.{texts_now}
use Rattle.text_command.specs.Private.Requests.{parsed_options}
use Rattle.text_command.specs.Written.{results_of}
use Rattle.text_command.proofs.run.results_of_texts.Given as goal

abbrev pub invariant-loop-name : goal.invariant-loop-name
invariant-loop-name l =
    map string_bytes l.results.items ++ results_of (parsed_options l.options) l.dictionary (texts_now l.name-iterator.a.rest.now) (map string_bytes l.name-iterator.b.rest.now)
    ≡ results_of (parsed_options l.options) l.dictionary (texts_now l.names) (map string_bytes l.texts)

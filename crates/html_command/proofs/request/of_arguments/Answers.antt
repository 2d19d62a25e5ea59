use Rattle.std.proofs.Common.{ap}
use Rattle.hyphenation_breaks.specs.Borrowed.{texts_now}
use Rattle.command_line.specs.Reading.{as_read}
use Rattle.html_command.specs.Private.Requests.{parsed_options, parsed_request}
use Rattle.html_command.proofs.Requests.{parsed_as, refused_as}
use Rattle.html_command.proofs.request.of_arguments.Goals as goal

pub returns-clause-parsed : goal.returns-clause-parsed
returns-clause-parsed c =
    parsed_as parsed_request (as_read c.args.arguments.now) (parsed_options c.in_ok-options.options) (texts_now c.deref.result.now) c.with_names.result
    c.in_ok-options.ensures.parsed (ap texts_now c.deref.ensures.value) c.with_names.ensures.parsed

pub returns-clause-refused : goal.returns-clause-refused
returns-clause-refused c =
    refused_as (as_read c.args.arguments.now) (parsed_options c.in_ok-options.options) (texts_now c.deref.result.now) c.with_names.result
    c.in_ok-options.ensures.parsed (ap texts_now c.deref.ensures.value) c.with_names.ensures.refused

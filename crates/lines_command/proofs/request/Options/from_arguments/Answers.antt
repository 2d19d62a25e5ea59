use Rattle.command_line.specs.Reading.{given_options}
use Rattle.lines_command.proofs.Requests.{wanted}
use Rattle.lines_command.proofs.request.Options.from_arguments.Goals as goal

pub returns : goal.returns
returns c =
    wanted _ (given_options c.args.arguments.now) _ _ _ _ _ _ _ _ _ _ c.in_ok-columns.ensures c.in_ok-last_columns.ensures c.in_ok-ladder.ensures c.in_ok-price.ensures
    c.has.ensures c.has-2.ensures c.limit_of.ensures c.first_given.ensures c.indent_given.ensures c.last.ensures c.if_limit_serves.ensures

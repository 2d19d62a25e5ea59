use Rattle.std.proofs.Common.{◌∙◌}
use Rattle.command_line.specs.Adjustments.{as_adjustments}
use Rattle.html_command.proofs.Given.{given_more}
use Rattle.html_command.proofs.dictionaries.load_given.Goals as goal

pub loop-one-preserved : goal.loop-one-preserved
loop-one-preserved g c =
    given_more (g.F.NamedFiles.bytes c.args.files.now) (as_adjustments c.args.adjustments.now) c.args.given.now c.loop-one.one-index c.one-item.result c.loop-one.all.items c.push.new.all.items
    c.in_ok-language.language c.in_ok-dictionary.dictionary c.loop-one-test.true c.one-item.is c.loop-one.invariant
    (c.in_ok-language.ensures.code ∙ c.code.ensures) c.in_ok-language.ensures.dictionary c.in_ok-dictionary.ensures.loaded c.in_ok-push.ensures.pushed

use Rattle.std.proofs.Common.{ap, ◌∙◌}
use Rattle.html_pieces.specs.References.{character_of, number_of}
use Rattle.html_pieces.proofs.NumberSteps.{character_of_capped}
use Rattle.html_pieces.proofs.references.character_by.Goals as goal

pub returns : goal.returns
returns c =
    c.character_of.ensures ∙ ap character_of c.number_of.ensures ∙ character_of_capped (number_of c.args.hexadecimal c.args.digits.now)

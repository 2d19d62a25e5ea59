use Rattle.std.proofs.Common.{◌++◌, sym, ap, ◌∙◌, arith}
use Rattle.std.specs.Prelude.{encode_utf8}
use Rattle.unicode_segmentation.proofs.TextLemmas.{IsCharAt-first}
use Rattle.word_pieces.proofs.characters.char_at.Goals as goal

pub returns-clause-is : goal.returns-clause-is
returns-clause-is c =
    IsCharAt-first c.args.text.now c.utf8.text c.args.start c.args.limit c.in-Some.c c.as_str.result.now (omega arith) c.requires.start c.requires.limit
    (sym c.range.ensures.value ∙ sym c.chars-chars.ensures.rest ∙ c.in-Some.ensures.steps.0 ∙ ap (λ t. encode_utf8 c.in-Some.c ++ t) (sym c.as_str.ensures))

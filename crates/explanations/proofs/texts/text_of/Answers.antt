use Rattle.explanations.specs.Private.Drawing.{facts_in}
use Rattle.explanations.proofs.texts.text_of.Goals as goal

pub returns : goal.returns
returns g c = record {
  facts = facts_in g.C.Payload.change_of g.B.Break.meaning c.in_ok-known.known;
  right = c.in_ok-known.ensures;
  text_is = c.in_ok-text.ensures;
}

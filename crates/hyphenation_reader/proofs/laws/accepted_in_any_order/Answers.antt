use Rattle.hyphenation_grammar.specs.Form.{version_by}
use Rattle.hyphenation_reader.proofs.JudgingAnyOrder.{accepted-anyhow}
use Rattle.hyphenation_reader.proofs.laws.accepted_in_any_order.Goals as goal

pub returns : goal.returns
returns c = λ kind first second third ls ms. accepted-anyhow (record { kind = kind; version = version_by kind first }) first second third ls ms

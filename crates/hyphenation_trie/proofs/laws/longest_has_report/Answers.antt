use Rattle.std.proofs.Common.{◌∷◌}
use Rattle.hyphenation_trie.proofs.LinksMade.{report_next}
use Rattle.hyphenation_trie.proofs.laws.longest_has_report.Goals as goal

-- A text is one with a first byte, without it.
pub returns : goal.returns
returns g c = λ tree text. report_next tree (0 ∷ text)

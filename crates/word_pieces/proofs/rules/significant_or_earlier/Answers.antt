use Rattle.std.proofs.Common.{◌∙◌}
use Rattle.unicode_segmentation.proofs.WordLemmas.{value_at-kept}
use Rattle.word_pieces.proofs.rules.significant_or_earlier.Goals as goal

pub returns-else-is_ignored : goal.returns-else-is_ignored
returns-else-is_ignored c = c.requires.last ∙ value_at-kept _ c.requires.some (cc)

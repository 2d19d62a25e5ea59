use Rattle.written_texts.proofs.KeptPrefixes.{prefixes_kept}
use Rattle.written_texts.proofs.laws.lines_keep_prefixes.Goals as goal

pub returns : goal.returns
returns c = prefixes_kept

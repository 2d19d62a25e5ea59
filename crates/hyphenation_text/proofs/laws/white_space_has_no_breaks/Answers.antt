use Rattle.hyphenation_text.proofs.LetterTokens.{white_places}
use Rattle.hyphenation_text.proofs.laws.white_space_has_no_breaks.Goals as goal

pub returns : goal.returns
returns c = white_places

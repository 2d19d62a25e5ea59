use Rattle.std.proofs.Common.{take}
use Rattle.hyphenation_breaks.proofs.LanguageCodes.{is_code-utf8, is_ok_unless}
use Rattle.hyphenation_breaks.proofs.language.Language.code.Goals as goal

pub unwrap-requires : goal.unwrap-requires
unwrap-requires c =
    let text = is_code-utf8 (take c.self.inside.len c.self.inside.bytes) c.self.invariant.code in
    is_ok_unless _ _ _ c.from_utf8.ensures.cases (λ e q. q.0 text)

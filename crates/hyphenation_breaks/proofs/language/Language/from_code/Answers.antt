use Rattle.std.proofs.Common.{sym, ◌∙◌}
use Rattle.hyphenation_breaks.specs.Language.{IsCode}
use Rattle.hyphenation_breaks.proofs.LanguageCodes.{IsHeld-made}
use Rattle.hyphenation_breaks.proofs.language.Language.from_code.Goals as goal

pub invariant_of-result : goal.invariant_of-result
invariant_of-result c =
    let code : IsCode c.as_bytes-text.result.now = sym c.is_code.ensures ∙ c.if-not-is_code.false in
    rw c.copy_from_slice.ensures.after (IsHeld-made c.as_bytes-text.result.now code)

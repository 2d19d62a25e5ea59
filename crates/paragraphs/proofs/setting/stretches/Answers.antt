use Rattle.std.proofs.Common.{◌≡◌, false, MatchOption, subst}
use Rattle.paragraphs.specs.Settings.{stretch_of}
use Rattle.paragraphs.specs.Private.PartSettings.{setting_of, is_short_part}
use Rattle.paragraphs.proofs.ShortParts.{one_not_short}
use Rattle.paragraphs.proofs.setting.stretches.Goals as goal

pub returns-in-None : goal.returns-in-None
returns-in-None c =
    let part = c.part-item.result in
    let long = subst (λ m. MatchOption m (is_short_part part ≡ false) (λ s. s ≡ stretch_of (setting_of part))) c.in-None.is c.in_ok-made.ensures in
    one_not_short c.args.parts.now c.loop-part.part-index part c.loop-part-test.true c.part-item.is long

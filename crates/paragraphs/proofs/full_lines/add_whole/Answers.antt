use Rattle.std.proofs.Common.{false, [], ◌∷◌, ◌++◌, ap, refl, ◌∙◌}
use Rattle.std.proofs.lemmas.List.{map-append}
use Rattle.paragraphs.specs.Settings.{stretch_of}
use Rattle.paragraphs.specs.Private.Changes.{joint_bytes, before_bytes}
use Rattle.paragraphs.specs.Private.PartSettings.{setting_of, settings_of}
use Rattle.paragraphs.proofs.OpenLines.{added_whole}
use Rattle.paragraphs.proofs.WholeWords.{rest_of}
use Rattle.paragraphs.proofs.full_lines.add_whole.Goals as goal

pub returns : goal.returns
returns c =
    let old = c.args.full.now in
    let word = c.args.text.now in
    let before = settings_of old.parts.items in
    let changes = c.none.result in
    let whole = rest_of word [] 0 in
    let made = ap (λ o. record whole { opening = o; joint = joint_bytes changes false; closing = before_bytes changes ++ [] }) c.none.ensures.after
    ∙ ap (λ j. record whole { joint = j; closing = before_bytes changes ++ [] }) c.none.ensures.space
    ∙ ap (λ b. record whole { closing = b ++ [] }) c.none.ensures.before in
    added_whole old _ word c.requires.is_open c.requires.fits c.requires.printable refl refl
    (ap settings_of c.in_ok-push-2.ensures.items ∙ map-append setting_of old.parts.items _ ∙ ap (λ s. before ++ s ∷ []) made)
    (c.in_ok-push.ensures.items ∙ ap (λ s. old.stretches.items ++ s ∷ []) (c.bare_stretch.ensures ∙ ap stretch_of made))
    refl

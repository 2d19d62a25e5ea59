use Rattle.std.proofs.Common.{◌≡◌, true, ◌++◌, ap, sym, ◌∙◌, append_assoc, rules}
use Rattle.std.specs.String.{string_bytes}
use Rattle.paragraphs.specs.Settings.{shown}
use Rattle.paragraphs.specs.Private.PartSettings.{joint_of}
use Rattle.paragraphs.proofs.Printable.{printable_shown}
use Rattle.paragraphs.proofs.setting.push_joined.Goals as goal

pub returns-then-part : goal.returns-then-part
returns-then-part c =
    let part = c.args.part.now in
    let line = string_bytes c.args.line.now in
    let text = part.text.now in
    let joint = joint_of part in
    let plain : part.plain ≡ true = search rules in
    c.in_ok-push_joint.ensures ∙ ap (λ j. string_bytes c.push_str.new.self ++ j) c.joint.ensures ∙ ap (λ s. s ++ joint) c.in_ok-push_str.ensures.bytes ∙ append_assoc line text joint
    ∙ ap (λ s. line ++ (s ++ joint)) (sym (printable_shown text (part.text_printable plain)))
    ∙ ap (λ s. line ++ (shown text ++ s)) (sym (printable_shown joint (part.joint_printable plain)))

use Rattle.std.proofs.Common.{◌-◌, ◌++◌, ap, sym, ◌∙◌, arith, append-nil}
use Rattle.std.specs.List.{flat_map, slice_range}
use Rattle.std.specs.String.{string_bytes}
use Rattle.std.proofs.lemmas.List.{take_all}
use Rattle.paragraphs.specs.Private.PartSettings.{settings_of}
use Rattle.paragraphs.specs.Settings.{setting_at, shown_text}
use Rattle.paragraphs.proofs.SetLines.{setting_read, line_whole}
use Rattle.paragraphs.proofs.setting.line.Goals as goal

pub returns : goal.returns
returns c =
    let parts = c.args.parts.now in
    let line = string_bytes c.loop-part.line in
    let front = slice_range parts c.args.start (c.args.end - 1) in
    let so_far = c.loop-part.invariant ∙ ap (λ ps. (setting_at (settings_of parts) c.args.start).opening ++ flat_map shown_text (settings_of ps)) (take_all c.loop-part.part-index front c.loop-part-test.false) in
    c.in_ok-push_last.ensures ∙ line_whole parts c.args.start c.args.end c.index-parts-end.result line c.requires.order c.requires.within c.index-parts-end.is so_far

pub loop-part-init : goal.loop-part-init
loop-part-init c =
    let parts = c.args.parts.now in
    let here = setting_read parts c.args.start c.index-parts-start.result (omega (arith, c.requires.order, c.requires.within)) c.index-parts-start.is in
    c.in_ok-line.ensures ∙ ap (λ s. s.opening) (sym here) ∙ sym (append-nil (setting_at (settings_of parts) c.args.start).opening)

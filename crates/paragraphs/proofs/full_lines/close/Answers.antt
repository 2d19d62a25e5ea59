use Rattle.std.proofs.Common.{[], ◌∷◌, map, sym, ap, subst, ◌∙◌, arith}
use Rattle.std.specs.String.{string_bytes}
use Rattle.std.proofs.lemmas.List.{map-append}
use Rattle.paragraphs.specs.Private.FullLines.{AreFull}
use Rattle.paragraphs.specs.Private.PartSettings.{settings_of}
use Rattle.paragraphs.specs.Settings.{line_text}
use Rattle.paragraphs.proofs.OpenLines.{closed}
use Rattle.paragraphs.proofs.full_lines.close.Goals as goal

pub returns : goal.returns
returns c = λ all lead.
    let full = c.args.full in
    let last = string_bytes c.in_ok-last.last in
    let text = c.in_ok-last.ensures ∙ ap (λ ps. line_text (settings_of ps) 0 c.len.result) c.deref.ensures.value ∙ ap (line_text (settings_of full.parts.items) 0) (omega (arith, c.len.ensures, full.parts.ok)) in
    let made = lead (last ∷ []) (closed full last c.requires.is_open c.requires.some text) in
    subst (AreFull full.columns all) (sym (ap (map string_bytes) c.in_ok-push.ensures.items ∙ map-append string_bytes full.lines.items (c.in_ok-last.last ∷ []))) made

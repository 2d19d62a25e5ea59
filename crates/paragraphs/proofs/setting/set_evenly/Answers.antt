use Rattle.std.proofs.Common.{map, length, sym, ap, subst, ◌∙◌}
use Rattle.std.proofs.lemmas.List.{length-map}
use Rattle.line_division.specs.Division.{Divides}
use Rattle.paragraphs.specs.Aims.{IsEven}
use Rattle.paragraphs.specs.Private.Ends.{Rise}
use Rattle.paragraphs.specs.Private.PartSettings.{settings_of}
use Rattle.paragraphs.specs.Settings.{stretch_of, lines_to}
use Rattle.paragraphs.proofs.SetLines.{divides_rise, length-set_stretches, whole_from}
use Rattle.paragraphs.proofs.setting.set_evenly.Goals as goal

pub lines-requires : goal.lines-requires
lines-requires c =
    let parts = c.args.parts.now in
    let row = c.in_ok-row.row.items in
    let divides = subst (λ ss. Divides ss c.args.columns 0 row) c.requires.measured c.in_ok-row.ensures.divides in
    subst (Rise 0 (length parts)) (sym c.deref.ensures.value) (subst (λ n. Rise 0 n row) (length-set_stretches parts) (divides_rise (map stretch_of (settings_of parts)) c.args.columns 0 row divides))

pub returns : goal.returns
returns c =
    let parts = c.args.parts.now in
    let all = map stretch_of (settings_of parts) in
    let row = c.in_ok-row.row.items in
    let made = c.in_ok-row.ensures in
    let even : IsEven c.args.stretches.now c.args.columns c.args.last_columns c.args.ladder row = record { divides = made.divides; least = made.least; fits = made.fits; keeps = made.ladder } in
    let aimed = subst (λ ss. IsEven ss c.args.columns c.args.last_columns c.args.ladder row) c.requires.measured even in
    record {
      row = row;
      aimed = aimed;
      text = c.in_ok-lines.ensures ∙ ap (lines_to (settings_of parts) 0) c.deref.ensures.value;
      whole = whole_from (settings_of parts) all c.args.columns 0 row (length-map (settings_of parts) stretch_of) aimed.divides;
    }

use Rattle.std.proofs.Common.{◌≡◌, false, MatchOption, map, ◌++◌, ◌-◌, sym, ap, subst, refl, ◌∙◌, arith}
use Rattle.std.specs.List.{list_all, sum_by}
use Rattle.std.proofs.lemmas.List.{length-map, map-append}
use Rattle.line_division.specs.Lines.{joined_width}
use Rattle.paragraphs.specs.declared.full_lines.FullLines.{FullLines}
use Rattle.paragraphs.specs.Private.FullLines.{EndsNarrow}
use Rattle.paragraphs.specs.Private.PartSettings.{setting_of, settings_of, is_short_part}
use Rattle.paragraphs.specs.Settings.{stretch_of}
use Rattle.paragraphs.proofs.OpenLines.{narrow_after, lead_parts, added_parts}
use Rattle.paragraphs.proofs.full_lines.add_parts.Goals as goal

pub settle-requires-clause-narrow : goal.settle-requires-clause-narrow
settle-requires-clause-narrow c =
    let old = c.args.full.now.parts.items in
    let added = c.args.parts.now.items in
    subst EndsNarrow (sym (ap settings_of c.in_ok-append-2.ensures.items ∙ map-append setting_of old added))
    (narrow_after (settings_of old) (settings_of added) (omega (arith, c.requires.some, length-map added setting_of)) c.requires.narrow)

pub returns-then-full-eq0-clause-added : goal.returns-then-full-eq0-clause-added
returns-then-full-eq0-clause-added c = λ _.
    let old = c.args.full.now in
    let mid : FullLines = record old { parts = c.append-2.new.self; stretches = c.append.new.self; room = c.room_after-full.result } in
    let parts = ap settings_of c.in_ok-append-2.ensures.items ∙ map-append setting_of old.parts.items c.args.parts.now.items in
    let settled = c.in_ok-settle.ensures in
    record {
      columns = settled.columns;
      leads = λ all rest lead. settled.leads all rest (lead_parts all (settings_of c.args.parts.now.items) rest old mid refl refl parts lead);
      is_open = settled.is_open;
      some = settled.some;
    }

pub returns-clause-added : goal.returns-clause-added
returns-clause-added c = λ _.
    let old = c.args.full.now in
    let added = c.args.parts.now.items in
    let parts = ap settings_of c.in_ok-append-2.ensures.items ∙ map-append setting_of old.parts.items added in
    let read = c.deref.result.now in
    let made = subst (λ m. MatchOption m (list_all is_short_part read ≡ false) (λ v. v.items ≡ map stretch_of (settings_of read))) c.in-Some.is c.in_ok-made.ensures
    ∙ ap (λ ps. map stretch_of (settings_of ps)) c.deref.ensures.value in
    added_parts old _ (settings_of added) c.requires.is_open (omega (arith, c.requires.some, length-map added setting_of)) c.requires.narrow refl refl parts
    (c.in_ok-append.ensures.items ∙ ap (λ ss. old.stretches.items ++ ss) made)
    (c.room_after-full.ensures ∙ ap (λ ss. old.room - sum_by joined_width ss) (c.deref-2.ensures.value ∙ made))
    (omega (arith, c.if-full-eq0.false))

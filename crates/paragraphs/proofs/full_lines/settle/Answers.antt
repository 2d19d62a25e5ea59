use Rattle.std.proofs.Common.{length, map, drop, ◌+◌, ◌-◌, sym, ap, ap₂, subst, refl, ◌∙◌, ◌++◌, ◌∷◌, [], arith, length-drop}
use Rattle.std.specs.String.{string_bytes}
use Rattle.std.proofs.lemmas.List.{map-append}
use Rattle.line_division.specs.Greedy.{AreFurthest}
use Rattle.paragraphs.specs.Private.Ends.{Rise}
use Rattle.paragraphs.specs.Private.FullLines.{last_end, joined_columns}
use Rattle.paragraphs.specs.Private.PartSettings.{settings_of}
use Rattle.paragraphs.specs.Settings.{lines_to}
use Rattle.paragraphs.proofs.OpenLines.{inner_rise, last_line, settled_lines}
use Rattle.paragraphs.proofs.SetLines.{length-set_stretches}
use Rattle.paragraphs.proofs.full_lines.settle.Goals as goal

pub lines-requires : goal.lines-requires
lines-requires c =
    let old = c.args.full.now in
    let far = c.in_ok-ends.ensures in
    let rise = inner_rise c.deref.result.now old.columns 0 far.0 c.in_ok-ends.ends.items far.1 in
    let count = ap length (c.deref.ensures.value ∙ c.requires.measured) ∙ length-set_stretches old.parts.items ∙ ap length (sym c.deref-2.ensures.value) in
    subst (Rise 0 (length c.deref-2.result.now)) (sym c.deref-3.ensures.value) (subst (λ n. Rise 0 n c.in_ok-ends.ends.items) count rise)

pub keep_from-requires : goal.keep_from-requires
keep_from-requires c =
    let old = c.args.full.now in
    let far = c.in_ok-ends.ensures in
    let end = last_line c.deref.result.now old.columns 0 far.0 c.in_ok-ends.ends.items far.1 in
    let count = ap length (c.deref.ensures.value ∙ c.requires.measured) ∙ length-set_stretches old.parts.items in
    let start = c.last_end-start.ensures ∙ ap (last_end 0) c.deref-4.ensures.value in
    omega (arith, end.0, count, start)

pub room_of-full-requires : goal.room_of-full-requires
room_of-full-requires c =
    let old = c.args.full.now in
    let far = c.in_ok-ends.ensures in
    let end = last_line c.deref.result.now old.columns 0 far.0 c.in_ok-ends.ends.items far.1 in
    let start = c.last_end-start.ensures ∙ ap (last_end 0) c.deref-4.ensures.value in
    omega (arith, end.0, start, ap length c.deref.ensures.value, ap length (c.deref-5.ensures.value ∙ c.in_ok-keep_from-2.ensures), length-drop c.last_end-start.result old.stretches.items)

pub returns : goal.returns
returns c =
    let old = c.args.full.now in
    let far = c.in_ok-ends.ensures in
    let ends = c.in_ok-ends.ends.items in
    let furthest = subst (λ ss. AreFurthest ss old.columns 0 (ends ++ far.0 ∷ [])) c.deref.ensures.value far.1 in
    let made = c.in_ok-made.ensures ∙ ap₂ (λ ps es. lines_to (settings_of ps) 0 es) c.deref-2.ensures.value c.deref-3.ensures.value in
    let lines = ap (map string_bytes) c.in_ok-append.ensures.items ∙ map-append string_bytes old.lines.items c.in_ok-made.made.items ∙ ap (λ ls. map string_bytes old.lines.items ++ ls) made in
    let start = c.last_end-start.ensures ∙ ap (last_end 0) c.deref-4.ensures.value in
    settled_lines old _ far.0 ends c.requires.measured c.requires.narrow furthest refl lines
    (c.in_ok-keep_from.ensures ∙ ap (λ n. drop n old.parts.items) start)
    (c.in_ok-keep_from-2.ensures ∙ ap (λ n. drop n old.stretches.items) start)
    (c.room_of-full.ensures ∙ ap (λ ss. old.columns + 1 - joined_columns ss) c.deref-5.ensures.value)

pub keep_from-requires-2 : goal.keep_from-requires-2
keep_from-requires-2 c =
    let end = last_line c.deref.result.now c.args.full.now.columns 0 c.in_ok-ends.ensures.0 c.in_ok-ends.ends.items c.in_ok-ends.ensures.1 in
    let start = c.last_end-start.ensures ∙ ap (last_end 0) c.deref-4.ensures.value in
    omega (arith, end.0, start, ap length c.deref.ensures.value)

use Rattle.std.proofs.Common.{map, [], refl, sym, ap, subst}
use Rattle.std.specs.String.{string_bytes}
use Rattle.paragraphs.specs.Aims.{IsSet}
use Rattle.paragraphs.specs.declared.setting.Aim.TheVariants.{Full}
use Rattle.paragraphs.specs.Styles.{style_of}
use Rattle.paragraphs.specs.Parts.{word_parts, other_parts, parts_of}
use Rattle.paragraphs.specs.Words.{words}
use Rattle.paragraphs.proofs.FullLines.{FurthestLaw, full_set}
use Rattle.paragraphs.proofs.OpenLines.{all_full}
use Rattle.paragraphs.proofs.text.full_lines.Goals as goal

pub returns-in_default-clause-lines : goal.returns-in_default-clause-lines
returns-in_default-clause-lines g c =
    let make = parts_of (g.H.Hyphenator.breaks_of c.args.dictionary.now) (style_of c.args.style.now) in
    let law : FurthestLaw = record { divide = c.furthest_ends_are_fewest.ensures.divide; fewest = c.furthest_ends_are_fewest.ensures.fewest; fit = c.furthest_ends_are_fewest.ensures.fit } in
    subst (IsSet Full (make (words c.args.text.now)) c.args.columns) (sym (ap (map string_bytes) c.new.ensures.items))
    (subst (λ ws. IsSet Full (make ws) c.args.columns []) (sym c.in_default.ensures.word) (full_set law c.args.columns [] [] refl))

pub returns-clause-lines : goal.returns-clause-lines
returns-clause-lines g c =
    let breaks_of = g.H.Hyphenator.breaks_of c.args.dictionary.now in
    let style = style_of c.args.style.now in
    let first = c.in-Some.first in
    let all = parts_of breaks_of style (words c.args.text.now) in
    let lines = map string_bytes c.in_ok-lines.lines.items in
    let law : FurthestLaw = record { divide = c.furthest_ends_are_fewest.ensures.divide; fewest = c.furthest_ends_are_fewest.ensures.fewest; fit = c.furthest_ends_are_fewest.ensures.fit } in
    let none = c.no_lines-full.ensures in
    full_set law c.args.columns all lines
    (all_full all (word_parts breaks_of style style.first first.text.now) (other_parts breaks_of style (words first.after.now)) c.no_lines-full.result c.add_parted.new.full c.add_others.new.full c.args.columns lines
    (ap (parts_of breaks_of style) c.in-Some.ensures.word) none.parts none.lines none.columns c.in_ok-add_parted.ensures.added c.in_ok-add_others.ensures.added c.in_ok-lines.ensures)

use Rattle.std.proofs.Common.{◌≡◌, false, MatchOption, sym, ap, subst, map, ◌∙◌}
use Rattle.std.specs.List.{list_all}
use Rattle.std.specs.String.{string_bytes}
use Rattle.paragraphs.specs.Aims.{IsSet}
use Rattle.paragraphs.specs.declared.setting.Aim.TheVariants.{Even}
use Rattle.paragraphs.specs.Settings.{stretch_of}
use Rattle.paragraphs.specs.Private.PartSettings.{settings_of, is_short_part}
use Rattle.paragraphs.specs.Styles.{style_of}
use Rattle.paragraphs.specs.Parts.{parts_of}
use Rattle.paragraphs.specs.Words.{words}
use Rattle.paragraphs.proofs.ShortParts.{not_all_short}
use Rattle.paragraphs.proofs.text.even_lines.Goals as goal

pub returns-clause-too_long : goal.returns-clause-too_long
returns-clause-too_long g c = λ _.
    let style = style_of c.args.style.now in
    let read = c.deref.result.now in
    let long = subst (λ m. MatchOption m (list_all is_short_part read ≡ false) (λ v. v.items ≡ map stretch_of (settings_of read))) c.in-None.is c.in_ok-made.ensures in
    not_all_short c.in_ok-parts.parts.items (parts_of (g.H.Hyphenator.breaks_of c.args.dictionary.now) style (words c.args.text.now)) c.in_ok-parts.ensures
    (ap (list_all is_short_part) (sym c.deref.ensures.value) ∙ long)

pub returns-in-Some-clause-lines : goal.returns-in-Some-clause-lines
returns-in-Some-clause-lines g c =
    subst (λ parts. IsSet (Even c.args.last_columns c.args.ladder) parts c.args.columns (map string_bytes c.in_ok-lines-in-Some.lines.items))
    (ap settings_of c.deref-in-Some.ensures.value ∙ c.in_ok-parts.ensures) c.in_ok-lines-in-Some.ensures

use Rattle.std.proofs.Common.{map, sym, subst}
use Rattle.std.specs.String.{string_bytes}
use Rattle.paragraphs.specs.Aims.{IsSet}
use Rattle.paragraphs.specs.Styles.{style_of}
use Rattle.paragraphs.specs.Parts.{parts_of}
use Rattle.paragraphs.specs.Words.{words}
use Rattle.paragraphs.proofs.PlainParts.{plain_parts_orderly}
use Rattle.paragraphs.proofs.WordsKept.{words_kept}
use Rattle.paragraphs.proofs.text.fill.Goals as goal

pub returns-in_ok-lines-in-Full-clause-lines : goal.returns-in_ok-lines-in-Full-clause-lines
returns-in_ok-lines-in-Full-clause-lines g c =
    let breaks_of = g.H.Hyphenator.breaks_of c.args.dictionary.now in
    let style = style_of c.args.style.now in
    let all = words c.args.text.now in
    let lines = map string_bytes c.in_ok-lines-in-Full.lines.items in
    record {
      set = subst (λ aim. IsSet aim (parts_of breaks_of style all) c.args.columns lines) (sym c.in-Full.is) c.in_ok-lines-in-Full.ensures.lines;
      keeps = words_kept breaks_of style all;
      orderly = plain_parts_orderly breaks_of style all;
    }

pub returns-in_ok-lines-in-Even-clause-lines : goal.returns-in_ok-lines-in-Even-clause-lines
returns-in_ok-lines-in-Even-clause-lines g c =
    let breaks_of = g.H.Hyphenator.breaks_of c.args.dictionary.now in
    let style = style_of c.args.style.now in
    let all = words c.args.text.now in
    let lines = map string_bytes c.in_ok-lines-in-Even.lines.items in
    record {
      set = subst (λ aim. IsSet aim (parts_of breaks_of style all) c.args.columns lines) (sym c.in-Even.is) c.in_ok-lines-in-Even.ensures.lines;
      keeps = words_kept breaks_of style all;
      orderly = plain_parts_orderly breaks_of style all;
    }

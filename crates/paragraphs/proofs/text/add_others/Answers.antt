use Rattle.std.proofs.Common.{◌≡◌, ◌++◌, [], ap, subst, ◌∙◌, append_assoc, rules}
use Rattle.std.specs.List.{list_all}
use Rattle.paragraphs.specs.Private.FullLines.{Lead}
use Rattle.paragraphs.specs.Settings.{is_short}
use Rattle.paragraphs.specs.Styles.{style_of}
use Rattle.paragraphs.specs.Parts.{word_parts, other_parts}
use Rattle.paragraphs.specs.Words.{words}
use Rattle.paragraphs.proofs.OpenLines.{long_others}
use Rattle.paragraphs.proofs.text.add_others.Goals as goal

pub loop-next-preserved : goal.loop-next-preserved
loop-next-preserved g c =
    let breaks_of = g.H.Hyphenator.breaks_of c.args.dictionary.now in
    let style = style_of c.args.style.now in
    let word = c.in-Some.next in
    let parts = word_parts breaks_of style style.indent word.text.now in
    let others = other_parts breaks_of style (words word.after.now) in
    let here = ap (other_parts breaks_of style) c.in-Some.ensures.word in
    let added = c.in_ok-add_word.ensures.added in
    let before = c.loop-next.invariant in
    record {
      columns = added.columns ∙ before.columns;
      leads = λ all rest lead.
          added.leads all (others ++ rest) (subst (Lead all c.loop-next.full) (ap (λ s. s ++ rest) here ∙ append_assoc parts others rest) (before.leads all rest lead));
      is_open = added.is_open;
      some = added.some;
      long = λ is. before.long (ap (list_all is_short) here ∙ long_others parts others is);
      text = search rules;
    }

pub returns-clause-added : goal.returns-clause-added
returns-clause-added g c =
    let make = other_parts (g.H.Hyphenator.breaks_of c.args.dictionary.now) (style_of c.args.style.now) in
    let done = c.loop-next.invariant in
    let none : words c.loop-next.rest.now ≡ [] = search rules in
    record {
      columns = done.columns;
      leads = λ all rest lead. subst (Lead all c.loop-next.full) (ap (λ ws. make ws ++ rest) none) (done.leads all rest lead);
      is_open = done.is_open;
      some = done.some;
    }

use Rattle.std.proofs.Common.{◌++◌, ap, sym, ◌∙◌, append_assoc, rules}
use Rattle.std.specs.List.{flat_map}
use Rattle.paragraphs.specs.Private.PartSettings.{settings_of}
use Rattle.paragraphs.specs.Styles.{style_of}
use Rattle.paragraphs.specs.Parts.{word_parts}
use Rattle.paragraphs.specs.Words.{words}
use Rattle.paragraphs.proofs.text.push_others.Goals as goal

pub loop-word-preserved : goal.loop-word-preserved
loop-word-preserved g c =
    let word = c.in-Some.word in
    let make = word_parts (g.H.Hyphenator.breaks_of c.args.dictionary.now) (style_of c.args.style.now) (style_of c.args.style.now).indent in
    let old = settings_of c.loop-word.parts.items in
    record {
      made =
          ap (λ s. s ++ flat_map make (words word.after.now)) c.in_ok-push_found.ensures
          ∙ append_assoc old (make word.text.now) (flat_map make (words word.after.now))
          ∙ ap (λ ws. old ++ flat_map make ws) (sym c.in-Some.ensures.word)
          ∙ c.loop-word.invariant.made;
      text = search rules;
    }

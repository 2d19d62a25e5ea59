use Rattle.paragraphs.specs.Styles.{style_of}
use Rattle.paragraphs.proofs.text.add_word.Goals as goal

pub returns-then-word-full-clause-added : goal.returns-then-word-full-clause-added
returns-then-word-full-clause-added g c = c.in_ok-add_whole.ensures (g.H.Hyphenator.breaks_of c.args.dictionary.now) (style_of c.args.style.now)

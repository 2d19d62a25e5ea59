use Rattle.hyphenation_grammar.proofs.Spellings.{bytes-read, bytes-spelt, elements-read, elements-spelt, pattern-read, pattern-spelt}
use Rattle.hyphenation_grammar.proofs.laws.each_spelling_is_read.Goals as goal

pub returns-clause-bytes : goal.returns-clause-bytes
returns-clause-bytes c = λ escapes token bytes. (λ e. bytes-spelt escapes token bytes e, λ h. bytes-read escapes token bytes h)

pub returns-clause-elements : goal.returns-clause-elements
returns-clause-elements c = λ version bytes elements. (λ e. elements-spelt version bytes elements e, λ h. elements-read version bytes elements h)

pub returns-clause-patterns : goal.returns-clause-patterns
returns-clause-patterns c = λ version token elements. (λ e. pattern-spelt version token elements e, λ h. pattern-read version token elements h)

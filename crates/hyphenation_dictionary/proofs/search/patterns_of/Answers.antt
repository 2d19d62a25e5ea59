use Rattle.std.proofs.Common.{IfSome, sym, subst}
use Rattle.hyphenation_trie.specs.Tables.{IsTableOf}
use Rattle.hyphenation_trie.specs.Trie.{entries_of_key}
use Rattle.hyphenation_dictionary.proofs.PatternsLemmas.{get-patterns_of}
use Rattle.hyphenation_dictionary.proofs.search.patterns_of.Goals as goal

pub returns-clause-known : goal.returns-clause-known
returns-clause-known g c = λ text. rw (← c.dictionary.view_is) (get-patterns_of _ c.dictionary.inside.patterns c.invariant.ensures text)

pub returns-clause-table : goal.returns-clause-table
returns-clause-table g c =
    subst (λ made. IfSome made (λ table. IsTableOf g.C.Payload.rank_of (entries_of_key c.dictionary.inside.patterns) table)) (sym c.as_ref.ensures.value) c.dictionary.invariant.1

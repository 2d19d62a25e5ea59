use Rattle.std.proofs.Common.{◌≡◌, ◌++◌, drop, map}
use Rattle.hyphenation_writer.specs.Canonical.{with_line_feeds}
use Rattle.hyphenation_dictionary.specs.Parts.{pair_views}
use Rattle.hyphenation_writer.specs.Private.Writing.{word_line}
use Rattle.hyphenation_writer.proofs.writer.push_exceptions.Given as goal

abbrev pub invariant-loop-word : goal.invariant-loop-word
invariant-loop-word g l =
    l.text.items ++ with_line_feeds (map (word_line g.B.Break.meaning) (pair_views (drop l.word-index l.words))) ≡ l.initial.text.items ++ with_line_feeds (map (word_line g.B.Break.meaning) (pair_views l.words))

use Rattle.std.proofs.Common.{◌≡◌, ◌++◌, drop, map}
use Rattle.hyphenation_writer.specs.Canonical.{with_line_feeds}
use Rattle.hyphenation_dictionary.specs.Parts.{pair_views}
use Rattle.hyphenation_writer.specs.Private.Writing.{key_line}
use Rattle.hyphenation_writer.proofs.writer.push_patterns.Given as goal

abbrev pub invariant-loop-key : goal.invariant-loop-key
invariant-loop-key g l =
    l.text.items ++ with_line_feeds (map (key_line l.version g.C.Payload.change_of) (pair_views (drop l.key-index l.keys)))
    ≡ l.initial.text.items ++ with_line_feeds (map (key_line l.version g.C.Payload.change_of) (pair_views l.keys))

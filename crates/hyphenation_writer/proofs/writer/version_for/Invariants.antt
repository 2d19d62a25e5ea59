use Rattle.std.proofs.Common.{◌≡◌, drop}
use Rattle.hyphenation_dictionary.specs.Parts.{pair_views}
use Rattle.hyphenation_writer.specs.Private.Writing.{version_of_keys}
use Rattle.hyphenation_writer.proofs.writer.version_for.Given as goal

abbrev pub invariant-loop-entries : goal.invariant-loop-entries
invariant-loop-entries g l = version_of_keys (pair_views (drop l.entries-index l.keys)) ≡ version_of_keys (pair_views l.keys)

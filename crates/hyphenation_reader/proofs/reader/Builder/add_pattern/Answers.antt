use Rattle.std.proofs.Common.{◌∙◌, ap, sym}
use Rattle.std.specs.Prelude.{is_some}
use Rattle.hyphenation_reader.proofs.reader.Builder.add_pattern.Goals as goal

pub returns-clause-was_held : goal.returns-clause-was_held
returns-clause-was_held g c = c.in_ok-had.ensures.had ∙ ap is_some (sym (c.keys_are_looked_up.ensures c.args.self.now.patterns c.invariant.ensures c.args.key.now))

pub returns-clause-patterns : goal.returns-clause-patterns
returns-clause-patterns g c = c.inserted_key_is_added.ensures c.args.self.now.patterns c.insert_pattern.new.trie c.args.key.now c.args.entries.now.items c.invariant.ensures c.invariant-2.ensures c.in_ok-had.ensures.key_set

use Rattle.std.proofs.Common.{refl}
use Rattle.std.specs.Str.{is_utf8, chars}
use Rattle.hyphenation_grammar.proofs.examples.changes.Goals as goal

pub returns-clause-refused : goal.returns-clause-refused
unfolding is_utf8 chars lib.Utf8.encode
returns-clause-refused c = refl

pub returns-clause-number_first : goal.returns-clause-number_first
unfolding is_utf8 chars lib.Utf8.encode
returns-clause-number_first c = refl

pub returns-clause-place_first : goal.returns-clause-place_first
unfolding is_utf8 chars lib.Utf8.encode
returns-clause-place_first c = refl

pub returns-clause-accepted : goal.returns-clause-accepted
unfolding is_utf8 chars lib.Utf8.encode
returns-clause-accepted c = refl

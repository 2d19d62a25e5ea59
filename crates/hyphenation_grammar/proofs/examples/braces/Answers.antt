use Rattle.std.proofs.Common.{refl}
use Rattle.std.specs.Str.{is_utf8, chars}
use Rattle.hyphenation_grammar.proofs.examples.braces.Goals as goal

pub returns-clause-bad_values : goal.returns-clause-bad_values
unfolding is_utf8 chars lib.Utf8.encode
returns-clause-bad_values c = refl

pub returns-clause-two_values : goal.returns-clause-two_values
unfolding is_utf8 chars lib.Utf8.encode
returns-clause-two_values c = refl

pub returns-clause-no_letters : goal.returns-clause-no_letters
unfolding is_utf8 chars lib.Utf8.encode
returns-clause-no_letters c = refl

pub returns-clause-bad_token : goal.returns-clause-bad_token
unfolding is_utf8 chars lib.Utf8.encode
returns-clause-bad_token c = refl

pub returns-clause-accepted : goal.returns-clause-accepted
unfolding is_utf8 chars lib.Utf8.encode
returns-clause-accepted c = refl

pub returns-clause-version_1 : goal.returns-clause-version_1
unfolding is_utf8 chars lib.Utf8.encode
returns-clause-version_1 c = refl

pub returns-clause-no_version_3 : goal.returns-clause-no_version_3
unfolding is_utf8 chars lib.Utf8.encode
returns-clause-no_version_3 c = refl

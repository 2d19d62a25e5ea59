use Rattle.std.proofs.Common.{◌≡◌, drop}
use Rattle.text_words.specs.Names.{has_sign}
use Rattle.text_words.proofs.names.is_name.Given as goal

-- The bytes that are left have a sign just where the whole text has one.
abbrev pub invariant-loop-at : goal.invariant-loop-at
invariant-loop-at l = has_sign l.before (drop l.at l.bytes) ≡ has_sign 0 l.text

use Rattle.std.proofs.Common.{◌≡◌, true, false, not, reverse, ap, rules}
use Rattle.std.specs.Str.{chars}
use Rattle.unicode_segmentation.specs.Word.{joins_flag}
use Rattle.unicode_segmentation.proofs.BoolLemmas.{or-false, or-true}
use Rattle.unicode_segmentation.proofs.WordLemmas.{is_word_break-inside, is_word_break-letters}
use Rattle.word_pieces.proofs.rules.is_break.Goals as goal

pub returns-then-eq-2 : goal.returns-then-eq-2
returns-then-eq-2 c = is_word_break-letters _ c.args.next _ c.requires.some (search rules) (search rules)

pub returns-in-Some : goal.returns-in-Some
returns-in-Some c = rw (is_word_break-inside _ _ _ c.requires.some, ← c.requires.last, ← c.requires.right, ← c.in-Some.ensures)

pub returns-then-not-closes_flag : goal.returns-then-not-closes_flag
returns-then-not-closes_flag c =
    let open_flag : joins_flag (reverse (chars c.args.before.now)) c.args.next ≡ false = cc in
    rw (
      is_word_break-inside _ _ _ c.requires.some,
      open_flag,
      or-false,
      ← c.significant_or_earlier-left.ensures,
      ← c.requires.last,
      ← c.requires.right,
      ← c.in_default.ensures,
    )
    (ap not c.joins_around.ensures)

pub returns-else-not-closes_flag : goal.returns-else-not-closes_flag
returns-else-not-closes_flag c =
    let closed : joins_flag (reverse (chars c.args.before.now)) c.args.next ≡ true = cc in
    rw (is_word_break-inside _ _ _ c.requires.some, closed, or-true, ← c.requires.last, ← c.requires.right, ← c.in_default.ensures, c.if-not-closes_flag.false)

use Rattle.std.proofs.Common.{refl, sym, map}
use Rattle.hyphenation_breaks.specs.Break.{plain_break}
use Rattle.hyphenation_hyphenator.proofs.PlainBreaks.{plain_kept, plain_made}
use Rattle.hyphenation_hyphenator.proofs.hyphenator.break_kind.UsizeBreakKind.keep_fitting.Goals as goal

pub returns : goal.returns
returns c = sym (plain_kept c.args._folded.now c.args._shifts.now (map plain_break c.args._list.now.items) c.requires.ascend (plain_made plain_break (λ _. refl) c.args._list.now.items))

use Rattle.std.proofs.Common.{◌≡◌, drop}
use Rattle.hyphenation_text.specs.Markdown.{is_target}
use Rattle.hyphenation_text.proofs.markdown.is_target.Given as goal

abbrev pub invariant-loop-byte : goal.invariant-loop-byte
invariant-loop-byte l = is_target (drop l.byte-index l.bytes) ≡ is_target l.bytes

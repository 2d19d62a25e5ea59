use Rattle.std.proofs.Common.{◌≡◌, ◌≤◌, ◌+◌, drop}
use Rattle.hyphenation_html.specs.Unread.{line_feeds}
use Rattle.hyphenation_html.proofs.unread.line_feeds.Given as goal

abbrev pub invariant-loop-byte : goal.invariant-loop-byte
invariant-loop-byte l = record {
  few : l.feeds ≤ l.byte-index;
  told : l.feeds + line_feeds (drop l.byte-index l.bytes) ≡ line_feeds l.bytes;
}

use Rattle.std.proofs.Common.{◌≡◌, ◌+◌, ◌<◌, ◌≤◌, length, take, drop, [], true}
use Rattle.std.specs.Prelude.{IsUtf8}
use Rattle.hyphenation_reader.specs.Private.Builder.{items_held}
use Rattle.hyphenation_grammar.specs.Judging.{fault_after}
use Rattle.hyphenation_grammar.specs.Lines.{lines_of}
use Rattle.hyphenation_grammar.specs.Reading.{items_of_lines}
use Rattle.hyphenation_trie.specs.Trie.{EachBeginsKey}
use Rattle.hyphenation_reader.proofs.reader.add_lines.Given as goal

abbrev pub invariant-loop-line : goal.invariant-loop-line
invariant-loop-line g l = record {
  room : l.count + length l.rest ≤ length l.bytes;
  past : 2 < l.count;
  within : l.count ≤ length (lines_of l.bytes);
  rest : drop l.count (lines_of l.bytes) ≡ lines_of l.rest;
  fault : fault_after l.form (take l.count (lines_of l.bytes)) (drop l.count (lines_of l.bytes)) ≡ fault_after l.form [] (lines_of l.bytes);
  spelt : items_held l.builder ≡ items_of_lines l.form.version g.C.Payload.payload_of g.B.Listing.listing_of (take l.count (lines_of l.bytes));
  utf8 : l.known ≡ true → IsUtf8 l.rest;
  begins : EachBeginsKey l.builder.patterns;
}

abbrev pub decreases-loop-line : goal.decreases-loop-line
decreases-loop-line g l = length l.rest

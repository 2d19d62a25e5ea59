use Rattle.std.proofs.Common.{◌≡◌, ◌++◌, map, length, drop}
use Rattle.pattern_results.specs.Texts.{letters}
use Rattle.tex_files.specs.Spelling.{entries_of_digits, entry_without_change, digit_values}
use Rattle.tex_files.proofs.spelling.letters_and_entries.Given as goal

abbrev pub invariant-loop-b : goal.invariant-loop-b
invariant-loop-b g l = record {
  letters : letters l.text ≡ l.key.items ++ letters (drop l.b-index l.text);
  entries : entries_of_digits g.C.Payload.payload_of l.text ≡ l.entries.items ++ map (entry_without_change g.C.Payload.payload_of) (digit_values (length l.key.items) (drop l.b-index l.text));
}

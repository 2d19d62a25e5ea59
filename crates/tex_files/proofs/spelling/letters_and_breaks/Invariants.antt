use Rattle.std.proofs.Common.{◌≡◌, ◌++◌, map, length, drop}
use Rattle.hyphenation_breaks.specs.Break.{plain_break}
use Rattle.tex_files.specs.Spelling.{unhyphenated, breaks_of_hyphens, hyphens_from}
use Rattle.tex_files.proofs.spelling.letters_and_breaks.Given as goal

abbrev pub invariant-loop-b : goal.invariant-loop-b
invariant-loop-b g l = record {
  letters : unhyphenated l.text ≡ l.word.items ++ unhyphenated (drop l.b-index l.text);
  breaks : breaks_of_hyphens g.B.Listing.listing_of l.text ≡ l.listed.items ++ map (λ place. g.B.Listing.listing_of (plain_break place)) (hyphens_from (length l.word.items) (drop l.b-index l.text));
}

use Rattle.std.proofs.Common.{◌≡◌, map, drop}
use Rattle.tex_files.specs.Converting.{words_spelt, one_after_other, first_fault}
use Rattle.tex_files.specs.Private.Views.{word_view}
use Rattle.tex_files.proofs.words.take_words.Given as goal

abbrev pub invariant-loop-word : goal.invariant-loop-word
invariant-loop-word g l = record {
  fault : first_fault (map word_view l.words) ≡ first_fault (map word_view (drop l.word-index l.words));
  appended : one_after_other l.parts (words_spelt g.C.Payload.payload_of g.B.Listing.listing_of (map word_view (drop l.word-index l.words))) ≡ one_after_other l.initial.parts (words_spelt g.C.Payload.payload_of g.B.Listing.listing_of (map word_view l.words));
}

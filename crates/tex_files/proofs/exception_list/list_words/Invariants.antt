use Rattle.std.proofs.Common.{◌≡◌, map, drop}
use Rattle.tex_files.specs.ExceptionLists.{first_unfit, listings_of, with_listings}
use Rattle.tex_files.specs.Private.Views.{piece_view}
use Rattle.tex_files.proofs.exception_list.list_words.Given as goal

abbrev pub invariant-loop-word : goal.invariant-loop-word
invariant-loop-word g l = record {
  fault : first_unfit (map piece_view l.words) ≡ first_unfit (map piece_view (drop l.word-index l.words));
  listed : with_listings l.dictionary (listings_of g.B.Listing.listing_of (map piece_view (drop l.word-index l.words))) ≡ with_listings l.initial.dictionary (listings_of g.B.Listing.listing_of (map piece_view l.words));
}

use Rattle.std.proofs.Common.{◌≡◌, drop}
use Rattle.tex_files.specs.Converting.{spelt_in, one_after_other, fault_from}
use Rattle.tex_files.proofs.convert.take_files.Given as goal

abbrev pub invariant-loop-file : goal.invariant-loop-file
invariant-loop-file g l = record {
  number : l.number ≡ l.file-index;
  fault : fault_from 0 l.files ≡ fault_from l.number (drop l.file-index l.files);
  taken : one_after_other l.parts (spelt_in g.C.Payload.payload_of g.B.Listing.listing_of (drop l.file-index l.files)) ≡ one_after_other l.initial.parts (spelt_in g.C.Payload.payload_of g.B.Listing.listing_of l.files);
}

use Rattle.std.proofs.Common.{◌≡◌, drop, false}
use Rattle.tex_files.specs.Spelling.{two_in_one_place}
use Rattle.tex_files.proofs.spelling.has_two_in_one_place.Given as goal

abbrev pub invariant-loop-b : goal.invariant-loop-b
invariant-loop-b l = two_in_one_place l.group false l.text ≡ two_in_one_place l.group l.after (drop l.b-index l.text)

use Rattle.std.proofs.Common.{ap}
use Rattle.tex_files.specs.Groups.{GroupScan}
use Rattle.tex_files.proofs.Between.{found-open}
use Rattle.tex_files.proofs.Grouping.{closed}
use Rattle.tex_files.proofs.laws.open_groups_are_faulty.Goals as goal

pub returns : goal.returns
returns c = record {
  words = λ group before gap inside h g i. ap (λ (f : GroupScan). (closed f).words) (found-open group before gap inside h g i);
  fault = λ group before gap inside h g i. ap (λ (f : GroupScan). (closed f).fault) (found-open group before gap inside h g i);
}

use Rattle.std.proofs.Common.{ap}
use Rattle.tex_files.specs.Groups.{GroupScan}
use Rattle.tex_files.proofs.Between.{found-group}
use Rattle.tex_files.proofs.laws.groups_are_read_in_order.Goals as goal

pub returns : goal.returns
returns c = record {
  words = λ group before gap inside after h g i. ap (λ (f : GroupScan). f.words) (found-group group before gap inside after h g i);
  fault = λ group before gap inside after h g i. ap (λ (f : GroupScan). f.fault) (found-group group before gap inside after h g i);
}

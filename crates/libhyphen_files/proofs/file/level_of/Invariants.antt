use Rattle.std.proofs.Common.{◌≡◌, take, map}
use Rattle.libhyphen_files.specs.Files.{level_of}
use Rattle.libhyphen_files.specs.Private.Growing.{IsGrowing, level_in}
use Rattle.libhyphen_files.proofs.file.level_of.Given as goal

abbrev pub invariant-loop-line : goal.invariant-loop-line
invariant-loop-line l = record {
  level : level_in l.level ≡ level_of l.utf8 (take l.line-index (map (λ x. x.now) l.lines));
  growing : IsGrowing l.level;
}

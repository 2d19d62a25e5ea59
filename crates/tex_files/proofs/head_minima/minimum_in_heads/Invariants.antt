use Rattle.std.proofs.Common.{◌≡◌, drop}
use Rattle.tex_files.specs.Heads.{minimum_in_heads}
use Rattle.tex_files.proofs.head_minima.minimum_in_heads.Given as goal

abbrev pub invariant-loop-file : goal.invariant-loop-file
invariant-loop-file l = minimum_in_heads l.name (drop l.file-index l.files) ≡ minimum_in_heads l.name l.files

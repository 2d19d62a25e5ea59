use Rattle.std.proofs.Common.{take}
use Rattle.libhyphen_files.specs.Private.Vectors.{HasDigitsOf}
use Rattle.libhyphen_files.proofs.vectors.vector_of_digits.Given as goal

abbrev pub invariant-loop-place : goal.invariant-loop-place
invariant-loop-place l = HasDigitsOf (take l.place l.digits) l.bytes l.vector

use Rattle.libhyphen_files.proofs.DigitVectors.{digit_set}
use Rattle.libhyphen_files.proofs.vectors.put_place.Goals as goal

pub returns-then-distance-le15 : goal.returns-then-distance-le15
returns-then-distance-le15 c = λ done.
    digit_set c.args.digits.now c.args.bytes c.args.vector.now c.args.place c.in-Some.value c.requires.place c.if-place-bytes.false c.if-distance-le15.true c.in-Some.ensures c.requires.before

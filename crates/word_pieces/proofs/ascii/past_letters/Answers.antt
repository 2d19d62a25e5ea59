use Rattle.std.proofs.Common.{ℕ, ◌+◌, ◌≤◌, leb, cond, length, refl, arith}
use Rattle.std.proofs.lemmas.Simd.{zip2_splat, zip2_of_maps, splat_is_map, length-chunk}
use lib.Lanes.{chunk}
use Rattle.word_pieces.proofs.LetterBlocks.{IsRun-letters}
use Rattle.word_pieces.proofs.ascii.past_letters.Goals as goal

pub returns : goal.returns
returns c =
    let text = c.args.bytes.now in
    let from = c.args.from in
    let block = chunk from 16 text in
    let room : from + 16 ≤ length text = omega (arith, c.requires, c.if-bytes-from-lt-BLOCK.false) in
    let few : 16 ≤ 64 = omega arith in
    let long = length-chunk from 16 text room in
    let small = zip2_splat {Y = ℕ} _ block 16 32 long in
    let places = zip2_of_maps _ _ _ block small (splat_is_map block 16 97 long) in
    let computed = zip2_of_maps (λ a b. cond (leb a b) 255 0) _ _ block (splat_is_map block 16 26 long) places in
    IsRun-letters text from 16 room few c.type_inv.bytes _ _ computed refl _ c.first_set.ensures

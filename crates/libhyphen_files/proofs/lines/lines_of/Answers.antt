use Rattle.std.proofs.Common.{◌≡◌, ◌<◌, ◌≤◌, ◌-◌, [], refl, ap, arith, length, length-drop, drop}
use Rattle.std.proofs.lemmas.Grind.{common_steps}
use Rattle.std.proofs.lemmas.List.{take_all}
use Rattle.libhyphen_files.specs.Lines.{lines_from, most_of_other}
use Rattle.libhyphen_files.proofs.FirstLines.{pushed, all_read}
use Rattle.libhyphen_files.proofs.lines.lines_of.Goals as goal

pub loop-rest-preserved : goal.loop-rest-preserved
loop-rest-preserved c =
    let text = c.loop-rest.rest.now in
    let size = c.line_size-size.result in
    let some : 0 < length text = grind (arith, common_steps) in
    let all : length (drop size text) ≤ length text - size = rw length-drop (omega arith) in
    record {
      room = omega arith;
      lines = rw c.in_ok-push.ensures.items (pushed c.loop-rest.lines.items _ c.loop-rest.room size _ _ text c.loop-rest.invariant.room some c.line_size-size.ensures refl
          (ap (λ more. lines_from [] most_of_other more) (take_all (length text - size) (drop size text) all)) c.loop-rest.invariant.lines);
    }

pub returns : goal.returns
returns c =
    let none : length c.loop-rest.rest.now ≡ 0 = grind (arith, common_steps) in
    all_read _ c.loop-rest.room c.loop-rest.rest.now _ none c.loop-rest.invariant.lines

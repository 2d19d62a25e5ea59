use Rattle.std.proofs.Common.{arith}
use Rattle.linefill.proofs.Widths.{between_split, between_small}
use Rattle.linefill.proofs.filling.count_characters_to.Goals as goal

pub overflow_add-result : goal.overflow_add-result
overflow_add-result c =
    let text = c.args.text.now in
    let line = c.requires.open_line in
    let place = c.args.place in
    let split = between_split text c.args.current.start c.args.current.end place c.utf8.text line.order (omega arith) line.start line.end in
    let small = between_small text c.args.current.start place c.utf8.text (omega (arith, line.order)) line.start c.requires.at_character in
    omega (arith, line.width, split, small, c.count_characters.ensures)

pub returns : goal.returns
returns c =
    let text = c.args.text.now in
    let line = c.requires.open_line in
    let split = between_split text c.args.current.start c.args.current.end c.args.place c.utf8.text line.order (omega arith) line.start line.end in
    omega (arith, line.width, split, c.count_characters.ensures)

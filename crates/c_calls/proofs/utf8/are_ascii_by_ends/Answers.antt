use Rattle.std.proofs.Common.{◌&&◌, take, ap, ◌∙◌}
use Rattle.std.specs.Char.{is_ascii}
use Rattle.std.specs.List.{list_all}
use Rattle.c_calls.proofs.ListEnds.{all_by_ends}
use Rattle.c_calls.proofs.utf8.are_ascii_by_ends.Goals as goal

pub returns : goal.returns
returns g c =
    let bytes = c.args.bytes.now in
    c.are_ascii_at_once.ensures
    ∙ ap (λ bs. list_all is_ascii bs && list_all is_ascii c.in-Some-split_last_chunk.last.now) c.in-Some.ensures.cases.0
    ∙ ap (λ bs. list_all is_ascii (take _ bytes) && list_all is_ascii bs) c.in-Some-split_last_chunk.ensures.cases.1
    ∙ all_by_ends is_ascii _ bytes c.requires.least c.requires.most

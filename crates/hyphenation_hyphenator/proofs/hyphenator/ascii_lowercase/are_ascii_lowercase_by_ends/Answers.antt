use Rattle.std.proofs.Common.{◌&&◌, take, ap, ◌∙◌}
use Rattle.std.specs.Char.{is_ascii_lowercase}
use Rattle.std.specs.List.{list_all}
use Rattle.hyphenation_hyphenator.proofs.ListEnds.{all_by_ends}
use Rattle.hyphenation_hyphenator.proofs.hyphenator.ascii_lowercase.are_ascii_lowercase_by_ends.Goals as goal

pub returns : goal.returns
returns g c =
    let word = c.args.word.now in
    c.are_ascii_lowercase_at_once.ensures
    ∙ ap (λ bs. list_all is_ascii_lowercase bs && list_all is_ascii_lowercase c.in-Some-split_last_chunk.last.now) c.in-Some.ensures.cases.0
    ∙ ap (λ bs. list_all is_ascii_lowercase (take _ word) && list_all is_ascii_lowercase bs) c.in-Some-split_last_chunk.ensures.cases.1
    ∙ all_by_ends is_ascii_lowercase _ word c.requires.least c.requires.most

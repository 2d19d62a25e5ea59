use Rattle.std.proofs.Common.{◌∙◌, ◌+◌, ap, sym, length, min, take}
use Rattle.std.specs.List.{position_or_len}
use Rattle.libhyphen_files.specs.Private.Sizes.{is_feed}
use Rattle.libhyphen_files.proofs.FirstLines.{size_none, size_some, window_is}
use Rattle.libhyphen_files.proofs.lines.line_size.Goals as goal

pub returns-in-Some : goal.returns-in-Some
returns-in-Some c =
    let text = c.args.text.now in
    sym (size_some (take c.min.result text) c.in-Some.at c.in-Some.ensures.0 c.in-Some.ensures.1)
    ∙ ap (λ window. min (position_or_len is_feed window + 1) (length window)) (window_is text c.args.room c.min.result c.min.ensures)

pub returns-in-None : goal.returns-in-None
returns-in-None c =
    let text = c.args.text.now in
    sym (size_none (take c.min.result text) c.in-None.ensures)
    ∙ ap (λ window. min (position_or_len is_feed window + 1) (length window)) (window_is text c.args.room c.min.result c.min.ensures)

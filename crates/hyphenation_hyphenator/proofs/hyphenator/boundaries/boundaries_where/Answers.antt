use Rattle.std.proofs.Common.{rules, ◌-◌, IsTrue, Some, length, sym, ap, ◌∙◌, inl, inr}
use Rattle.hyphenation_hyphenator.proofs.AsciiWords.{ascii_bounds, ascii_no_bounds}
use Rattle.hyphenation_hyphenator.proofs.hyphenator.boundaries.boundaries_where.Goals as goal
use Rattle.hyphenation_hyphenator.proofs.hyphenator.boundaries.boundaries_where.Goals.{then-bytes-left-via-then-bytes-left, then-bytes-left-via-else-bytes-left+then-bytes-left-2}

pub returns-then-bytes-left : goal.returns-then-bytes-left
returns-then-bytes-left c =
    let yes : IsTrue c.args.is_ascii = search rules in
    elim c.then-bytes-left.branch [
      | then-bytes-left-via-then-bytes-left w ↦ sym (ascii_no_bounds c.args.minima.0 c.args.minima.1 c.args.word.now (c.requires yes) (inl w.if-bytes-left.true))
      | then-bytes-left-via-else-bytes-left+then-bytes-left-2 w ↦ sym (ascii_no_bounds c.args.minima.0 c.args.minima.1 c.args.word.now (c.requires yes) (inr w.if-bytes-left-2.true))
    ]

pub returns : goal.returns
returns c =
    let yes : IsTrue c.args.is_ascii = search rules in
    ap (λ k. Some (c.args.minima.0, length c.args.word.now - k)) c.max.ensures
    ∙ sym (ascii_bounds c.args.minima.0 c.args.minima.1 c.args.word.now (c.requires yes) c.if-bytes-left.false c.if-bytes-left-2.false)

use Rattle.std.proofs.Common.{◌++◌, length, chars, encode_utf8, sym, ap, ◌∙◌, arith, append_assoc, length-append}
use Rattle.unicode_normalization.proofs.Steps.TextLemmas.{seam, front_of}
use Rattle.composed_words.proofs.segments.split_segment.Goals as goal

pub range-requires-clause-end_boundary : goal.range-requires-clause-end_boundary
range-requires-clause-end_boundary c =
    seam _ _ _ (c.scan.invariant.1 ∙ ap (λ l. c.scan.invariant.0 ++ l) (sym c.as_str-here.ensures)) c.as_str-here.utf8

pub scan-preserved : goal.scan-preserved
scan-preserved c =
    let front = c.scan.invariant.0 in (
      front ++ encode_utf8 c.in-Some.c,
      c.scan.invariant.1 ∙ ap (λ l. front ++ l) c.in-Some.ensures.steps.0 ∙ sym (append_assoc front _ _),
      λ some. omega (arith, c.scan.invariant.2 some, length-append front (encode_utf8 c.in-Some.c)),
    )

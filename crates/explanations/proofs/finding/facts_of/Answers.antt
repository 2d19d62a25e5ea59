use Rattle.std.proofs.Common.{ℕ, List, arith, get_or, subst}
use Rattle.std.proofs.lemmas.List.{get_or-map, length-map}
use Rattle.explanations.specs.Rows.{row_of, LiesWithin}
use Rattle.explanations.proofs.finding.facts_of.Goals as goal

pub invariant_of-result : goal.invariant_of-result
invariant_of-result g c =
    let rows = c.in_ok-rows.rows.items in
    record {
      within = λ k row lt. subst (λ (text : List ℕ). LiesWithin text (row_of (get_or rows k row))) c.deref-2.ensures
          (subst (LiesWithin c.deref-2.result.now) (get_or-map row_of rows k row (row_of row) lt) (c.in_ok-rows.ensures.rows.each k (row_of row) (omega (arith, length-map rows row_of))).within);
    }

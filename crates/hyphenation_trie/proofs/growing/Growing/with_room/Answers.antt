use Rattle.std.proofs.Common.{sym, subst, refl, arith}
use Rattle.std.proofs.lemmas.Grind.{common_steps}
use Rattle.hyphenation_trie.specs.Private.Trie.{IsWithin}
use Rattle.hyphenation_trie.proofs.GrowingNodes.{held-new, ordered-new}
use Rattle.hyphenation_trie.proofs.growing.Growing.with_room.Goals as goal

pub invariant_of-result : goal.invariant_of-result
invariant_of-result g c =
    let made = c.in_ok-children.ensures in
    rw (made.nodes.0, made.nodes.1, made.chains.0, made.chains.1, made.order, c.in_ok-states.ensures, c.in_ok-entries.ensures.items) (
      record {
        parents_from = refl;
        bytes_from = refl;
        bytes_of = refl;
        states_of = refl;
        growing = held-new;
        within = (subst (IsWithin 0) (sym c.of_no_key.ensures) tt, tt);
      },
      ordered-new,
    )

pub returns : goal.returns
returns g c = grind (arith, common_steps)

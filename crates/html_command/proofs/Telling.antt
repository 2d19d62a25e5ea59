-- Lines that are written to standard error, one after the other.
use Rattle.std.proofs.Common.{◌∙◌, ℕ, ◌+◌, ◌<◌, List, [], ap, get_or, length, subst, sym, take}
use Rattle.std.proofs.lemmas.List.{flat_map_more, take_more}
use Rattle.std.specs.List.{flat_map}
use Rattle.std.specs.Prelude.{Option}
use Rattle.command_line.specs.Endings.{Tells, TellsMore}
use Rattle.command_line.specs.declared.messages.Messages.{Messages}

-- One line more is written.
pub told_more : {W X : Type 0} (contents : W → Option (List ℕ)) (first old new : Messages W) (line : X → List ℕ) (items : List X) (i : ℕ) (d : X)
    → i < length items → Tells contents first old (flat_map line (take i items)) → TellsMore contents old new (line (get_or items i d))
    → Tells contents first new (flat_map line (take (i + 1) items))
told_more contents first old new line items i d within so_far more =
    subst (λ (text : List ℕ). Tells contents first new text)
    (flat_map_more line [] (take i items) (get_or items i d) ∙ ap (flat_map line) (sym (take_more items i d within)))
    (more first (flat_map line (take i items)) so_far)

-- Lines one after the other.
use Rattle.std.proofs.Common.{◌≡◌, ℕ, List, [], ◌∷◌, ◌++◌, sym, ap, ◌∙◌, append_assoc}
use Rattle.written_texts.specs.Blocks.{Block, State, step, blocks_from, start}

-- Whatever lines follow, the blocks so far and theirs are the same after one line more.
pub passed : (state next : State) (line : List ℕ) (before others : List (List ℕ)) (all new : List Block)
    → ((rest : List (List ℕ)) → all ++ blocks_from state rest ≡ blocks_from start (before ++ rest))
    → new ≡ all ++ (step state line).blocks → next ≡ (step state line).state
    → new ++ blocks_from next others ≡ blocks_from start ((before ++ line ∷ []) ++ others)
passed state next line before others all new so_far added after =
    let taken = step state line in
    ap (λ bs. bs ++ blocks_from next others) added
    ∙ ap (λ s. (all ++ taken.blocks) ++ blocks_from s others) after
    ∙ append_assoc all taken.blocks (blocks_from taken.state others)
    ∙ so_far (line ∷ others)
    ∙ ap (blocks_from start) (sym (append_assoc before (line ∷ []) others))

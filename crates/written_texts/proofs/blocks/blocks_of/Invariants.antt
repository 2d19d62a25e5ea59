use Rattle.std.proofs.Common.{◌≡◌, ℕ, List, ◌++◌, map}
use Rattle.written_texts.specs.Blocks.{blocks_from, start}
use Rattle.written_texts.specs.Private.Views.{blocks_of, state_of}
use Rattle.written_texts.proofs.blocks.blocks_of.Given as goal

-- Whatever lines follow, the blocks are those so far and theirs.
abbrev pub invariant-loop-line : goal.invariant-loop-line
invariant-loop-line l = (others : List (List ℕ)) → blocks_of l.all.items ++ blocks_from (state_of l.state) others
    ≡ blocks_from start (map (λ x. x.now) l.yielded ++ others)

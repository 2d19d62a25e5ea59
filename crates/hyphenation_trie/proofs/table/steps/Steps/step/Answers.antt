use Rattle.std.proofs.Common.{ℕ, [], ◌∷◌, ◌++◌, sym, subst, arith}
use Rattle.hyphenation_trie.specs.Cells.{number_in, place_in}
use Rattle.hyphenation_trie.specs.Steps.{IsStepOf, cell_at}
use Rattle.hyphenation_trie.proofs.NumberedSteps.{cell_within, step_is}
use Rattle.hyphenation_trie.proofs.table.steps.Steps.step.Goals as goal

pub read-requires-clause-cell : goal.read-requires-clause-cell
read-requires-clause-cell g c = cell_within c.args.automaton.now c.requires.row.0 c.args.self.now c.args.start c.requires.row.1 c.args.byte (omega arith) c.requires.row.2

pub read-requires-clause-split : goal.read-requires-clause-split
read-requires-clause-split g c = c.requires.row.2.are_steps.split

pub returns : goal.returns
returns g c = λ numbers text on.
    let tree = c.args.automaton.now in
    let steps = c.args.self.now in
    let cell : ℕ = cell_at steps c.args.start c.args.byte in
    let read = step_is tree c.invariant.ensures numbers steps c.args.start text c.args.byte (omega arith) on in
    subst (λ (place : ℕ). IsStepOf tree numbers steps (text ++ c.args.byte ∷ []) place c.read.result.1) (sym {b = place_in steps.split cell} c.read.ensures.place)
    (subst (λ (number : ℕ). IsStepOf tree numbers steps (text ++ c.args.byte ∷ []) (place_in steps.split cell) number) (sym {b = number_in steps.split cell} c.read.ensures.number) read)

use Rattle.std.proofs.Common.{ℕ, ◌<◌, [], ◌∷◌, ◌++◌, length, sym, subst, arith}
use Rattle.hyphenation_trie.specs.Cells.{number_in, place_in}
use Rattle.hyphenation_trie.specs.Steps.{cell_at}
use Rattle.hyphenation_trie.specs.Tables.{IsRead}
use Rattle.hyphenation_trie.specs.Trie.{entries_of_key}
use Rattle.hyphenation_trie.proofs.TableSteps.{cell_within, number_within, read_is}
use Rattle.hyphenation_trie.proofs.table.Table.step.Goals as goal

pub read-requires-clause-cell : goal.read-requires-clause-cell
read-requires-clause-cell g c = cell_within g.C.Payload.rank_of (entries_of_key c.args.automaton.now) c.args.self.now c.args.start c.requires.row.0 c.args.byte (omega arith) c.requires.row.1

pub read-requires-clause-split : goal.read-requires-clause-split
read-requires-clause-split g c = c.requires.row.1.is_table.split

pub returns-clause-read : goal.returns-clause-read
returns-clause-read g c = λ text on.
    let rank = g.C.Payload.rank_of in
    let keys = entries_of_key c.args.automaton.now in
    let table = c.args.self.now in
    let cell : ℕ = cell_at table.steps c.args.start c.args.byte in
    let read = read_is rank keys table c.args.start text c.args.byte (omega arith) on in
    subst (λ (place : ℕ). IsRead rank keys table (text ++ c.args.byte ∷ []) place c.read.result.1) (sym {b = place_in table.steps.split cell} c.read.ensures.place)
    (subst (λ (number : ℕ). IsRead rank keys table (text ++ c.args.byte ∷ []) (place_in table.steps.split cell) number) (sym {b = number_in table.steps.split cell} c.read.ensures.number) read)

pub returns-clause-number : goal.returns-clause-number
returns-clause-number g c =
    let table = c.args.self.now in
    let within = number_within g.C.Payload.rank_of (entries_of_key c.args.automaton.now) table c.args.start c.requires.row.0 c.args.byte (omega arith) c.requires.row.1 in
    subst (λ (number : ℕ). number < length table.vectors.items) (sym {b = number_in table.steps.split (cell_at table.steps c.args.start c.args.byte)} c.read.ensures.number) within

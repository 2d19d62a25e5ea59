use Rattle.std.proofs.Common.{ℕ, List, take, ◌+◌, sym, subst, arith}
use Rattle.libhyphen_rule.specs.Private.Lanes.{AtRow}
use Rattle.libhyphen_rule.proofs.PassedVectors.{passed_more, step_on, vector_read}
use Rattle.libhyphen_rule.proofs.plain_words.passed_byte.Goals as goal

pub step-row-requires : goal.step-row-requires
step-row-requires c = record { row = (_, _, c.requires.row.1.stands) }

pub index-requires : goal.index-requires
index-requires c =
    let at = c.requires.row.1 in
    let to = c.step-row.ensures at.numbers c.requires.row.0 at.stands in
    omega (arith, to.number_is, (at.are_vectors.each to.node to.longest.within).within, c.args.vectors.now.vectors.ok.0)

pub passed_vector-requires-clause-lanes : goal.passed_vector-requires-clause-lanes
passed_vector-requires-clause-lanes c =
    let at = c.requires.row.1 in
    let to = c.step-row.ensures at.numbers c.requires.row.0 at.stands in
    let vector = vector_read c.args.patterns.now at.numbers c.args.vectors.now at.are_vectors to.node c.step-row.result.1 c.index.result.now to.longest.within to.number_is c.index.ensures in
    (c.requires.lanes.0, c.requires.lanes.1, vector.lanes)

pub returns-clause-passed : goal.returns-clause-passed
returns-clause-passed c frame lt read was =
    let tree = c.args.patterns.now in
    let vectors = c.args.vectors.now in
    let at : ℕ = c.args.at in
    let vector : List ℕ = c.index.result.now in
    let row : ℕ = c.step-row.result.0 in
    let number : ℕ = c.step-row.result.1 in
    let here = was.at_row in
    let to = step_on tree here.numbers vectors.steps frame at c.args.byte row number lt read (c.step-row.ensures here.numbers (take at frame) here.stands) in
    let there : AtRow tree vectors (take (at + 1) frame) row = record { numbers = here.numbers; are_vectors = here.are_vectors; stands = to.stands } in
    passed_more tree vectors c.invariant.ensures c.keys_have_nodes.ensures c.keys_are_looked_up.ensures c.requires.begins frame at to.node vector c.args.pass c.passed_vector.result c.args.list.now c.passed_vector.new.list
    lt to.longest (vector_read tree here.numbers vectors here.are_vectors to.node number vector to.longest.within to.number_is c.index.ensures) c.passed_vector.ensures.takes
    (subst (λ (k : ℕ). AtRow tree vectors (take (at + 1) frame) k) (sym c.passed_vector.ensures.row) there) was

use Rattle.std.proofs.Common.{false, cond, ltb, length, get_or, ap, ◌∙◌, arith, w8}
use lib.Lanes.{zip2, sel_l}
use Rattle.std.proofs.lemmas.Simd.{tops_compared, length-zip2, length-sel_l, get_or-sel_l, get_or-zip2}
use Rattle.hyphenation_trie.proofs.RegisterLanes.{max_is}
use Rattle.hyphenation_trie.proofs.register.greater.Goals as goal

pub returns-clause-each : goal.returns-clause-each
returns-clause-each c = λ i lt.
    let a = c.args.a in
    let b = c.args.b in
    let long = length-zip2 ltb a b (omega arith) in
    let is = ap (λ ms. sel_l ms b a) (tops_compared w8 ltb a b) in
    ap (λ l. get_or l i 0) is ∙ get_or-sel_l (zip2 ltb a b) b a i 0 (omega arith) (omega arith) (omega arith)
    ∙ ap (λ t. cond t (get_or b i 0) (get_or a i 0)) (get_or-zip2 ltb a b i 0 0 false (omega arith) (omega arith))
    ∙ max_is (get_or a i 0) (get_or b i 0)

pub returns-clause-lanes : goal.returns-clause-lanes
returns-clause-lanes c =
    let a = c.args.a in
    let b = c.args.b in
    let long = length-zip2 ltb a b (omega arith) in
    let is = ap (λ ms. sel_l ms b a) (tops_compared w8 ltb a b) in
    ap length is ∙ omega (arith, length-sel_l (zip2 ltb a b) b a (omega arith) (omega arith))

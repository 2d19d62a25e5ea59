use Rattle.std.proofs.Common.{◌≡◌, ◌+◌, ◌-◌, ◌||◌, ℕ, Bool, true, false, List, length, take, refl, sym, ap, ◌∙◌, arith}
use Rattle.std.specs.List.{list_any, range_with_len}
use Rattle.hyphenation_trie.specs.Trie.{entries_of_key}
use Rattle.libreoffice_files.specs.Longest.{is_exceeded}
use Rattle.libreoffice_files.proofs.Endings.{any_first, step_along}
use Rattle.libreoffice_files.proofs.longest.hides_value.Goals as goal

pub returns-then-is_exceeded : goal.returns-then-is_exceeded
returns-then-is_exceeded g c = λ some.
    let tree = c.args.automaton.now in
    let key = c.args.key.now in
    let i : ℕ = c.loop-byte.byte-index in
    let f : ℕ → Bool = λ len. is_exceeded (entries_of_key tree) (take len key) in
    let text = step_along tree key i c.loop-byte.node c.step-node.result _ c.invariant.ensures some c.loop-byte-test.true (c.loop-byte.invariant.text some) refl c.step-node.ensures.longest in
    let here : f (i + 1) ≡ true = ap (λ (x : List ℕ). is_exceeded (entries_of_key tree) x) (sym text) ∙ sym c.is_exceeded.ensures ∙ c.if-is_exceeded.true in
    sym (c.loop-byte.invariant.rest some ∙ any_first f (i + 1) (length key - i) (omega (arith, c.loop-byte-test.true)) ∙ ap (λ (b : Bool). b || list_any f (range_with_len (i + 1 + 1) (length key - i - 1))) here)

pub loop-byte-preserved : goal.loop-byte-preserved
loop-byte-preserved g c =
    let tree = c.args.automaton.now in
    let key = c.args.key.now in
    let i : ℕ = c.loop-byte.byte-index in
    let f : ℕ → Bool = λ len. is_exceeded (entries_of_key tree) (take len key) in
    let less : length key - i - 1 ≡ length key - (i + 1) = omega arith in
    record {
      within = c.step-node.ensures.longest.within;
      text = λ some. step_along tree key i c.loop-byte.node c.step-node.result _ c.invariant.ensures some c.loop-byte-test.true (c.loop-byte.invariant.text some) refl c.step-node.ensures.longest;
      rest = λ some.
          let text = step_along tree key i c.loop-byte.node c.step-node.result _ c.invariant.ensures some c.loop-byte-test.true (c.loop-byte.invariant.text some) refl c.step-node.ensures.longest in
          let here : f (i + 1) ≡ false = ap (λ (x : List ℕ). is_exceeded (entries_of_key tree) x) (sym text) ∙ sym c.is_exceeded.ensures ∙ c.if-is_exceeded.false in
          c.loop-byte.invariant.rest some ∙ any_first f (i + 1) (length key - i) (omega (arith, c.loop-byte-test.true))
          ∙ ap (λ (b : Bool). b || list_any f (range_with_len (i + 1 + 1) (length key - i - 1))) here
          ∙ ap (λ (k : ℕ). list_any f (range_with_len (i + 1 + 1) k)) less;
    }

use Rattle.std.proofs.Common.{◌≡◌, ◌-◌, ◌^◌, ℕ, bit_and, ap, ◌∙◌, arith}
use Rattle.std.proofs.lemmas.Nat.{and_mask}
use Rattle.hyphenation_trie.proofs.table.split.Split.parts.Goals as goal

pub returns-clause-place : goal.returns-clause-place
returns-clause-place c =
    let split = c.args.self in
    let last : split.last_place ≡ 2 ^ split.place_bits - 1 = omega (arith, c.requires.last) in
    ap (λ (m : ℕ). bit_and c.args.cell m) last ∙ and_mask c.args.cell split.place_bits

use Rattle.std.proofs.Common.{◌≡◌, ◌+◌, ◌-◌, ◌*◌, ◌%◌, ◌^◌, ◌<◌, ◌≤◌, ℕ, ap, ◌∙◌, arith}
use Rattle.std.proofs.lemmas.Nat.{pow-add, mul-add-lt, shl_whole}
use Rattle.hyphenation_trie.specs.Cells.{numbers_of, IsSplit}
use Rattle.hyphenation_trie.specs.declared.table.split.Split.{Split}
use Rattle.hyphenation_trie.proofs.table.split.Split.cell.Goals as goal

-- the number keeps all its bits
whole : (split : Split) → IsSplit split → (number : ℕ) → number < numbers_of split → number * 2 ^ split.place_bits % 4294967296 ≡ number * 2 ^ split.place_bits
whole split is number low = shl_whole number (32 - split.place_bits) split.place_bits 32 low (omega (arith, is.within))

-- the cell has 32 bits
below : (split : Split) → IsSplit split → (place number : ℕ) → place ≤ split.last_place → number < numbers_of split → number * 2 ^ split.place_bits + place < 2 ^ 32
below split is place number small low =
    let high : ℕ = 32 - split.place_bits in
    let bits : 32 ≡ split.place_bits + high = omega (arith, is.within) in
    let all : 2 ^ 32 ≡ 2 ^ split.place_bits * 2 ^ high = ap (λ (n : ℕ). 2 ^ n) bits ∙ pow-add 2 split.place_bits high in
    let within : number * 2 ^ split.place_bits + place < 2 ^ split.place_bits * 2 ^ high = mul-add-lt number (2 ^ split.place_bits) place (2 ^ high) low (omega (arith, is.last)) in
    omega (arith, all, within)

pub overflow_add-result : goal.overflow_add-result
overflow_add-result c = omega (arith, whole c.args.self c.requires.split c.args.number c.requires.number, below c.args.self c.requires.split c.args.place c.args.number c.requires.place c.requires.number)

pub returns : goal.returns
returns c = ap (λ (n : ℕ). n + c.args.place) (whole c.args.self c.requires.split c.args.number c.requires.number)

-- Where the prefix of a line ends.
use Rattle.std.proofs.Common.{◌≡◌, ℕ, suc, ◌+◌, ◌-◌, ◌<◌, ◌==◌, ◌||◌, ◌&&◌, true, cond, nat_lt, List, [], ◌∷◌, length, drop, get_or, sym, subst, refl, arith, inl, inr, length-drop}
use Rattle.std.specs.Str.{IsCharBoundary, IsUtf8}
use Rattle.std.proofs.lemmas.Bool.{ltb-true, eqb-true, or_cases, and_parts, cond_both}
use Rattle.std.proofs.lemmas.List.{get_or-drop}
use Rattle.std.proofs.lemmas.Str.{IsCharBoundary-start, IsCharBoundary-after_ascii}
use Rattle.written_texts.specs.Prefixes.{is_sign, is_indent, signs_length, quote_length, is_deep, indent_length, sign_length, mark_length, lead_length}
use Rattle.written_texts.specs.Private.Cuts.{EndsInAscii}

-- The bytes up to the last sign, where that number is before these and the last sign before them ends at `length`.
abbrev pub upto : ℕ → ℕ → ℕ → ℕ
upto i n length = cond (nat_lt 0 n) (i + n) length

-- A text may be cut where it ends in ASCII.
pub may_cut : (text : List ℕ) (n : ℕ) → IsUtf8 text → EndsInAscii text n → IsCharBoundary text n
may_cut text n u (inl none) = subst (IsCharBoundary text) (sym none) (IsCharBoundary-start text u)
may_cut text n u (inr some) =
    let place : n - 1 + 1 ≡ n = omega (arith, some.0) in
    subst (IsCharBoundary text) place (IsCharBoundary-after_ascii text (n - 1) u (omega (arith, some.0, some.1)) some.2)

-- ---- quote signs

sign_small : (b : ℕ) → is_sign b ≡ true → b < 128
sign_small b is = omega (arith, eqb-true b 62 is)

pub signs_end : (text : List ℕ) → EndsInAscii text (signs_length text)
signs_end [] = inl refl
signs_end (b ∷ text) =
    let rest = signs_length text in
    elim (signs_end text) [
      | inl none ↦
          cond_both (is_sign b || (b == 32 && nat_lt 0 rest)) (rest + 1) 0 (EndsInAscii (b ∷ text))
          (λ is. elim (or_cases (is_sign b) (b == 32 && nat_lt 0 rest) is) [
            | inl sign ↦ inr (
              omega (arith, none),
              omega (arith, none),
              let at : rest + 1 - 1 ≡ 0 = omega (arith, none) in
                  subst (λ k. get_or (b ∷ text) k 0 < 128) (sym at) (sign_small b sign),
            )
            | inr space ↦ absurd (let some : 0 < rest = ltb-true 0 rest (let both = and_parts (b == 32) (nat_lt 0 rest) space in both.1) in omega (arith, none, some))
          ])
          (λ _. inl refl)
      | inr some ↦
          cond_both (is_sign b || (b == 32 && nat_lt 0 rest)) (rest + 1) 0 (EndsInAscii (b ∷ text))
          (λ _. inr (
            omega arith,
            omega (arith, some.1),
            let at : rest + 1 - 1 ≡ suc (rest - 1) = omega (arith, some.0) in
                subst (λ k. get_or (b ∷ text) k 0 < 128) (sym at) some.2,
          ))
          (λ _. inl refl)
    ]

pub quote_ends : (line : List ℕ) → EndsInAscii line (quote_length line)
quote_ends line = cond_both (is_deep line) 0 (signs_length line) (EndsInAscii line) (λ _. inl refl) (λ _. signs_end line)

-- ---- the indent, and the mark

indent_small : (b : ℕ) → is_indent b ≡ true → b < 128
indent_small b is =
    elim (or_cases (b == 32) (b == 9) is) [ inl space ↦ omega (arith, eqb-true b 32 space) | inr tab ↦ omega (arith, eqb-true b 9 tab) ]

pub indent_ends : (text : List ℕ) → EndsInAscii text (indent_length text)
indent_ends [] = inl refl
indent_ends (b ∷ text) =
    let rest = indent_length text in
    cond_both (is_indent b) (1 + rest) 0 (EndsInAscii (b ∷ text))
    (λ is. elim (indent_ends text) [
      | inl none ↦ inr (
        omega arith,
        omega (arith, none),
        let at : 1 + rest - 1 ≡ 0 = omega (arith, none) in
            subst (λ k. get_or (b ∷ text) k 0 < 128) (sym at) (indent_small b is),
      )
      | inr some ↦ inr (
        omega arith,
        omega (arith, some.1),
        let at : 1 + rest - 1 ≡ suc (rest - 1) = omega (arith, some.0) in
            subst (λ k. get_or (b ∷ text) k 0 < 128) (sym at) some.2,
      )
    ])
    (λ _. inl refl)

-- So many bytes that end in ASCII, after others that do.
pub ends_after : (text : List ℕ) (m n : ℕ) → EndsInAscii text m → EndsInAscii (drop m text) n → EndsInAscii text (m + n)
ends_after text m n before (inl none) = subst (EndsInAscii text) (omega (arith, none)) before
ends_after text m n before (inr some) =
    let count : length (drop m text) ≡ length text - m = length-drop m text in
    let at : m + (n - 1) ≡ m + n - 1 = omega (arith, some.0) in
    inr (omega (arith, some.0), omega (arith, some.0, some.1, count), subst (λ k. get_or text k 0 < 128) at (subst (λ b. b < 128) (get_or-drop m text (n - 1) 0) some.2))

-- The same, where some bytes of the text are before it.
pub some_after : (text : List ℕ) (m n : ℕ) → EndsInAscii (drop m text) n → 0 < n → EndsInAscii text (m + n)
some_after text m n (inl none) some = absurd (omega (arith, none, some))
some_after text m n (inr some) _ =
    let count : length (drop m text) ≡ length text - m = length-drop m text in
    let at : m + (n - 1) ≡ m + n - 1 = omega (arith, some.0) in
    inr (omega (arith, some.0), omega (arith, some.0, some.1, count), subst (λ k. get_or text k 0 < 128) at (subst (λ b. b < 128) (get_or-drop m text (n - 1) 0) some.2))

pub mark_ends : (text : List ℕ) → EndsInAscii text (mark_length text)
mark_ends text =
    let sign = sign_length text in
    let gap = indent_length (drop sign text) in
    cond_both (nat_lt 0 sign && nat_lt sign (sign + gap)) (sign + gap) 0 (EndsInAscii text)
    (λ is.
    let both = and_parts (nat_lt 0 sign) (nat_lt sign (sign + gap)) is in
    let more : sign < sign + gap = ltb-true sign (sign + gap) both.1 in
    some_after text sign gap (indent_ends (drop sign text)) (omega (arith, more)))
    (λ _. inl refl)

pub lead_ends : (text : List ℕ) → EndsInAscii text (lead_length text)
lead_ends text = ends_after text (indent_length text) (mark_length (drop (indent_length text) text)) (indent_ends text) (mark_ends (drop (indent_length text) text))

-- Tokens as they are written have no space and no line feed, and their numbers no comma.
use Rattle.std.proofs.Common.{◌≡◌, ℕ, ◌+◌, ◌^◌, ◌<◌, ◌≤◌, Bool, true, false, cond, ◌||◌, eqb, nat_le, List, [], ◌∷◌, ◌++◌, refl, arith}
use Rattle.std.specs.Prelude.{decimal, flat_map}
use Rattle.std.specs.List.{AllByRecursion}
use Rattle.std.proofs.lemmas.Bool.Decides.{nat_tests}
use Rattle.hyphenation_grammar.specs.Lines.{is_digit}
use Rattle.hyphenation_grammar.specs.Tokens.{escaped_also, pattern_escapes}
use Rattle.hyphenation_writer.specs.Canonical.{byte_spelling, element_spelling, text_token, before_comma}
use Rattle.hyphenation_grammar.specs.declared.tokens.Escapes.{Escapes}
use Rattle.hyphenation_grammar.specs.declared.tokens.Escapes.TheVariants.{Plain, Digits, DigitsAndBraces}
use Rattle.hyphenation_grammar.specs.declared.tokens.PatternElement.{PatternElement}
use Rattle.hyphenation_grammar.specs.declared.tokens.PatternElement.TheVariants.{Letter, Value}
use Rattle.hyphenation_grammar.specs.declared.form.Version.{Version}
use Rattle.hyphenation_writer.proofs.Decimals.{decimal-written, all-digits, wide}
use Rattle.hyphenation_writer.proofs.CanonicalTokens.{AllValues, greatest, greatest-byte}

-- no byte of the text is c
abbrev pub Free : ℕ → List ℕ → Type 0
Free c text = AllByRecursion (λ b. eqb b c ≡ false) text

pub free-append : (c : ℕ) (xs ys : List ℕ) → Free c xs → Free c ys → Free c (xs ++ ys)
free-append c [] ys h k = k
free-append c (x ∷ xs) ys h k = (h.0, free-append c xs ys h.1 k)

-- a line feed or a space: what is escaped in each token, and is no letter after a backslash
pub record IsGap (c : ℕ) : Type 0 where
  pub below : c < 48
  pub not_comma : eqb 44 c ≡ false
  pub escaped : (es : Escapes) (b : ℕ) → eqb b c ≡ true → (eqb b 32 || eqb b 10) ≡ true

pub space : IsGap 32
space = record { below = omega arith; not_comma = refl; escaped = λ es b e. rw e refl }

pub feed : IsGap 10
feed = record { below = omega arith; not_comma = refl; escaped = λ es b e. either (eqb b 32) (eqb b 10) e }
  where
    either : (s t : Bool) → t ≡ true → (s || t) ≡ true
    either true t e = refl
    either false t e = e

above : (b c : ℕ) → c < 48 → is_digit b ≡ true → eqb b c ≡ false
above b c h e = grind (arith, nat_tests)

pub small : (b c : ℕ) → c < b → eqb b c ≡ false
small b c h = grind (arith, nat_tests)

pub digits-free : (c n : ℕ) → c < 48 → n < 2 ^ 64 → Free c (decimal n)
digits-free c n h k = all-digits (λ b. eqb b c ≡ false) (λ b e. above b c h e) (decimal n) (decimal-written n k).digits

module _ (c : ℕ) (gap : IsGap c) where
  pub byte-free : (es : Escapes) (b : ℕ) → Free c (byte_spelling es b)
  byte-free es b = by (eqb b 92) (eqb b 32) (eqb b 10) (eqb b 13) (escaped_also es b) (eqb b c) refl refl refl refl refl refl
    where
      pair : (d : ℕ) → 48 ≤ d → Free c (92 ∷ d ∷ [])
      pair d h = let l = gap.below in (small 92 c (omega arith), (small d c (omega arith), tt))

      digit : (es : Escapes) → escaped_also es b ≡ true → 48 ≤ b
      digit Plain e = absurd cc
      digit Digits e = grind (arith, nat_tests)
      digit DigitsAndBraces e = grind (arith, nat_tests)

      off : (s t : Bool) → (s || t) ≡ true → s ≡ false → t ≡ false → ⊥
      off true t e h k = absurd cc
      off false true e h k = absurd cc
      off false false e h k = absurd cc

      by : (t1 t2 t3 t4 t5 t6 : Bool) → eqb b 92 ≡ t1 → eqb b 32 ≡ t2 → eqb b 10 ≡ t3 → eqb b 13 ≡ t4 → escaped_also es b ≡ t5 → eqb b c ≡ t6
          → Free c (cond t1 (92 ∷ 92 ∷ []) (cond t2 (92 ∷ 115 ∷ []) (cond t3 (92 ∷ 110 ∷ []) (cond t4 (92 ∷ 114 ∷ []) (cond t5 (92 ∷ b ∷ []) (b ∷ []))))))
      by true t2 t3 t4 t5 t6 e1 e2 e3 e4 e5 e6 = pair 92 (omega arith)
      by false true t3 t4 t5 t6 e1 e2 e3 e4 e5 e6 = pair 115 (omega arith)
      by false false true t4 t5 t6 e1 e2 e3 e4 e5 e6 = pair 110 (omega arith)
      by false false false true t5 t6 e1 e2 e3 e4 e5 e6 = pair 114 (omega arith)
      by false false false false true t6 e1 e2 e3 e4 e5 e6 = pair b (digit es e5)
      by false false false false false true e1 e2 e3 e4 e5 e6 = absurd (off (eqb b 32) (eqb b 10) (gap.escaped es b e6) e2 e3)
      by false false false false false false e1 e2 e3 e4 e5 e6 = (e6, tt)

  pub bytes-free : (es : Escapes) (text : List ℕ) → Free c (flat_map (byte_spelling es) text)
  bytes-free es [] = tt
  bytes-free es (b ∷ text) = free-append c (byte_spelling es b) (flat_map (byte_spelling es) text) (byte-free es b) (bytes-free es text)

  pub text-free : (text : List ℕ) → Free c (text_token text)
  text-free [] = let l = gap.below in (small 92 c (omega arith), (small 101 c (omega arith), tt))
  text-free (b ∷ text) = bytes-free Plain (b ∷ text)

  pub number-free : (n : ℕ) → n < 2 ^ 64 → Free c (decimal n)
  number-free n h = digits-free c n gap.below h

  value-free : (version : Version) (v : ℕ) → v ≤ greatest version → Free c (element_spelling version (Value v))
  value-free version v h = by (nat_le v 9)
    where
      by : (t : Bool) → Free c (cond t ((48 + v) ∷ []) (123 ∷ (decimal v ++ 125 ∷ [])))
      by true = let l = gap.below in (small (48 + v) c (omega arith), tt)
      by false = let l = gap.below in (small 123 c (omega arith), free-append c (decimal v) (125 ∷ []) (number-free v (wide v (greatest-byte version v h))) (small 125 c (omega arith), tt))

  pub marks-free : (version : Version) (ms : List PatternElement) → AllValues version ms → Free c (flat_map (element_spelling version) ms)
  marks-free version [] h = tt
  marks-free version (Letter b ∷ ms) h = free-append c (byte_spelling (pattern_escapes version) b) (flat_map (element_spelling version) ms) (byte-free (pattern_escapes version) b) (marks-free version ms h)
  marks-free version (Value v ∷ ms) h = free-append c (element_spelling version (Value v)) (flat_map (element_spelling version) ms) (value-free version v h.0) (marks-free version ms h.1)

  pub comma-free : (n : ℕ) (rest : List ℕ) → n < 2 ^ 64 → Free c rest → Free c (before_comma n rest)
  comma-free n rest h k = free-append c (decimal n) (44 ∷ rest) (number-free n h) (gap.not_comma, k)

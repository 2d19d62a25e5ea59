-- The bytes that a UTF-8 token spells are UTF-8, and so are the letters between the values of a pattern.
use Rattle.std.proofs.Common.{◌≡◌, ◌∙◌, ℕ, ◌+◌, ◌-◌, ◌<◌, Bool, true, false, cond, not, ◌&&◌, eqb, List, [], ◌∷◌, ◌++◌, Option, Some, None, refl, sym, subst, append_assoc, arith, length, length-append}
use Rattle.std.specs.Prelude.{IsUtf8, IsCharBoundary}
use Rattle.std.specs.List.{AllByRecursion}
use Rattle.std.specs.Option.{option_map, option_and_then}
use Rattle.std.proofs.lemmas.List.{append-nil}
use Rattle.std.proofs.lemmas.Bool.Decides.{nat_tests}
use Rattle.std.proofs.lemmas.Str.{IsUtf8-append, IsCharBoundary-at_seam}
use Rattle.std.proofs.lemmas.Bool.{and_parts, not-true}
use Rattle.hyphenation_grammar.specs.Lines.{is_digit}
use Rattle.hyphenation_grammar.specs.Tokens.{values_from, escaped_bytes_after, escaped_bytes_of, byte_of_escape, escaped_also, concatenation, unescape_byte, bytes_of, element_of, key_of, is_unescaped, is_unescaped_digit, braced_value, step_outside, step_inside, elements_from, elements_of, pattern_escapes, pattern_bytes}
use Rattle.hyphenation_grammar.specs.declared.form.Version.{Version}
use Rattle.hyphenation_grammar.specs.declared.form.Version.TheVariants.{First, Second}
use Rattle.hyphenation_grammar.specs.declared.tokens.Escapes.{Escapes}
use Rattle.hyphenation_grammar.specs.declared.tokens.EscapedByte.{EscapedByte}
use Rattle.hyphenation_grammar.specs.declared.tokens.PatternElement.{PatternElement}
use Rattle.hyphenation_grammar.specs.declared.tokens.PatternElement.TheVariants.{Letter, Value}
use Rattle.hyphenation_grammar.proofs.AsciiSplits.{split_ascii, one_ascii, same_byte, small_digit}

-- after some letters p: the letters between two values are UTF-8
abbrev pub AreSeams : List ℕ → List PatternElement → Type 0
AreSeams p [] = IsUtf8 p
AreSeams p (Letter b ∷ ms) = AreSeams (p ++ b ∷ []) ms
AreSeams p (Value v ∷ ms) = IsUtf8 p × AreSeams [] ms

pub seams-utf8 : (p : List ℕ) (ms : List PatternElement) → AreSeams p ms → IsUtf8 (p ++ key_of ms)
seams-utf8 p [] h = subst IsUtf8 (sym (append-nil p)) h
seams-utf8 p (Letter b ∷ ms) h = subst IsUtf8 (append_assoc p (b ∷ []) (key_of ms)) (seams-utf8 (p ++ b ∷ []) ms h)
seams-utf8 p (Value v ∷ ms) h = IsUtf8-append p (key_of ms) h.0 (seams-utf8 [] ms h.1)

pub joined_some : (front : List EscapedByte) (rest : Option (List EscapedByte)) (ss : List EscapedByte) → concatenation (Some front) rest ≡ Some ss → (more : List EscapedByte) × (rest ≡ Some more) × (front ++ more ≡ ss)
joined_some front None ss e = absurd cc
joined_some front (Some more) ss e = (more, refl, cc)

pub none_joined : (rest : Option (List EscapedByte)) (ss : List EscapedByte) → concatenation None rest ≡ Some ss → ⊥
none_joined rest ss e = absurd cc

small_meaning : (es : Escapes) (c m : ℕ) → byte_of_escape es c ≡ Some m → (c < 128) × (m < 128)
small_meaning es c m e = by (eqb c 92) (eqb c 115) (eqb c 110) (eqb c 114) (escaped_also es c) refl refl refl refl refl e
  where
    literal : (a k : ℕ) → eqb c a ≡ true → a < 128 → k < 128 → Some k ≡ Some m → (c < 128) × (m < 128)
    literal a k t sa sk h = let same : k ≡ m = cc in (same_byte c a t sa, subst (λ (x : ℕ). x < 128) same sk)

    by : (t1 t2 t3 t4 t5 : Bool) → eqb c 92 ≡ t1 → eqb c 115 ≡ t2 → eqb c 110 ≡ t3 → eqb c 114 ≡ t4 → escaped_also es c ≡ t5
        → cond t1 (Some 92) (cond t2 (Some 32) (cond t3 (Some 10) (cond t4 (Some 13) (cond t5 (Some c) None)))) ≡ Some m → (c < 128) × (m < 128)
    by true t2 t3 t4 t5 e1 e2 e3 e4 e5 h = literal 92 92 e1 (omega arith) (omega arith) h
    by false true t3 t4 t5 e1 e2 e3 e4 e5 h = literal 115 32 e2 (omega arith) (omega arith) h
    by false false true t4 t5 e1 e2 e3 e4 e5 h = literal 110 10 e3 (omega arith) (omega arith) h
    by false false false true t5 e1 e2 e3 e4 e5 h = literal 114 13 e4 (omega arith) (omega arith) h
    by false false false false true e1 e2 e3 e4 e5 h = let same : c ≡ m = cc in (small_digit es c e5, subst (λ (x : ℕ). x < 128) same (small_digit es c e5))
    by false false false false false e1 e2 e3 e4 e5 h = absurd cc

-- after some bytes p: they and the signs that follow spell UTF-8, and each ASCII sign that is not escaped stands between characters
abbrev AreParted : List ℕ → List EscapedByte → Type 0
AreParted p [] = IsUtf8 p
AreParted p (s ∷ ss) = AreParted (p ++ s.byte ∷ []) ss × (s.escaped ≡ false → s.byte < 128 → IsUtf8 p × AreParted [] ss)

module _ (es : Escapes) where
  -- after no backslash, after some bytes p; and after one
  abbrev Keeps : List ℕ → Type 0
  Keeps rest = ((p : List ℕ) (ss : List EscapedByte) → IsUtf8 (p ++ rest) → escaped_bytes_after es false rest ≡ Some ss → AreParted p ss)
      × ((p : List ℕ) (ss : List EscapedByte) → IsUtf8 p → IsUtf8 rest → escaped_bytes_after es true rest ≡ Some ss → AreParted p ss)

  keeps_plain : (b : ℕ) (rest p : List ℕ) (ss : List EscapedByte) → Keeps rest → IsUtf8 (p ++ b ∷ rest)
      → concatenation (unescape_byte es false b) (escaped_bytes_after es (eqb b 92) rest) ≡ Some ss → AreParted p ss
  keeps_plain b rest p ss more u e = by (eqb b 92) (eqb b 13) refl refl e
    where
      by : (t1 t2 : Bool) → eqb b 92 ≡ t1 → eqb b 13 ≡ t2 → concatenation (cond t1 (Some []) (cond t2 None (Some (record { byte = b; escaped = false } ∷ [])))) (escaped_bytes_after es t1 rest) ≡ Some ss → AreParted p ss
      by true t2 e1 e2 h =
          let j = joined_some [] (escaped_bytes_after es true rest) ss h in
          let parts = split_ascii p b rest (same_byte b 92 e1 (omega arith)) u in
          subst (AreParted p) j.2 (more.1 p j.0 parts.0 parts.1 j.1)
      by false true e1 e2 h = absurd (none_joined (escaped_bytes_after es false rest) ss h)
      by false false e1 e2 h =
          let j = joined_some (record { byte = b; escaped = false } ∷ []) (escaped_bytes_after es false rest) ss h in
          subst (AreParted p) j.2 (
            more.0 (p ++ b ∷ []) j.0 (subst IsUtf8 (sym (append_assoc p (b ∷ []) rest)) u) j.1,
            λ _ small. let parts = split_ascii p b rest small u in (parts.0, more.0 [] j.0 parts.1 j.1),
          )

  keeps_escaped : (c : ℕ) (rest p : List ℕ) (ss : List EscapedByte) → Keeps rest → IsUtf8 p → IsUtf8 (c ∷ rest)
      → concatenation (option_map (λ byte. record { byte = byte; escaped = true } ∷ []) (byte_of_escape es c)) (escaped_bytes_after es false rest) ≡ Some ss → AreParted p ss
  keeps_escaped c rest p ss more up u e = by (byte_of_escape es c) refl e
    where
      by : (o : Option ℕ) → byte_of_escape es c ≡ o → concatenation (option_map (λ byte. record { byte = byte; escaped = true } ∷ []) o) (escaped_bytes_after es false rest) ≡ Some ss → AreParted p ss
      by None m h = absurd (none_joined (escaped_bytes_after es false rest) ss h)
      by (Some byte) m h =
          let small = small_meaning es c byte m in
          let j = joined_some (record { byte = byte; escaped = true } ∷ []) (escaped_bytes_after es false rest) ss h in
          let left : IsUtf8 rest = (split_ascii [] c rest small.0 u).1 in
          let front : IsUtf8 (p ++ byte ∷ []) = IsUtf8-append p (byte ∷ []) up (one_ascii byte small.1) in
          subst (AreParted p) j.2 (more.0 (p ++ byte ∷ []) j.0 (IsUtf8-append (p ++ byte ∷ []) rest front left) j.1, λ e' _. absurd cc)

  keeps : (rest : List ℕ) → Keeps rest
  keeps [] = (λ p ss u e. let none : [] ≡ ss = cc in subst (AreParted p) none (subst IsUtf8 (append-nil p) u), λ p ss up u e. absurd cc)
  keeps (b ∷ rest) = (λ p ss u e. keeps_plain b rest p ss (keeps rest) u e, λ p ss up u e. keeps_escaped b rest p ss (keeps rest) up u e)

  parted : (token : List ℕ) (ss : List EscapedByte) → IsUtf8 token → escaped_bytes_of es token ≡ Some ss → AreParted [] ss
  parted token ss u e = (keeps token).0 [] ss u e

-- what signs spell
spelt-utf8 : (p : List ℕ) (ss : List EscapedByte) → AreParted p ss → IsUtf8 (p ++ bytes_of ss)
spelt-utf8 p [] h = subst IsUtf8 (sym (append-nil p)) h
spelt-utf8 p (s ∷ ss) h = subst IsUtf8 (append_assoc p (s.byte ∷ []) (bytes_of ss)) (spelt-utf8 (p ++ s.byte ∷ []) ss h.0)

small_digit_byte : (b : ℕ) → is_digit b ≡ true → b < 128
small_digit_byte b e = grind (arith, nat_tests)

-- a mark of its own
one_mark : (p : List ℕ) (s : EscapedByte) (ss : List EscapedByte) (ms : List PatternElement) → AreParted p (s ∷ ss) → (AreParted (p ++ s.byte ∷ []) ss → AreSeams (p ++ s.byte ∷ []) ms) → (AreParted [] ss → AreSeams [] ms)
    → AreSeams p (element_of s ∷ ms)
one_mark p s ss ms h letter value = by (not s.escaped && is_digit s.byte) refl
  where
    by : (t : Bool) → (not s.escaped && is_digit s.byte) ≡ t → AreSeams p (cond t (Value (s.byte - 48)) (Letter s.byte) ∷ ms)
    by true e =
        let two = and_parts (not s.escaped) (is_digit s.byte) e in
        let cut = h.1 (not-true s.escaped two.0) (small_digit_byte s.byte two.1) in
        (cut.0, value cut.1)
    by false e = letter h.0

-- between the values of marks, outside braces and in them
abbrev Between : Version → List EscapedByte → Type 0
Between version ss = ((p : List ℕ) (ms : List PatternElement) → AreParted p ss → elements_from version None ss ≡ Some ms → AreSeams p ms)
    × ((p digits : List ℕ) (ms : List PatternElement) → IsUtf8 p → AreParted [] ss → elements_from version (Some digits) ss ≡ Some ms → AreSeams p ms)

raw_byte : (b : ℕ) (s : EscapedByte) → is_unescaped b s ≡ true → b < 128 → (s.escaped ≡ false) × (s.byte < 128)
raw_byte b s e small = let two = and_parts (not s.escaped) (eqb s.byte b) e in (not-true s.escaped two.0, same_byte s.byte b two.1 small)

raw_digit : (s : EscapedByte) → is_unescaped_digit s ≡ true → (s.escaped ≡ false) × (s.byte < 128)
raw_digit s e = let two = and_parts (not s.escaped) (is_digit s.byte) e in (not-true s.escaped two.0, small_digit_byte s.byte two.1)

pub none_and_then : (f : Option (List ℕ) × List PatternElement → Option (List PatternElement)) (ms : List PatternElement) → option_and_then f None ≡ Some ms → ⊥
none_and_then f ms e = cc

abbrev rest_of : Version → List EscapedByte → Option (List ℕ) × List PatternElement → Option (List PatternElement)
rest_of version ss step = option_map (λ marks. step.1 ++ marks) (elements_from version step.0 ss)

pub mapped_some : (front : List PatternElement) (o : Option (List PatternElement)) (ms : List PatternElement) → option_map (λ marks. front ++ marks) o ≡ Some ms → (rest : List PatternElement) × (o ≡ Some rest) × (front ++ rest ≡ ms)
mapped_some front None ms e = absurd cc
mapped_some front (Some rest) ms e = (rest, refl, cc)

first_marks : (ss : List EscapedByte) → Between First ss → (p : List ℕ) (s : EscapedByte) (ms : List PatternElement) → AreParted p (s ∷ ss) → rest_of First ss (None, element_of s ∷ []) ≡ Some ms → AreSeams p ms
first_marks ss more p s ms h e =
    let r = mapped_some (element_of s ∷ []) (elements_from First None ss) ms e in
    subst (AreSeams p) r.2 (one_mark p s ss r.0 h (λ left. more.0 (p ++ s.byte ∷ []) r.0 left r.1) (λ left. more.0 [] r.0 left r.1))

outside_marks : (ss : List EscapedByte) → Between Second ss → (p : List ℕ) (s : EscapedByte) (ms : List PatternElement) → AreParted p (s ∷ ss) → option_and_then (rest_of Second ss) (step_outside s) ≡ Some ms → AreSeams p ms
outside_marks ss more p s ms h e = by (is_unescaped 123 s) (is_unescaped 125 s) refl e
  where
    by : (t u : Bool) → is_unescaped 123 s ≡ t → option_and_then (rest_of Second ss) (cond t (Some (Some [], [])) (cond u None (Some (None, element_of s ∷ [])))) ≡ Some ms → AreSeams p ms
    by true u is e' =
        let raw = raw_byte 123 s is (omega arith) in
        let cut = h.1 raw.0 raw.1 in
        let r = mapped_some [] (elements_from Second (Some []) ss) ms e' in
        subst (AreSeams p) r.2 (more.1 p [] r.0 cut.0 cut.1 r.1)
    by false true is e' = absurd (none_and_then (rest_of Second ss) ms e')
    by false false is e' =
        let r = mapped_some (element_of s ∷ []) (elements_from Second None ss) ms e' in
        subst (AreSeams p) r.2 (one_mark p s ss r.0 h (λ left. more.0 (p ++ s.byte ∷ []) r.0 left r.1) (λ left. more.0 [] r.0 left r.1))

inside_marks : (ss : List EscapedByte) → Between Second ss → (p digits : List ℕ) (s : EscapedByte) (ms : List PatternElement) → IsUtf8 p → AreParted [] (s ∷ ss) → option_and_then (rest_of Second ss) (step_inside digits s) ≡ Some ms → AreSeams p ms
inside_marks ss more p digits s ms u h e = by (is_unescaped 125 s) (is_unescaped_digit s) refl refl e
  where
    closed : (o : Option ℕ) → AreParted [] ss → option_and_then (rest_of Second ss) (option_map (λ value. (None, Value value ∷ [])) o) ≡ Some ms → AreSeams p ms
    closed None left e' = absurd (none_and_then (rest_of Second ss) ms e')
    closed (Some value) left e' =
        let r = mapped_some (Value value ∷ []) (elements_from Second None ss) ms e' in
        subst (AreSeams p) r.2 (u, more.0 [] r.0 left r.1)

    by : (t d : Bool) → is_unescaped 125 s ≡ t → is_unescaped_digit s ≡ d
        → option_and_then (rest_of Second ss) (cond t (option_map (λ value. (None, Value value ∷ [])) (braced_value digits)) (cond d (Some (Some (digits ++ s.byte ∷ []), [])) None)) ≡ Some ms → AreSeams p ms
    by true d is isd e' = let raw = raw_byte 125 s is (omega arith) in closed (braced_value digits) (h.1 raw.0 raw.1).1 e'
    by false true is isd e' =
        let raw = raw_digit s isd in
        let r = mapped_some [] (elements_from Second (Some (digits ++ s.byte ∷ [])) ss) ms e' in
        subst (AreSeams p) r.2 (more.1 p (digits ++ s.byte ∷ []) r.0 u (h.1 raw.0 raw.1).1 r.1)
    by false false is isd e' = absurd (none_and_then (rest_of Second ss) ms e')

-- the first version closes no brace
pub never_closed : (digits : List ℕ) (ss : List EscapedByte) (ms : List PatternElement) → elements_from First (Some digits) ss ≡ Some ms → ⊥
never_closed digits [] ms e = cc
never_closed digits (s ∷ ss) ms e = let r = mapped_some (element_of s ∷ []) (elements_from First (Some digits) ss) ms e in never_closed digits ss r.0 r.1

between : (version : Version) (ss : List EscapedByte) → Between version ss
between version [] = (λ p ms h e. let none : [] ≡ ms = cc in subst (AreSeams p) none h, λ p digits ms u h e. absurd cc)
between First (s ∷ ss) = (λ p ms h e. first_marks ss (between First ss) p s ms h e, λ p digits ms u h e. absurd (never_closed digits (s ∷ ss) ms e))
between Second (s ∷ ss) = (λ p ms h e. outside_marks ss (between Second ss) p s ms h e, λ p digits ms u h e. inside_marks ss (between Second ss) p digits s ms u h e)

-- between the values of a pattern
pub marks-seams : (version : Version) (token : List ℕ) (ms : List PatternElement) → IsUtf8 token → elements_of version token ≡ Some ms → AreSeams [] ms
marks-seams version token ms u e = by (pattern_bytes version token) refl e
  where
    by : (o : Option (List EscapedByte)) → pattern_bytes version token ≡ o → option_and_then (elements_from version None) o ≡ Some ms → AreSeams [] ms
    by None is h = absurd cc
    by (Some ss) is h = (between version ss).0 [] ms (parted (pattern_escapes version) token ss u is) h

-- the bytes that a UTF-8 token is read as
pub read-utf8 : (es : Escapes) (token : List ℕ) (ss : List EscapedByte) → IsUtf8 token → escaped_bytes_of es token ≡ Some ss → IsUtf8 (bytes_of ss)
read-utf8 es token ss u e = spelt-utf8 [] ss (parted es token ss u e)

-- where the values of a pattern stand, after some letters q of its key
values-between : (key : List ℕ) (q p : List ℕ) (ms : List PatternElement) (at : ℕ) → key ≡ q ++ key_of ms → length q ≡ at → AreSeams p ms → AllByRecursion (λ v. IsCharBoundary key v.0) (values_from at ms)
values-between key q p [] at is len seams = tt
values-between key q p (Letter b ∷ ms) at is len seams = values-between key (q ++ b ∷ []) (p ++ b ∷ []) ms (at + 1) (is ∙ sym (append_assoc q (b ∷ []) (key_of ms))) (omega (arith, length-append q (b ∷ []))) seams
values-between key q p (Value v ∷ ms) at is len seams = by (eqb v 0) (values-between key q [] ms at is len seams.1)
  where
    by : (t : Bool) → AllByRecursion (λ v. IsCharBoundary key v.0) (values_from at ms) → AllByRecursion (λ v. IsCharBoundary key v.0) (cond t (values_from at ms) ((at, v) ∷ values_from at ms))
    by true more = more
    by false more = (subst (λ (n : ℕ). IsCharBoundary key n) len (IsCharBoundary-at_seam key q (key_of ms) is (seams-utf8 [] ms seams.1)), more)

pub keys-text : (version : Version) (token : List ℕ) (ms : List PatternElement) → IsUtf8 token → elements_of version token ≡ Some ms → IsUtf8 (key_of ms) × AllByRecursion (λ v. IsCharBoundary (key_of ms) v.0) (values_from 0 ms)
keys-text version token ms u e = let seams = marks-seams version token ms u e in (seams-utf8 [] ms seams, values-between (key_of ms) [] [] ms 0 refl refl seams)

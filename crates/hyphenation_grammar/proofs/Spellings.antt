-- Each spelling of bytes and of elements is read as these. Nothing else is read.
use Rattle.std.proofs.Common.{◌≡◌, ◌∙◌, ℕ, ◌+◌, ◌-◌, ◌≤◌, Bool, true, false, cond, not, ◌||◌, eqb, List, [], ◌∷◌, ◌++◌, Option, Some, None, refl, sym, ap, subst, append_assoc, arith, inl, inr, ◌≢◌, ne_of_lt}
use Rattle.std.specs.List.{list_all}
use Rattle.std.specs.Option.{option_map, option_and_then}
use Rattle.std.specs.Cmp.{first_so, second_so}
use Rattle.std.proofs.lemmas.List.{append-nil}
use Rattle.std.proofs.lemmas.Bool.{eqb-true, and_parts, not-true, ne_eqb}
use Rattle.std.proofs.lemmas.Bool.Decides.{nat_tests}
use Rattle.hyphenation_grammar.proofs.TokenUtf8.{joined_some, none_joined, mapped_some, never_closed, none_and_then}
use Rattle.hyphenation_grammar.specs.Lines.{is_digit}
use Rattle.hyphenation_grammar.specs.Laws.{SpeltOneByOne, SpellsByte, unescaped, writes_value, IsBraced, SpellsElement, IsSpeltPattern}
use Rattle.hyphenation_grammar.specs.Tokens.{escaped_bytes_after, byte_of_escape, concatenation, unescape_byte, element_of, is_unescaped, is_unescaped_digit, braced_value, step_outside, step_inside, step_at, elements_from, elements_of, pattern_escapes, pattern_bytes}
use Rattle.hyphenation_grammar.specs.declared.form.Version.{Version}
use Rattle.hyphenation_grammar.specs.declared.form.Version.TheVariants.{First, Second}
use Rattle.hyphenation_grammar.specs.declared.tokens.Escapes.{Escapes}
use Rattle.hyphenation_grammar.specs.declared.tokens.EscapedByte.{EscapedByte}
use Rattle.hyphenation_grammar.specs.declared.tokens.PatternElement.{PatternElement}
use Rattle.hyphenation_grammar.specs.declared.tokens.PatternElement.TheVariants.{Letter, Value}

-- ---- tests of bytes

off : (a b : ℕ) → a ≢ b → eqb a b ≡ false
off a b h = by (eqb a b) refl
  where
    by : (t : Bool) → eqb a b ≡ t → t ≡ false
    by true e = absurd (h (eqb-true a b e))
    by false e = refl

apart : (a b : ℕ) → eqb a b ≡ false → a ≢ b
apart a b e = λ is. over a b e is
  where
    over : (a b : ℕ) → eqb a b ≡ false → a ≡ b → ⊥
    over a b e is = grind (arith, nat_tests)

none_of_three : (a b c : Bool) → (a || (b || c)) ≡ false → (a ≡ false) × (b ≡ false) × (c ≡ false)
none_of_three true b c e = absurd cc
none_of_three false true c e = absurd cc
none_of_three false false true e = absurd cc
none_of_three false false false e = (refl, refl, refl)

three_off : (a b c : Bool) → a ≡ false → b ≡ false → c ≡ false → (a || (b || c)) ≡ false
three_off a b c x y z = rw (x, y, z) refl

-- a byte that stands as it is
abbrev raw : ℕ → EscapedByte
raw b = record { byte = b; escaped = false }

raw_is : (b : ℕ) (s : EscapedByte) → is_unescaped b s ≡ true → raw b ≡ s
raw_is b s e =
    let two = and_parts (not s.escaped) (eqb s.byte b) e in
    let stands : s.escaped ≡ false = not-true s.escaped two.0 in
    let same : s.byte ≡ b = eqb-true s.byte b two.1 in
    λ i. record { byte = sym same i; escaped = sym stands i }

raw_digit : (s : EscapedByte) → is_unescaped_digit s ≡ true → (raw s.byte ≡ s) × (is_digit s.byte ≡ true)
raw_digit s e =
    let two = and_parts (not s.escaped) (is_digit s.byte) e in
    let stands : s.escaped ≡ false = not-true s.escaped two.0 in
    (λ i. record { byte = s.byte; escaped = sym stands i }, two.1)

-- ---- bytes

read_plain : (es : Escapes) (b : ℕ) (rest : List ℕ) (ss : List EscapedByte) → eqb b 92 ≡ false → eqb b 13 ≡ false → escaped_bytes_after es false rest ≡ Some ss
    → escaped_bytes_after es false (b ∷ rest) ≡ Some (raw b ∷ ss)
read_plain es b rest ss e1 e2 h = rw (e1, e2, h) refl

read_escaped : (es : Escapes) (c m : ℕ) (rest : List ℕ) (ss : List EscapedByte) → byte_of_escape es c ≡ Some m → escaped_bytes_after es false rest ≡ Some ss
    → escaped_bytes_after es false (92 ∷ c ∷ rest) ≡ Some (record { byte = m; escaped = true } ∷ ss)
read_escaped es c m rest ss e h = rw (e, h) refl

first_byte : (es : Escapes) (s : EscapedByte) (ss : List EscapedByte) (front rest : List ℕ) → SpellsByte es s front → escaped_bytes_after es false rest ≡ Some ss
    → escaped_bytes_after es false (front ++ rest) ≡ Some (s ∷ ss)
first_byte es s ss front rest (inl h) r =
    ap (λ (f : List ℕ). escaped_bytes_after es false (f ++ rest)) h.alone
    ∙ read_plain es s.byte rest ss (off s.byte 92 h.no_backslash) (off s.byte 13 h.no_return) r
    ∙ ap (λ (t : Bool). Some (record { byte = s.byte; escaped = t } ∷ ss)) (sym h.unescaped)
first_byte es s ss front rest (inr h) r =
    ap (λ (f : List ℕ). escaped_bytes_after es false (f ++ rest)) h.pair
    ∙ read_escaped es h.letter s.byte rest ss h.means r
    ∙ ap (λ (t : Bool). Some (record { byte = s.byte; escaped = t } ∷ ss)) (sym h.escaped)

pub bytes-read : (es : Escapes) (token : List ℕ) (ss : List EscapedByte) → SpeltOneByOne (SpellsByte es) ss token → escaped_bytes_after es false token ≡ Some ss
bytes-read es token [] h = ap (escaped_bytes_after es false) h
bytes-read es token (s ∷ ss) h = ap (escaped_bytes_after es false) h.2 ∙ first_byte es s ss h.0 h.1 h.3 (bytes-read es h.1 ss h.4)

module _ (es : Escapes) where
  abbrev Spelt : List EscapedByte → List ℕ → Type 0
  Spelt ss token = SpeltOneByOne (SpellsByte es) ss token

  -- after no backslash, and after one
  abbrev AreSpelt : List ℕ → Type 0
  AreSpelt rest = ((ss : List EscapedByte) → escaped_bytes_after es false rest ≡ Some ss → Spelt ss rest)
      × ((ss : List EscapedByte) → escaped_bytes_after es true rest ≡ Some ss → Spelt ss (92 ∷ rest))

  spelt_plain : (b : ℕ) (rest : List ℕ) (ss : List EscapedByte) → AreSpelt rest → concatenation (unescape_byte es false b) (escaped_bytes_after es (eqb b 92) rest) ≡ Some ss → Spelt ss (b ∷ rest)
  spelt_plain b rest ss more e = by (eqb b 92) (eqb b 13) refl refl e
    where
      by : (t1 t2 : Bool) → eqb b 92 ≡ t1 → eqb b 13 ≡ t2 → concatenation (cond t1 (Some []) (cond t2 None (Some (raw b ∷ [])))) (escaped_bytes_after es t1 rest) ≡ Some ss → Spelt ss (b ∷ rest)
      by true t2 e1 e2 h =
          let j = joined_some [] (escaped_bytes_after es true rest) ss h in
          subst (λ (xs : List EscapedByte). Spelt xs (b ∷ rest)) j.2 (subst (λ (x : ℕ). Spelt j.0 (x ∷ rest)) (sym (eqb-true b 92 e1)) (more.1 j.0 j.1))
      by false true e1 e2 h = absurd (none_joined (escaped_bytes_after es false rest) ss h)
      by false false e1 e2 h =
          let j = joined_some (raw b ∷ []) (escaped_bytes_after es false rest) ss h in
          let first : SpellsByte es (raw b) (b ∷ []) = inl (record { unescaped = refl; alone = refl; no_backslash = apart b 92 e1; no_return = apart b 13 e2 }) in
          subst (λ (xs : List EscapedByte). Spelt xs (b ∷ rest)) j.2 (b ∷ [], rest, refl, first, more.0 j.0 j.1)

  spelt_escaped : (c : ℕ) (rest : List ℕ) (ss : List EscapedByte) → AreSpelt rest
      → concatenation (option_map (λ byte. record { byte = byte; escaped = true } ∷ []) (byte_of_escape es c)) (escaped_bytes_after es false rest) ≡ Some ss → Spelt ss (92 ∷ c ∷ rest)
  spelt_escaped c rest ss more e = by (byte_of_escape es c) refl e
    where
      by : (o : Option ℕ) → byte_of_escape es c ≡ o → concatenation (option_map (λ byte. record { byte = byte; escaped = true } ∷ []) o) (escaped_bytes_after es false rest) ≡ Some ss → Spelt ss (92 ∷ c ∷ rest)
      by None m h = absurd (none_joined (escaped_bytes_after es false rest) ss h)
      by (Some byte) m h =
          let j = joined_some (record { byte = byte; escaped = true } ∷ []) (escaped_bytes_after es false rest) ss h in
          let first : SpellsByte es (record { byte = byte; escaped = true }) (92 ∷ c ∷ []) = inr (record { escaped = refl; letter = c; pair = refl; means = m }) in
          subst (λ (xs : List EscapedByte). Spelt xs (92 ∷ c ∷ rest)) j.2 (92 ∷ c ∷ [], rest, refl, first, more.0 j.0 j.1)

  are_spelt : (rest : List ℕ) → AreSpelt rest
  are_spelt [] = (λ ss e. let none : [] ≡ ss = cc in subst (λ (xs : List EscapedByte). Spelt xs []) none refl, λ ss e. absurd cc)
  are_spelt (b ∷ rest) = (λ ss e. spelt_plain b rest ss (are_spelt rest) e, λ ss e. spelt_escaped b rest ss (are_spelt rest) e)

  pub bytes-spelt : (token : List ℕ) (ss : List EscapedByte) → escaped_bytes_after es false token ≡ Some ss → Spelt ss token
  bytes-spelt token ss e = (are_spelt token).0 ss e

-- ---- elements: each spelling is read

abbrev rest_of : Version → List EscapedByte → Option (List ℕ) × List PatternElement → Option (List PatternElement)
rest_of version ss step = option_map (λ marks. step.1 ++ marks) (elements_from version step.0 ss)

element_more : (version : Version) (m : PatternElement) (s : EscapedByte) (ss : List EscapedByte) (ms : List PatternElement) → step_at version None s ≡ Some (None, m ∷ []) → elements_from version None ss ≡ Some ms
    → elements_from version None (s ∷ ss) ≡ Some (m ∷ ms)
element_more version m s ss ms e h =
    ap (option_and_then (rest_of version ss)) e
    ∙ ap (option_map {U = List PatternElement} (λ marks. m ∷ marks)) h

letter_is : (b : ℕ) (s : EscapedByte) → s.byte ≡ b → is_unescaped_digit s ≡ false → element_of s ≡ Letter b
letter_is b s is off = rw off (ap (λ (x : ℕ). Letter x) is)

letter_taken : (version : Version) (b : ℕ) (s : EscapedByte) → s.byte ≡ b → writes_value version s ≡ false → step_at version None s ≡ Some (None, Letter b ∷ [])
letter_taken First b s is off = ap (λ (m : PatternElement). Some (None, m ∷ [])) (letter_is b s is off)
letter_taken Second b s is off =
    let n = none_of_three (is_unescaped_digit s) (is_unescaped 123 s) (is_unescaped 125 s) off in
    rw (n.1, n.2) (ap (λ (m : PatternElement). Some (None, m ∷ [])) (letter_is b s is n.0))

digit_is : (v : ℕ) → v ≤ 9 → is_digit (48 + v) ≡ true
digit_is v h = grind (arith, nat_tests)

value_is : (v : ℕ) → v ≤ 9 → element_of (raw (48 + v)) ≡ Value v
value_is v h = let e : is_digit (48 + v) ≡ true = digit_is v h in rw e (ap (λ (x : ℕ). Value x) (omega arith))

digit_taken : (version : Version) (v : ℕ) → v ≤ 9 → step_at version None (raw (48 + v)) ≡ Some (None, Value v ∷ [])
digit_taken First v h = ap (λ (m : PatternElement). Some (None, m ∷ [])) (value_is v h)
digit_taken Second v h = rw (ne_eqb (48 + v) 123 (ne_of_lt (omega arith)), ne_eqb (48 + v) 125 (ne_of_lt (omega arith))) (ap (λ (m : PatternElement). Some (None, m ∷ [])) (value_is v h))

closes_none : (b : ℕ) → is_digit b ≡ true → eqb b 125 ≡ false
closes_none b e = grind (arith, nat_tests)

digit_inside : (digits : List ℕ) (b : ℕ) → is_digit b ≡ true → step_inside digits (raw b) ≡ Some (Some (digits ++ b ∷ []), [])
digit_inside digits b e = rw (closes_none b e, e) refl

one_more : (ms : List PatternElement) (o : Option (List PatternElement)) → o ≡ Some ms → option_map {U = List PatternElement} (λ marks. [] ++ marks) o ≡ Some ms
one_more ms o e = ap (option_map {U = List PatternElement} (λ marks. [] ++ marks)) e

value_inside : (digits ds : List ℕ) (v : ℕ) (ss : List EscapedByte) (ms : List PatternElement) → list_all is_digit ds ≡ true → braced_value (digits ++ ds) ≡ Some v → elements_from Second None ss ≡ Some ms
    → elements_from Second (Some digits) (unescaped ds ++ raw 125 ∷ ss) ≡ Some (Value v ∷ ms)
value_inside digits [] v ss ms e is h =
    ap (λ (o : Option ℕ). option_and_then (rest_of Second ss) (option_map (λ value. (None, Value value ∷ [])) o)) (ap braced_value (sym (append-nil digits)) ∙ is)
    ∙ ap (option_map {U = List PatternElement} (λ marks. Value v ∷ marks)) h
value_inside digits (b ∷ ds) v ss ms e is h =
    ap (option_and_then (rest_of Second (unescaped ds ++ raw 125 ∷ ss))) (digit_inside digits b (first_so (is_digit b) (list_all is_digit ds) e))
    ∙ one_more (Value v ∷ ms) (elements_from Second (Some (digits ++ b ∷ [])) (unescaped ds ++ raw 125 ∷ ss)) (value_inside (digits ++ b ∷ []) ds v ss ms (second_so (is_digit b) (list_all is_digit ds) e) (ap braced_value (append_assoc digits (b ∷ []) ds) ∙ is) h)

closed_at : (ds : List ℕ) (c : ℕ) (ss : List EscapedByte) → unescaped (ds ++ c ∷ []) ++ ss ≡ unescaped ds ++ raw c ∷ ss
closed_at [] c ss = refl
closed_at (d ∷ ds) c ss = ap (λ (xs : List EscapedByte). raw d ∷ xs) (closed_at ds c ss)

-- a value in braces is written in digits
unread : (digits : List ℕ) (v : ℕ) → list_all is_digit digits ≡ false → braced_value digits ≡ Some v → ⊥
unread digits v is h = let none : braced_value digits ≡ None = rw is refl in absurd cc

are_digits : (digits : List ℕ) (v : ℕ) → braced_value digits ≡ Some v → list_all is_digit digits ≡ true
are_digits digits v e = by (list_all is_digit digits) refl
  where
    by : (t : Bool) → list_all is_digit digits ≡ t → t ≡ true
    by true is = refl
    by false is = absurd (unread digits v is e)

braced_read : (version : Version) (v : ℕ) (ms : List PatternElement) (front rest : List EscapedByte) → IsBraced version v front → elements_from version None rest ≡ Some ms → elements_from version None (front ++ rest) ≡ Some (Value v ∷ ms)
braced_read First v ms front rest h r = let no : First ≡ Second = h.second in absurd cc
braced_read Second v ms front rest h r =
    ap (λ (f : List EscapedByte). elements_from Second None (f ++ rest)) h.braces
    ∙ one_more (Value v ∷ ms) (elements_from Second (Some []) (unescaped (h.digits ++ 125 ∷ []) ++ rest))
    (ap (elements_from Second (Some [])) (closed_at h.digits 125 rest) ∙ value_inside [] h.digits v rest ms (are_digits h.digits v h.number) h.number r)

first_element : (version : Version) (m : PatternElement) (ms : List PatternElement) (front rest : List EscapedByte) → SpellsElement version m front → elements_from version None rest ≡ Some ms
    → elements_from version None (front ++ rest) ≡ Some (m ∷ ms)
first_element version (Letter b) ms front rest h r =
    ap (λ (f : List EscapedByte). elements_from version None (f ++ rest)) h.alone ∙ element_more version (Letter b) h.spelt rest ms (letter_taken version b h.spelt h.byte h.no_value) r
first_element version (Value v) ms front rest (inl h) r =
    ap (λ (f : List EscapedByte). elements_from version None (f ++ rest)) h.alone ∙ element_more version (Value v) (raw (48 + v)) rest ms (digit_taken version v h.one_digit) r
first_element version (Value v) ms front rest (inr h) r = braced_read version v ms front rest h r

pub elements-read : (version : Version) (ss : List EscapedByte) (ms : List PatternElement) → SpeltOneByOne (SpellsElement version) ms ss → elements_from version None ss ≡ Some ms
elements-read version ss [] h = ap (elements_from version None) h
elements-read version ss (m ∷ ms) h = ap (elements_from version None) h.2 ∙ first_element version m ms h.0 h.1 h.3 (elements-read version h.1 ms h.4)

-- ---- elements: nothing else is read

abbrev Spells : Version → List PatternElement → List EscapedByte → Type 0
Spells version ms ss = SpeltOneByOne (SpellsElement version) ms ss

-- outside braces, and in them after some digits
abbrev AllSpelt : Version → List EscapedByte → Type 0
AllSpelt version ss = ((ms : List PatternElement) → elements_from version None ss ≡ Some ms → Spells version ms ss)
    × ((digits : List ℕ) (ms : List PatternElement) → elements_from version (Some digits) ss ≡ Some ms → Spells version ms (raw 123 ∷ (unescaped digits ++ ss)))

back : (b : ℕ) → is_digit b ≡ true → (b ≡ 48 + (b - 48)) × (b - 48 ≤ 9)
back b e = (there b e, low b e)
  where
    there : (b : ℕ) → is_digit b ≡ true → b ≡ 48 + (b - 48)
    there b e = grind (arith, nat_tests)

    low : (b : ℕ) → is_digit b ≡ true → b - 48 ≤ 9
    low b e = grind (arith, nat_tests)

-- one byte outside braces that opens and closes none
element_spelt : (version : Version) (s : EscapedByte) (ss : List EscapedByte) (ms : List PatternElement) → (is_unescaped_digit s ≡ false → writes_value version s ≡ false) → Spells version ms ss → Spells version (element_of s ∷ ms) (s ∷ ss)
element_spelt version s ss ms letter more = by (is_unescaped_digit s) refl
  where
    by : (t : Bool) → is_unescaped_digit s ≡ t → Spells version (cond t (Value (s.byte - 48)) (Letter s.byte) ∷ ms) (s ∷ ss)
    by true e =
        let d = raw_digit s e in
        let b = back s.byte d.1 in
        let alone : s ∷ [] ≡ unescaped ((48 + (s.byte - 48)) ∷ []) = sym (ap (λ (x : EscapedByte). x ∷ []) d.0) ∙ ap (λ (n : ℕ). raw n ∷ []) b.0 in
        let first : SpellsElement version (Value (s.byte - 48)) (s ∷ []) = inl (record { one_digit = b.1; alone = alone }) in
        (s ∷ [], ss, refl, first, more)
    by false e =
        let first : SpellsElement version (Letter s.byte) (s ∷ []) = record { spelt = s; alone = refl; byte = refl; no_value = letter e } in
        (s ∷ [], ss, refl, first, more)

first_spelt : (s : EscapedByte) (ss : List EscapedByte) (ms : List PatternElement) → AllSpelt First ss → rest_of First ss (None, element_of s ∷ []) ≡ Some ms → Spells First ms (s ∷ ss)
first_spelt s ss ms more e =
    let r = mapped_some (element_of s ∷ []) (elements_from First None ss) ms e in
    subst (λ (xs : List PatternElement). Spells First xs (s ∷ ss)) r.2 (element_spelt First s ss r.0 (λ off. off) (more.0 r.0 r.1))

outside_spelt : (s : EscapedByte) (ss : List EscapedByte) (ms : List PatternElement) → AllSpelt Second ss → option_and_then (rest_of Second ss) (step_outside s) ≡ Some ms → Spells Second ms (s ∷ ss)
outside_spelt s ss ms more e = by (is_unescaped 123 s) (is_unescaped 125 s) refl refl e
  where
    by : (t u : Bool) → is_unescaped 123 s ≡ t → is_unescaped 125 s ≡ u → option_and_then (rest_of Second ss) (cond t (Some (Some [], [])) (cond u None (Some (None, element_of s ∷ [])))) ≡ Some ms → Spells Second ms (s ∷ ss)
    by true u is isc e' =
        let r = mapped_some [] (elements_from Second (Some []) ss) ms e' in
        subst (λ (xs : List PatternElement). Spells Second xs (s ∷ ss)) r.2 (subst (λ (x : EscapedByte). Spells Second r.0 (x ∷ ss)) (raw_is 123 s is) (more.1 [] r.0 r.1))
    by false true is isc e' = absurd (none_and_then (rest_of Second ss) ms e')
    by false false is isc e' =
        let r = mapped_some (element_of s ∷ []) (elements_from Second None ss) ms e' in
        subst (λ (xs : List PatternElement). Spells Second xs (s ∷ ss)) r.2
        (element_spelt Second s ss r.0 (λ off. three_off (is_unescaped_digit s) (is_unescaped 123 s) (is_unescaped 125 s) off is isc) (more.0 r.0 r.1))

inside_spelt : (digits : List ℕ) (s : EscapedByte) (ss : List EscapedByte) (ms : List PatternElement) → AllSpelt Second ss → option_and_then (rest_of Second ss) (step_inside digits s) ≡ Some ms
    → Spells Second ms (raw 123 ∷ (unescaped digits ++ s ∷ ss))
inside_spelt digits s ss ms more e = by (is_unescaped 125 s) (is_unescaped_digit s) refl refl e
  where
    closed : (o : Option ℕ) → braced_value digits ≡ o → option_and_then (rest_of Second ss) (option_map (λ value. (None, Value value ∷ [])) o) ≡ Some ms → Spells Second ms (raw 123 ∷ (unescaped digits ++ raw 125 ∷ ss))
    closed None is e' = absurd (none_and_then (rest_of Second ss) ms e')
    closed (Some value) is e' =
        let r = mapped_some (Value value ∷ []) (elements_from Second None ss) ms e' in
        let first : SpellsElement Second (Value value) (unescaped (123 ∷ (digits ++ 125 ∷ []))) = inr (record { second = refl; digits = digits; number = is; braces = refl }) in
        let joined : raw 123 ∷ (unescaped digits ++ raw 125 ∷ ss) ≡ unescaped (123 ∷ (digits ++ 125 ∷ [])) ++ ss = ap (λ (xs : List EscapedByte). raw 123 ∷ xs) (sym (closed_at digits 125 ss)) in
        subst (λ (xs : List PatternElement). Spells Second xs (raw 123 ∷ (unescaped digits ++ raw 125 ∷ ss))) r.2 (unescaped (123 ∷ (digits ++ 125 ∷ [])), ss, joined, first, more.0 r.0 r.1)

    by : (t d : Bool) → is_unescaped 125 s ≡ t → is_unescaped_digit s ≡ d
        → option_and_then (rest_of Second ss) (cond t (option_map (λ value. (None, Value value ∷ [])) (braced_value digits)) (cond d (Some (Some (digits ++ s.byte ∷ []), [])) None)) ≡ Some ms
        → Spells Second ms (raw 123 ∷ (unescaped digits ++ s ∷ ss))
    by true d is isd e' = subst (λ (x : EscapedByte). Spells Second ms (raw 123 ∷ (unescaped digits ++ x ∷ ss))) (raw_is 125 s is) (closed (braced_value digits) refl e')
    by false true is isd e' =
        let r = mapped_some [] (elements_from Second (Some (digits ++ s.byte ∷ [])) ss) ms e' in
        let joined : unescaped (digits ++ s.byte ∷ []) ++ ss ≡ unescaped digits ++ s ∷ ss = closed_at digits s.byte ss ∙ ap (λ (x : EscapedByte). unescaped digits ++ x ∷ ss) (raw_digit s isd).0 in
        subst (λ (xs : List PatternElement). Spells Second xs (raw 123 ∷ (unescaped digits ++ s ∷ ss))) r.2
        (subst (λ (xs : List EscapedByte). Spells Second r.0 (raw 123 ∷ xs)) joined (more.1 (digits ++ s.byte ∷ []) r.0 r.1))
    by false false is isd e' = absurd (none_and_then (rest_of Second ss) ms e')

all_spelt : (version : Version) (ss : List EscapedByte) → AllSpelt version ss
all_spelt version [] = (λ ms e. let none : [] ≡ ms = cc in subst (λ (xs : List PatternElement). Spells version xs []) none refl, λ digits ms e. absurd cc)
all_spelt First (s ∷ ss) = (λ ms e. first_spelt s ss ms (all_spelt First ss) e, λ digits ms e. absurd (never_closed digits (s ∷ ss) ms e))
all_spelt Second (s ∷ ss) = (λ ms e. outside_spelt s ss ms (all_spelt Second ss) e, λ digits ms e. inside_spelt digits s ss ms (all_spelt Second ss) e)

pub elements-spelt : (version : Version) (ss : List EscapedByte) (ms : List PatternElement) → elements_from version None ss ≡ Some ms → SpeltOneByOne (SpellsElement version) ms ss
elements-spelt version ss ms e = (all_spelt version ss).0 ms e

-- ---- whole patterns

pub pattern-read : (version : Version) (token : List ℕ) (ms : List PatternElement) → IsSpeltPattern version ms token → elements_of version token ≡ Some ms
pattern-read version token ms h =
    ap (option_and_then (elements_from version None)) (bytes-read (pattern_escapes version) token h.bytes h.token_spells) ∙ elements-read version h.bytes ms h.bytes_spell

pub pattern-spelt : (version : Version) (token : List ℕ) (ms : List PatternElement) → elements_of version token ≡ Some ms → IsSpeltPattern version ms token
pattern-spelt version token ms e = by (pattern_bytes version token) refl e
  where
    by : (o : Option (List EscapedByte)) → pattern_bytes version token ≡ o → option_and_then (elements_from version None) o ≡ Some ms → IsSpeltPattern version ms token
    by None is h = absurd cc
    by (Some ss) is h = record { bytes = ss; token_spells = bytes-spelt (pattern_escapes version) token ss is; bytes_spell = elements-spelt version ss ms h }

-- Tokens and lines of the canonical text are read again: escapes, elements, keys and values.
use Rattle.std.proofs.Common.{◌≡◌, ℕ, ◌+◌, ◌<◌, ◌≤◌, Bool, true, false, cond, not, ◌&&◌, ◌||◌, eqb, nat_le, List, [], ◌∷◌, ◌++◌, length, map, Option, Some, None, is_some, refl, sym, ap, subst, ◌∙◌, append_assoc, arith}
use Rattle.std.specs.Prelude.{flat_map, decimal}
use Rattle.std.specs.Option.{option_map, option_and_then}
use Rattle.std.specs.List.{list_all, slice_split, All}
use Rattle.std.proofs.lemmas.List.{append-nil}
use Rattle.std.proofs.lemmas.List.Splits.{slice_split_at}
use Rattle.std.proofs.lemmas.Bool.{eqb-true, leb-true}
use Rattle.std.proofs.lemmas.Bool.Decides.{nat_tests}
use Rattle.hyphenation_breaks.specs.Break.{Change}
use Rattle.hyphenation_grammar.specs.Lines.{is_digit, lines_of, without_empty_last}
use Rattle.hyphenation_grammar.specs.Tokens.{escaped_bytes_after, escaped_bytes_of, byte_of_escape, is_brace, escaped_also, bytes_of, element_of, braced_value, step_inside, step_at, elements_from, elements_of, pattern_escapes, pattern_bytes, key_of, values_from}
use Rattle.hyphenation_writer.specs.Canonical.{byte_spelling, element_spelling, elements_for, with_line_feeds}
use Rattle.hyphenation_breaks.specs.declared.entry.Entry.{Entry}
use Rattle.hyphenation_grammar.specs.declared.form.Version.{Version}
use Rattle.hyphenation_grammar.specs.declared.form.Version.TheVariants.{First, Second}
use Rattle.hyphenation_grammar.specs.declared.tokens.Escapes.{Escapes}
use Rattle.hyphenation_grammar.specs.declared.tokens.Escapes.TheVariants.{Plain, Digits, DigitsAndBraces}
use Rattle.hyphenation_grammar.specs.declared.tokens.EscapedByte.{EscapedByte}
use Rattle.hyphenation_grammar.specs.declared.tokens.PatternElement.{PatternElement}
use Rattle.hyphenation_grammar.specs.declared.tokens.PatternElement.TheVariants.{Letter, Value}
use Rattle.hyphenation_writer.proofs.Decimals.{decimal-written, braced-again, wide}
use Rattle.std.specs.Cmp.{first_so, second_so}

apart : (a b : ℕ) → a < b → eqb a b ≡ false
apart a b h = grind (arith, nat_tests)

read_plain : (es : Escapes) (b : ℕ) (rest : List ℕ) (ss : List EscapedByte) → eqb b 92 ≡ false → eqb b 13 ≡ false → escaped_bytes_after es false rest ≡ Some ss
    → escaped_bytes_after es false (b ∷ rest) ≡ Some (record { byte = b; escaped = false } ∷ ss)
read_plain es b rest ss e1 e2 h = rw (e1, e2, h) refl

read_escaped : (es : Escapes) (c m : ℕ) (rest : List ℕ) (ss : List EscapedByte) → byte_of_escape es c ≡ Some m → escaped_bytes_after es false rest ≡ Some ss
    → escaped_bytes_after es false (92 ∷ c ∷ rest) ≡ Some (record { byte = m; escaped = true } ∷ ss)
read_escaped es c m rest ss e h = rw (e, h) refl

-- A sign for the byte: of that byte, and escaped where a digit would be a value.
record SignFor (es : Escapes) (b : ℕ) (token : List ℕ) (ss : List EscapedByte) : Type 0 where
  pub sign : EscapedByte
  pub read : escaped_bytes_after es false token ≡ Some (sign ∷ ss)
  pub byte : sign.byte ≡ b
  pub letter : (not sign.escaped && escaped_also es sign.byte) ≡ false

reads_byte : (es : Escapes) (b : ℕ) (rest : List ℕ) (ss : List EscapedByte) → escaped_bytes_after es false rest ≡ Some ss → SignFor es b (byte_spelling es b ++ rest) ss
reads_byte es b rest ss h = by (eqb b 92) (eqb b 32) (eqb b 10) (eqb b 13) (escaped_also es b) refl refl refl refl refl
  where
    literal : (c m : ℕ) → byte_of_escape es c ≡ Some m → m ≡ b → SignFor es b (92 ∷ c ∷ rest) ss
    literal c m e is = record { sign = record { byte = m; escaped = true }; read = read_escaped es c m rest ss e h; byte = is; letter = refl }

    by : (t1 t2 t3 t4 t5 : Bool) → eqb b 92 ≡ t1 → eqb b 32 ≡ t2 → eqb b 10 ≡ t3 → eqb b 13 ≡ t4 → escaped_also es b ≡ t5
        → SignFor es b (cond t1 (92 ∷ 92 ∷ []) (cond t2 (92 ∷ 115 ∷ []) (cond t3 (92 ∷ 110 ∷ []) (cond t4 (92 ∷ 114 ∷ []) (cond t5 (92 ∷ b ∷ []) (b ∷ []))))) ++ rest) ss
    by true t2 t3 t4 t5 e1 e2 e3 e4 e5 = literal 92 92 refl (sym (eqb-true b 92 e1))
    by false true t3 t4 t5 e1 e2 e3 e4 e5 = literal 115 32 refl (sym (eqb-true b 32 e2))
    by false false true t4 t5 e1 e2 e3 e4 e5 = literal 110 10 refl (sym (eqb-true b 10 e3))
    by false false false true t5 e1 e2 e3 e4 e5 = literal 114 13 refl (sym (eqb-true b 13 e4))
    by false false false false true e1 e2 e3 e4 e5 = literal b b (itself e1 (none es 115 e5 refl) (none es 110 e5 refl) (none es 114 e5 refl) e5) refl
      where
        itself : eqb b 92 ≡ false → eqb b 115 ≡ false → eqb b 110 ≡ false → eqb b 114 ≡ false → escaped_also es b ≡ true → byte_of_escape es b ≡ Some b
        itself f1 f2 f3 f4 f5 = rw (f1, f2, f3, f4, f5) refl

        none : (es : Escapes) (c : ℕ) → escaped_also es b ≡ true → escaped_also DigitsAndBraces c ≡ false → eqb b c ≡ false
        none Plain c e f = absurd cc
        none Digits c e f = grind (arith, nat_tests)
        none DigitsAndBraces c e f = grind (arith, nat_tests)
    by false false false false false e1 e2 e3 e4 e5 = record { sign = record { byte = b; escaped = false }; read = read_plain es b rest ss e1 e4 h; byte = refl; letter = e5 }

-- texts
pub reads_text : (es : Escapes) (text : List ℕ) → (ss : List EscapedByte) × (escaped_bytes_of es (flat_map (byte_spelling es) text) ≡ Some ss) × (bytes_of ss ≡ text)
reads_text es [] = ([], refl, refl)
reads_text es (b ∷ text) =
    let rest = reads_text es text in
    let first = reads_byte es b (flat_map (byte_spelling es) text) rest.0 rest.1 in
    (first.sign ∷ rest.0, first.read, λ i. first.byte i ∷ rest.2 i)

-- The greatest value that a version says.
abbrev pub greatest : Version → ℕ
greatest First = 9
greatest Second = 255

pub greatest-byte : (version : Version) (v : ℕ) → v ≤ greatest version → v ≤ 255
greatest-byte First v h = omega arith
greatest-byte Second v h = h

abbrev pub AllValues : Version → List PatternElement → Type 0
AllValues version [] = Unit {0}
AllValues version (Letter b ∷ ms) = AllValues version ms
AllValues version (Value v ∷ ms) = (v ≤ greatest version) × AllValues version ms

-- A sign that means itself.
abbrev pub raw : ℕ → EscapedByte
raw b = record { byte = b; escaped = false }

-- digits before a text are read as they stand
digit_plain : (b : ℕ) → is_digit b ≡ true → (eqb b 92 ≡ false) × (eqb b 13 ≡ false)
digit_plain b e = (above b 92 e (omega arith), low b 13 e (omega arith))
  where
    above : (b c : ℕ) → is_digit b ≡ true → 58 ≤ c → eqb b c ≡ false
    above b c e h = grind (arith, nat_tests)

    low : (b c : ℕ) → is_digit b ≡ true → c < 48 → eqb b c ≡ false
    low b c e h = grind (arith, nat_tests)

pub digits-signs : (es : Escapes) (ds rest : List ℕ) (ss : List EscapedByte) → list_all is_digit ds ≡ true → escaped_bytes_after es false rest ≡ Some ss → escaped_bytes_after es false (ds ++ rest) ≡ Some (map raw ds ++ ss)
digits-signs es [] rest ss e h = h
digits-signs es (b ∷ ds) rest ss e h =
    let p = digit_plain b (first_so (is_digit b) (list_all is_digit ds) e) in
    read_plain es b (ds ++ rest) (map raw ds ++ ss) p.0 p.1 (digits-signs es ds rest ss (second_so (is_digit b) (list_all is_digit ds) e) h)

-- and in braces they say their value
abbrev rest_of : Version → List EscapedByte → Option (List ℕ) × List PatternElement → Option (List PatternElement)
rest_of version ss step = option_map (λ marks. step.1 ++ marks) (elements_from version step.0 ss)

braced_on : (b : ℕ) → is_digit b ≡ true → eqb b 125 ≡ false
braced_on b e = grind (arith, nat_tests)

digit_inside : (digits : List ℕ) (b : ℕ) → is_digit b ≡ true → step_inside digits (raw b) ≡ Some (Some (digits ++ b ∷ []), [])
digit_inside digits b e = rw (braced_on b e, e) refl

value-inside : (digits ds : List ℕ) (v : ℕ) (ss : List EscapedByte) (ms : List PatternElement) → list_all is_digit ds ≡ true → braced_value (digits ++ ds) ≡ Some v → elements_from Second None ss ≡ Some ms
    → elements_from Second (Some digits) (map raw ds ++ raw 125 ∷ ss) ≡ Some (Value v ∷ ms)
value-inside digits [] v ss ms e is h =
    ap (λ (o : Option ℕ). option_and_then (rest_of Second ss) (option_map (λ value. (None, Value value ∷ [])) o)) (ap braced_value (sym (append-nil digits)) ∙ is)
    ∙ ap (option_map {U = List PatternElement} (λ marks. Value v ∷ marks)) h
value-inside digits (b ∷ ds) v ss ms e is h =
    ap (option_and_then (rest_of Second (map raw ds ++ raw 125 ∷ ss))) (digit_inside digits b (first_so (is_digit b) (list_all is_digit ds) e))
    ∙ ap (option_map {U = List PatternElement} (λ marks. [] ++ marks)) (value-inside (digits ++ b ∷ []) ds v ss ms (second_so (is_digit b) (list_all is_digit ds) e) (ap braced_value (append_assoc digits (b ∷ []) ds) ∙ is) h)

-- a letter stands outside braces, and so does a digit
letter_mark : (b : ℕ) (s : EscapedByte) → s.byte ≡ b → (not s.escaped && is_digit s.byte) ≡ false → element_of s ≡ Letter b
letter_mark b s is off = rw off (ap (λ (x : ℕ). Letter x) is)

no_digit : (a b c : Bool) → (not a && (b || c)) ≡ false → (not a && b) ≡ false
no_digit true b c e = refl
no_digit false true c e = e
no_digit false false c e = refl

no_brace : (a b c d : Bool) → (not a && (b || (c || d))) ≡ false → ((not a && c) ≡ false) × ((not a && d) ≡ false)
no_brace true b c d e = (refl, refl)
no_brace false true c d e = absurd cc
no_brace false false true d e = absurd cc
no_brace false false false d e = (refl, e)

letter_taken : (version : Version) (b : ℕ) (s : EscapedByte) → s.byte ≡ b → (not s.escaped && escaped_also (pattern_escapes version) s.byte) ≡ false → step_at version None s ≡ Some (None, Letter b ∷ [])
letter_taken First b s is off = ap (λ (m : PatternElement). Some (None, m ∷ [])) (letter_mark b s is off)
letter_taken Second b s is off =
    let n = no_brace s.escaped (is_digit s.byte) (eqb s.byte 123) (eqb s.byte 125) off in
    rw (n.0, n.1) (ap (λ (m : PatternElement). Some (None, m ∷ [])) (letter_mark b s is (no_digit s.escaped (is_digit s.byte) (is_brace s.byte) off)))

value_plain : (v : ℕ) → v < 10 → (eqb (48 + v) 92 ≡ false) × (eqb (48 + v) 13 ≡ false) × (is_digit (48 + v) ≡ true)
value_plain v h = (apart (48 + v) 92 (omega arith), sym_apart, both)
  where
    sym_apart : eqb (48 + v) 13 ≡ false
    sym_apart = grind (arith, nat_tests)

    both : is_digit (48 + v) ≡ true
    both = grind (arith, nat_tests)

value_mark : (v : ℕ) → v < 10 → element_of (raw (48 + v)) ≡ Value v
value_mark v h = let p = value_plain v h in let e : is_digit (48 + v) ≡ true = p.2 in rw e (ap (λ (x : ℕ). Value x) (omega arith))

digit_taken : (version : Version) (v : ℕ) → v < 10 → step_at version None (raw (48 + v)) ≡ Some (None, Value v ∷ [])
digit_taken First v h = ap (λ (m : PatternElement). Some (None, m ∷ [])) (value_mark v h)
digit_taken Second v h = rw (apart (48 + v) 123 (omega arith), apart (48 + v) 125 (omega arith)) (ap (λ (m : PatternElement). Some (None, m ∷ [])) (value_mark v h))

mark-more : (version : Version) (m : PatternElement) (s : EscapedByte) (ss : List EscapedByte) (ms : List PatternElement) → step_at version None s ≡ Some (None, m ∷ []) → elements_from version None ss ≡ Some ms → elements_from version None (s ∷ ss) ≡ Some (m ∷ ms)
mark-more version m s ss ms e h =
    ap (option_and_then (rest_of version ss)) e
    ∙ ap (option_map {U = List PatternElement} (λ marks. m ∷ marks)) h

-- The signs of marks as they are spelt, and that they say them.
record ReadsMarks (version : Version) (token : List ℕ) (ms : List PatternElement) : Type 0 where
  pub signs : List EscapedByte
  pub read : escaped_bytes_of (pattern_escapes version) token ≡ Some signs
  pub marks : elements_from version None signs ≡ Some ms

small_value : (v : ℕ) → nat_le v 9 ≡ true → v < 10
small_value v e = let le = leb-true v 9 e in omega arith

reads_value : (version : Version) (v : ℕ) (rest : List ℕ) (ms : List PatternElement) → v ≤ greatest version → ReadsMarks version rest ms → ReadsMarks version (element_spelling version (Value v) ++ rest) (Value v ∷ ms)
reads_value version v rest ms le r = by version (nat_le v 9) refl le r
  where
    over : (v : ℕ) → nat_le v 9 ≡ false → v ≤ 9 → ⊥
    over v e h = grind (arith, nat_tests)

    by : (version : Version) (t : Bool) → nat_le v 9 ≡ t → v ≤ greatest version → ReadsMarks version rest ms → ReadsMarks version (cond t ((48 + v) ∷ []) (123 ∷ (decimal v ++ 125 ∷ [])) ++ rest) (Value v ∷ ms)
    by version true e le r =
        let p = value_plain v (small_value v e) in
        record {
          signs = raw (48 + v) ∷ r.signs;
          read = read_plain (pattern_escapes version) (48 + v) rest r.signs p.0 p.1 r.read;
          marks = mark-more version (Value v) (raw (48 + v)) r.signs ms (digit_taken version v (small_value v e)) r.marks;
        }
    by First false e le r = absurd (over v e le)
    by Second false e le r =
        let w = decimal-written v (wide v le) in
        record {
          signs = raw 123 ∷ (map raw (decimal v) ++ (raw 125 ∷ r.signs));
          read = read_plain DigitsAndBraces 123 ((decimal v ++ 125 ∷ []) ++ rest) (map raw (decimal v) ++ (raw 125 ∷ r.signs)) refl refl
              (ap (escaped_bytes_after DigitsAndBraces false) (append_assoc (decimal v) (125 ∷ []) rest)
              ∙ digits-signs DigitsAndBraces (decimal v) (125 ∷ rest) (raw 125 ∷ r.signs) w.digits (read_plain DigitsAndBraces 125 rest r.signs refl refl r.read));
          marks = ap (option_map {U = List PatternElement} (λ marks. [] ++ marks)) (value-inside [] (decimal v) v r.signs ms w.digits (braced-again v e le) r.marks);
        }

reads_marks : (version : Version) (ms : List PatternElement) → AllValues version ms → ReadsMarks version (flat_map (element_spelling version) ms) ms
reads_marks version [] h = record { signs = []; read = refl; marks = refl }
reads_marks version (Letter b ∷ ms) h =
    let rest = reads_marks version ms h in
    let first = reads_byte (pattern_escapes version) b (flat_map (element_spelling version) ms) rest.signs rest.read in
    record { signs = first.sign ∷ rest.signs; read = first.read; marks = mark-more version (Letter b) first.sign rest.signs ms (letter_taken version b first.sign first.byte first.letter) rest.marks }
reads_marks version (Value v ∷ ms) h = reads_value version v (flat_map (element_spelling version) ms) ms h.0 (reads_marks version ms h.1)

-- a pattern token that is written is read as its marks
pub marks-again : (version : Version) (ms : List PatternElement) → AllValues version ms → elements_of version (flat_map (element_spelling version) ms) ≡ Some ms
marks-again version ms h = let r = reads_marks version ms h in ap (option_and_then (elements_from version None)) r.read ∙ r.marks

pub signs-again : (version : Version) (ms : List PatternElement) → AllValues version ms → is_some (pattern_bytes version (flat_map (element_spelling version) ms)) ≡ true
signs-again version ms h = let r = reads_marks version ms h in ap is_some r.read

-- entries ascend from a place on, up to a length, and none is 0
abbrev pub Ascend : ℕ → ℕ → List (Entry (Option Change)) → Type 0
Ascend at len [] = Unit {0}
Ascend at len (e ∷ es) = (at ≤ e.place) × (e.place ≤ len) × (0 < e.value) × Ascend (e.place + 1) len es

abbrev pub pairs : List (Entry (Option Change)) → List (ℕ × ℕ)
pairs es = map (λ e. (e.place, e.value)) es

pub key_again : (at : ℕ) (key : List ℕ) (es : List (Entry (Option Change))) → key_of (elements_for at key es) ≡ key
key_again at [] [] = refl
key_again at [] (e ∷ es) = refl
key_again at (b ∷ key) [] = λ i. b ∷ key_again (at + 1) key [] i
key_again at (b ∷ key) (e ∷ es) =
    elim (eqb e.place at) as (λ t. key_of (cond t (Value e.value ∷ Letter b ∷ elements_for (at + 1) key es) (Letter b ∷ elements_for (at + 1) key (e ∷ es))) ≡ b ∷ key) [
      | true ↦ λ i. b ∷ key_again (at + 1) key es i
      | false ↦ λ i. b ∷ key_again (at + 1) key (e ∷ es) i
    ]

put_value : (at v : ℕ) (rest : List PatternElement) → 0 < v → values_from at (Value v ∷ rest) ≡ (at, v) ∷ values_from at rest
put_value at v rest h = let e = above v h in rw e refl
  where
    above : (v : ℕ) → 0 < v → eqb v 0 ≡ false
    above v h = grind (arith, nat_tests)

not_at : (p at : ℕ) → eqb p at ≡ false → at ≤ p → at + 1 ≤ p
not_at p at e h = grind (arith, nat_tests)

same_end : (p at len : ℕ) → at ≤ p → p ≤ len → len ≡ at → p ≡ at
same_end p at len h k e = omega arith

pub values_again : (at len : ℕ) (key : List ℕ) (es : List (Entry (Option Change))) → len ≡ at + length key → Ascend at len es → values_from at (elements_for at key es) ≡ pairs es
values_again at len [] [] el h = refl
values_again at len [] (e ∷ []) el h = put_value at e.value [] h.2 ∙ (λ i. (sym (same_end e.place at len h.0 h.1 (omega arith)) i, e.value) ∷ [])
values_again at len [] (e ∷ f ∷ es) el h = absurd (omega arith)
values_again at len (b ∷ key) [] el h = values_again (at + 1) len key [] (omega arith) tt
values_again at len (b ∷ key) (e ∷ es) el h =
    by (eqb e.place at) refl (λ rest. values_again (at + 1) len key es (omega arith) rest) (λ rest. values_again (at + 1) len key (e ∷ es) (omega arith) rest)
  where
    by : (t : Bool) → eqb e.place at ≡ t → (Ascend (at + 1) len es → values_from (at + 1) (elements_for (at + 1) key es) ≡ pairs es)
        → (Ascend (at + 1) len (e ∷ es) → values_from (at + 1) (elements_for (at + 1) key (e ∷ es)) ≡ pairs (e ∷ es))
        → values_from at (cond t (Value e.value ∷ Letter b ∷ elements_for (at + 1) key es) (Letter b ∷ elements_for (at + 1) key (e ∷ es))) ≡ pairs (e ∷ es)
    by true t step_at left =
        let is : e.place ≡ at = eqb-true e.place at t in
        put_value at e.value (Letter b ∷ elements_for (at + 1) key es) h.2
        ∙ (λ i. (sym is i, e.value) ∷ step_at (subst (λ (p : ℕ). Ascend (p + 1) len es) is h.3) i)
    by false t step_at left = left (not_at e.place at t h.0, h.1, h.2, h.3)

-- lines

abbrev pub AllLines : List (List ℕ) → Type 0
AllLines [] = Unit {0}
AllLines (l ∷ ls) = All (λ b. eqb b 10 ≡ false) l × AllLines ls

split_ended : (lines : List (List ℕ)) → AllLines lines → slice_split (λ b. eqb b 10) (with_line_feeds lines) ≡ lines ++ [] ∷ []
split_ended [] h = refl
split_ended (l ∷ ls) h =
    ap (slice_split (λ b. eqb b 10)) (append_assoc l (10 ∷ []) (with_line_feeds ls)) ∙ slice_split_at (λ b. eqb b 10) l 10 (with_line_feeds ls) h.0 refl ∙ ap (λ (xs : List (List ℕ)). l ∷ xs) (split_ended ls h.1)

last_dropped : (lines : List (List ℕ)) → without_empty_last (lines ++ [] ∷ []) ≡ lines
last_dropped [] = refl
last_dropped (l ∷ []) = refl
last_dropped (l ∷ m ∷ ls) = ap (λ (xs : List (List ℕ)). l ∷ xs) (last_dropped (m ∷ ls))

pub lines-ended : (lines : List (List ℕ)) → AllLines lines → lines_of (with_line_feeds lines) ≡ lines
lines-ended lines h = ap without_empty_last (split_ended lines h) ∙ last_dropped lines

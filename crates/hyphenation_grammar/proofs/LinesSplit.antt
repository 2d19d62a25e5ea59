-- The first part of a text that is cut at a byte; its first line.
use Rattle.std.proofs.Common.{◌≡◌, ℕ, suc, ◌+◌, ◌-◌, ◌<◌, ◌≤◌, Bool, true, false, cond, not, eqb, nat_lt, List, [], ◌∷◌, ◌++◌, append_assoc, subst, length, take, drop, Some, None, refl, sym, ap, ◌∙◌, arith, one-add}
use Rattle.std.proofs.lemmas.Bool.Decides.{nat_tests}
use Rattle.std.proofs.lemmas.List.{take_rest, length-drop, append-nil}
use Rattle.std.proofs.lemmas.Str.{IsUtf8-nil}
use Rattle.std.specs.Prelude.{IsUtf8, position}
use Rattle.hyphenation_grammar.specs.Lines.{lines_of, without_empty_last}
use Rattle.std.specs.List.{slice_split, position_or_len, prefix_len, onto_first}
use Rattle.hyphenation_grammar.proofs.AsciiSplits.{split_ascii, same_byte}

no_space : (c : ℕ) (text : List ℕ) → length text ≤ position_or_len (λ b. eqb b c) text → slice_split (λ b. eqb b c) text ≡ text ∷ []
no_space c [] h = refl
no_space c (b ∷ rest) h = by (eqb b c) h (λ k. no_space c rest k)
  where
    by : (t : Bool) → suc (length rest) ≤ cond (not t) (1 + prefix_len (λ x. not (eqb x c)) rest) 0 → (length rest ≤ position_or_len (λ b. eqb b c) rest → slice_split (λ b. eqb b c) rest ≡ rest ∷ [])
        → cond t ([] ∷ slice_split (λ b. eqb b c) rest) (onto_first b (slice_split (λ b. eqb b c) rest)) ≡ (b ∷ rest) ∷ []
    by true h more = absurd (omega arith)
    by false h more = ap (onto_first b) (more (omega arith))

at_space : (c : ℕ) (text : List ℕ) → position_or_len (λ b. eqb b c) text < length text
    → slice_split (λ b. eqb b c) text ≡ take (position_or_len (λ b. eqb b c) text) text ∷ slice_split (λ b. eqb b c) (drop (suc (position_or_len (λ b. eqb b c) text)) text)
at_space c [] h = absurd (omega arith)
at_space c (b ∷ rest) h = by (eqb b c) h (λ k. at_space c rest k)
  where
    by : (t : Bool) → cond (not t) (1 + prefix_len (λ x. not (eqb x c)) rest) 0 < suc (length rest)
        → (prefix_len (λ x. not (eqb x c)) rest < length rest → slice_split (λ b. eqb b c) rest ≡ take (prefix_len (λ x. not (eqb x c)) rest) rest ∷ slice_split (λ b. eqb b c) (drop (suc (prefix_len (λ x. not (eqb x c)) rest)) rest))
        → cond t ([] ∷ slice_split (λ b. eqb b c) rest) (onto_first b (slice_split (λ b. eqb b c) rest))
        ≡ take (cond (not t) (1 + prefix_len (λ x. not (eqb x c)) rest) 0) (b ∷ rest) ∷ slice_split (λ b. eqb b c) (drop (suc (cond (not t) (1 + prefix_len (λ x. not (eqb x c)) rest) 0)) (b ∷ rest))
    by true h more = refl
    by false h more = rw (one-add (prefix_len (λ x. not (eqb x c)) rest)) (ap (onto_first b) (more (omega arith)))

pub absent : (t : Bool) (k : ℕ) → None ≡ cond t (Some k) None → t ≡ false
absent true k e = absurd cc
absent false k e = refl

pub found : (t : Bool) (k at : ℕ) → Some at ≡ cond t (Some k) None → (t ≡ true) × (at ≡ k)
found true k at e = (refl, cc)
found false k at e = absurd cc

pub alone : (c : ℕ) (text : List ℕ) → None ≡ position (λ b. eqb b c) text → slice_split (λ b. eqb b c) text ≡ text ∷ []
alone c text e = no_space c text (far (absent (nat_lt (position_or_len (λ b. eqb b c) text) (length text)) (position_or_len (λ b. eqb b c) text) e))
  where
    far : nat_lt (position_or_len (λ b. eqb b c) text) (length text) ≡ false → length text ≤ position_or_len (λ b. eqb b c) text
    far e = grind (arith, nat_tests)

pub ended : (c : ℕ) (text : List ℕ) (at : ℕ) → Some at ≡ position (λ b. eqb b c) text
    → slice_split (λ b. eqb b c) text ≡ take at text ∷ slice_split (λ b. eqb b c) (take (length text - (at + 1)) (drop (at + 1) text))
ended c text at e =
    let f = found (nat_lt (position_or_len (λ b. eqb b c) text) (length text)) (position_or_len (λ b. eqb b c) text) at e in
    at_space c text (near f.0) ∙ (λ i. take (sym f.1 i) text ∷ slice_split (λ b. eqb b c) (drop (suc (sym f.1 i)) text)) ∙ ap (λ (k : ℕ). take at text ∷ slice_split (λ b. eqb b c) (drop k text)) (next at)
    ∙ ap (λ (xs : List ℕ). take at text ∷ slice_split (λ b. eqb b c) xs) (sym (take_rest text (at + 1)))
  where
    near : nat_lt (position_or_len (λ b. eqb b c) text) (length text) ≡ true → position_or_len (λ b. eqb b c) text < length text
    near e = grind (arith, nat_tests)

    next : (k : ℕ) → suc k ≡ k + 1
    next k = omega arith

-- both sides of an ASCII byte are UTF-8
cut_utf8 : (c : ℕ) → c < 128 → (p text : List ℕ) → position_or_len (λ b. eqb b c) text < length text → IsUtf8 (p ++ text)
    → IsUtf8 (p ++ take (position_or_len (λ b. eqb b c) text) text) × IsUtf8 (drop (suc (position_or_len (λ b. eqb b c) text)) text)
cut_utf8 c small p [] h u = absurd (omega arith)
cut_utf8 c small p (b ∷ rest) h u = by (eqb b c) refl h (λ k v. cut_utf8 c small (p ++ b ∷ []) rest k v)
  where
    by : (t : Bool) → eqb b c ≡ t → cond (not t) (1 + prefix_len (λ x. not (eqb x c)) rest) 0 < suc (length rest)
        → (prefix_len (λ x. not (eqb x c)) rest < length rest → IsUtf8 ((p ++ b ∷ []) ++ rest)
        → IsUtf8 ((p ++ b ∷ []) ++ take (prefix_len (λ x. not (eqb x c)) rest) rest) × IsUtf8 (drop (suc (prefix_len (λ x. not (eqb x c)) rest)) rest))
        → IsUtf8 (p ++ take (cond (not t) (1 + prefix_len (λ x. not (eqb x c)) rest) 0) (b ∷ rest)) × IsUtf8 (drop (suc (cond (not t) (1 + prefix_len (λ x. not (eqb x c)) rest) 0)) (b ∷ rest))
    by true e h more =
        let parts = split_ascii p b rest (same_byte b c e small) u in
        (subst IsUtf8 (sym (append-nil p)) parts.0, parts.1)
    by false e h more =
        let parts = more (omega arith) (subst IsUtf8 (sym (append_assoc p (b ∷ []) rest)) u) in
        rw (one-add (prefix_len (λ x. not (eqb x c)) rest)) (subst IsUtf8 (append_assoc p (b ∷ []) (take (prefix_len (λ x. not (eqb x c)) rest) rest)) parts.0, parts.1)

pub ended-utf8 : (c : ℕ) → c < 128 → (text : List ℕ) (at : ℕ) → Some at ≡ position (λ b. eqb b c) text → IsUtf8 text
    → IsUtf8 (take at text) × IsUtf8 (take (length text - (at + 1)) (drop (at + 1) text))
ended-utf8 c small text at e u =
    let f = found (nat_lt (position_or_len (λ b. eqb b c) text) (length text)) (position_or_len (λ b. eqb b c) text) at e in
    let parts = cut_utf8 c small [] text (near f.0) u in (
      subst (λ (k : ℕ). IsUtf8 (take k text)) (sym f.1) parts.0,
      subst IsUtf8 (sym (take_rest text (at + 1))) (subst (λ (k : ℕ). IsUtf8 (drop k text)) (ap suc (sym f.1) ∙ next at) parts.1),
    )
  where
    near : nat_lt (position_or_len (λ b. eqb b c) text) (length text) ≡ true → position_or_len (λ b. eqb b c) text < length text
    near e = grind (arith, nat_tests)

    next : (k : ℕ) → suc k ≡ k + 1
    next k = omega arith

some_part : (p : ℕ → Bool) (text : List ℕ) → (first : List ℕ) × (more : List (List ℕ)) × (slice_split p text ≡ first ∷ more)
some_part p [] = ([], [], refl)
some_part p (b ∷ rest) = by (p b) (some_part p rest)
  where
    by : (t : Bool) → (first : List ℕ) × (more : List (List ℕ)) × (slice_split p rest ≡ first ∷ more) → (first : List ℕ) × (more : List (List ℕ)) × (cond t ([] ∷ slice_split p rest) (onto_first b (slice_split p rest)) ≡ first ∷ more)
    by true h = ([], slice_split p rest, refl)
    by false h = (b ∷ h.0, h.1, ap (onto_first b) h.2)

not_last : (x : List ℕ) (parts : List (List ℕ)) → (first : List ℕ) × (more : List (List ℕ)) × (parts ≡ first ∷ more) → without_empty_last (x ∷ parts) ≡ x ∷ without_empty_last parts
not_last x parts h = ap (λ (ps : List (List ℕ)). without_empty_last (x ∷ ps)) h.2 ∙ ap (λ (ps : List (List ℕ)). x ∷ without_empty_last ps) (sym h.2)

last_stays : (text : List ℕ) → 0 < length text → without_empty_last (text ∷ []) ≡ text ∷ []
last_stays [] some = absurd (omega arith)
last_stays (b ∷ rest) some = ap (λ (t : Bool). cond {A = List (List ℕ)} t [] ((b ∷ rest) ∷ [])) (never (length rest))
  where
    never : (k : ℕ) → eqb (suc k) 0 ≡ false
    never k = grind (arith, nat_tests)

pub filled : (n : ℕ) (b : Bool) → b ≡ eqb n 0 → b ≡ false → 0 < n
filled n b e off = grind (arith, nat_tests)

none_after : (text : List ℕ) → take (length text - length text) (drop (length text) text) ≡ []
none_after text = ap (λ (k : ℕ). take k (drop (length text) text)) (nothing (length text))
  where
    nothing : (k : ℕ) → k - k ≡ 0
    nothing k = omega arith

pub nothing-utf8 : (text : List ℕ) → IsUtf8 (take (length text - length text) (drop (length text) text))
nothing-utf8 text = subst IsUtf8 (sym (none_after text)) IsUtf8-nil

-- a text without a line feed is its last line
pub last_line : (text : List ℕ) → 0 < length text → None ≡ position (λ b. eqb b 10) text
    → (lines_of text ≡ text ∷ lines_of (take (length text - length text) (drop (length text) text))) × (length (take (length text - length text) (drop (length text) text)) < length text)
last_line text some e =
    (ap without_empty_last (alone 10 text e) ∙ last_stays text some ∙ ap (λ (r : List ℕ). text ∷ lines_of r) (sym (none_after text)), omega (arith, some, ap length (none_after text)))

more_lines : (text : List ℕ) (at : ℕ) → Some at ≡ position (λ b. eqb b 10) text → lines_of text ≡ take at text ∷ lines_of (take (length text - (at + 1)) (drop (at + 1) text))
more_lines text at e = ap without_empty_last (ended 10 text at e) ∙ not_last (take at text) _ (some_part (λ b. eqb b 10) (take (length text - (at + 1)) (drop (at + 1) text)))

pub line_more : (text : List ℕ) (at : ℕ) → Some at ≡ position (λ b. eqb b 10) text → 0 < length text
    → (lines_of text ≡ take at text ∷ lines_of (take (length text - (at + 1)) (drop (at + 1) text))) × (length (take (length text - (at + 1)) (drop (at + 1) text)) < length text)
line_more text at e some = (more_lines text at e, shorter text (at + 1) (omega arith) some)
  where
    shorter : (text : List ℕ) (k : ℕ) → 0 < k → 0 < length text → length (take (length text - k) (drop k text)) < length text
    shorter text k pos some = omega (arith, pos, some, ap length (take_rest text k), length-drop k text)

-- a text with a line feed is not empty
pub not_empty : (text : List ℕ) (at : ℕ) → Some at ≡ position (λ b. eqb b 10) text → 0 < length text
not_empty [] at e = absurd cc
not_empty (b ∷ rest) at e = omega arith

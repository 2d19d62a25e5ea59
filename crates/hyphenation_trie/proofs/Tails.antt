-- Texts and their tails: the keys that end them.
use Rattle.std.proofs.Common.{◌≡◌, ℕ, zero, suc, ◌+◌, ◌-◌, ◌<◌, ◌≤◌, ◌==◌, Bool, true, false, List, [], ◌∷◌, ◌++◌, length, drop, filter, Option, Some, None, refl, sym, ap, subst, ◌∙◌, arith, zero-add, inl, inr, eqb}
use Rattle.std.specs.Prelude.{IsSome, is_some, unwrap_or, count_by}
use Rattle.std.specs.List.{flat_map, range_with_len}
use Rattle.std.proofs.lemmas.Bool.{cases_eq, cases_lt, eq-eqb, ne_eqb}
use Rattle.std.proofs.lemmas.List.{length-append, length-drop, drop-drop, append_assoc}
use Rattle.std.proofs.lemmas.Grind.{flat_map-append, common_steps}
use Rattle.std.proofs.lemmas.List.Elements.{filter_agree}
use Rattle.hyphenation_breaks.specs.Dictionary.{Patterns}
use Rattle.hyphenation_trie.specs.Links.{EndsWith, IsLongest}
use Rattle.hyphenation_trie.specs.Tables.{OpensNoKey, IsTail}
use Rattle.hyphenation_trie.specs.Trie.{Tree, node_text, entries_of_key}
use Rattle.hyphenation_trie.specs.Vectors.{entries_before, keys_at_end}
use Rattle.hyphenation_trie.proofs.KeyNodes.{node_of_key}
use Rattle.hyphenation_trie.proofs.Suffixes.{Ends-trans}

-- ---- lists by parts

pub range-append : (a m n : ℕ) → range_with_len a (m + n) ≡ range_with_len a m ++ range_with_len (a + m) n
range-append a zero n = ap (range_with_len a) (omega arith) ∙ ap (λ (k : ℕ). range_with_len k n) (omega arith)
range-append a (suc m) n =
    let one : suc m + n ≡ suc (m + n) = omega arith in
    let two : (a + 1) + m ≡ a + suc m = omega arith in
    ap (range_with_len a) one ∙ ap (λ (zs : List ℕ). a ∷ zs) (range-append (a + 1) m n ∙ ap (λ (k : ℕ). range_with_len (a + 1) m ++ range_with_len k n) two)

flat_map_none : {A : Type 0} (f : ℕ → List A) (a n : ℕ) → ((k : ℕ) → a ≤ k → k < a + n → f k ≡ []) → flat_map f (range_with_len a n) ≡ []
flat_map_none f a zero h = refl
flat_map_none f a (suc n) h = ap (λ xs. xs ++ flat_map f (range_with_len (a + 1) n)) (h a (omega arith) (omega arith)) ∙ flat_map_none f (a + 1) n (λ k low high. h k (omega arith) (omega arith))

pub flat_map_shift : {A : Type 0} (f g : ℕ → List A) (a b n : ℕ) → ((d : ℕ) → d < n → f (a + d) ≡ g (b + d)) → flat_map f (range_with_len a n) ≡ flat_map g (range_with_len b n)
flat_map_shift f g a b zero h = refl
flat_map_shift f g a b (suc n) h =
    let first : f a ≡ g b = ap f (omega arith) ∙ h 0 (omega arith) ∙ ap g (omega arith) in
    let rest = flat_map_shift f g (a + 1) (b + 1) n (λ d lt. ap f (omega arith) ∙ h (suc d) (omega arith) ∙ ap g (omega arith)) in
    ap (λ xs. xs ++ flat_map f (range_with_len (a + 1) n)) first ∙ ap (λ ys. g b ++ ys) rest

pub count_append : (p : ℕ → Bool) (xs ys : List ℕ) → count_by p (xs ++ ys) ≡ count_by p xs + count_by p ys
count_append p xs ys = grind (arith, common_steps)

pub one_counted : (p : ℕ → Bool) (k : ℕ) → p k ≡ true → count_by p (k ∷ []) ≡ 1
one_counted p k e = grind (arith, common_steps)

pub none_counted : (p : ℕ → Bool) (k : ℕ) → p k ≡ false → count_by p (k ∷ []) ≡ 0
none_counted p k e = grind (arith, common_steps)

one_same : (p q : ℕ → Bool) (a b : ℕ) → p a ≡ q b → count_by p (a ∷ []) ≡ count_by q (b ∷ [])
one_same p q a b e = elim (p a) as (λ v. p a ≡ v → count_by p (a ∷ []) ≡ count_by q (b ∷ [])) [
  | true ↦ λ h. one_counted p a h ∙ sym (one_counted q b (sym e ∙ h))
  | false ↦ λ h. none_counted p a h ∙ sym (none_counted q b (sym e ∙ h))
] refl

pub count_shift : (p q : ℕ → Bool) (a b n : ℕ) → ((d : ℕ) → d < n → p (a + d) ≡ q (b + d)) → count_by p (range_with_len a n) ≡ count_by q (range_with_len b n)
count_shift p q a b zero h = refl
count_shift p q a b (suc n) h =
    let first : p a ≡ q b = ap p (omega arith) ∙ h 0 (omega arith) ∙ ap q (omega arith) in
    let rest = count_shift p q (a + 1) (b + 1) n (λ d lt. ap p (omega arith) ∙ h (suc d) (omega arith) ∙ ap q (omega arith)) in
    let split = count_append p (a ∷ []) (range_with_len (a + 1) n) in
    let parts = count_append q (b ∷ []) (range_with_len (b + 1) n) in
    split ∙ ap (λ (x : ℕ). x + count_by p (range_with_len (a + 1) n)) (one_same p q a b first) ∙ ap (λ (x : ℕ). count_by q (b ∷ []) + x) rest ∙ sym parts

pub count_none : (p : ℕ → Bool) (a n : ℕ) → ((k : ℕ) → a ≤ k → k < a + n → p k ≡ false) → count_by p (range_with_len a n) ≡ 0
count_none p a zero h = refl
count_none p a (suc n) h = let one = h a (omega arith) (omega arith) in let rest = count_none p (a + 1) n (λ k low high. h k (omega arith) (omega arith)) in grind (arith, common_steps)

-- tests of numbers that hold together
pub same_tests : (a b c d : ℕ) → (a ≡ b → c ≡ d) → (c ≡ d → a ≡ b) → eqb a b ≡ eqb c d
same_tests a b c d to back = elim (cases_eq a b) [
  | inl is ↦ eq-eqb a b is ∙ sym (eq-eqb c d (to is))
  | inr apart ↦ ne_eqb a b apart ∙ sym (ne_eqb c d (λ e. apart (back e)))
]

-- ---- a text and one more byte, and the tail of the text

-- a text with one more byte, without its first bytes
pub drop_front : (s t : List ℕ) (d : ℕ) → d ≤ length s → drop d (s ++ t) ≡ drop d s ++ t
drop_front s t zero le = refl
drop_front [] t (suc d) le = absurd (omega arith)
drop_front (x ∷ s) t (suc d) le = drop_front s t d (omega arith)

-- Two texts, the first of which ends with the second one, such that no key is longer that ends the first.
module _ {C : Type 0} (keys : Patterns C) (T t : List ℕ) (ends : EndsWith T t) (none : (d : ℕ) → d < length T - length t → keys (drop d T) ≡ None) where
  pub ends_at : (m : ℕ) → drop ((length T - length t) + m) T ≡ drop m t
  ends_at m = sym (drop-drop m (length T - length t) T) ∙ ap (drop m) ends.1

  -- the entries before the end of both are the same
  pub entries_same : (distance : ℕ) → entries_before keys T distance ≡ entries_before keys t distance
  entries_same distance =
      let g : ℕ = length T - length t in
      let below = ends.0 in
      let n : length T ≡ g + length t = omega arith in
      let f = λ (d : ℕ). filter (λ entry. d + entry.place + distance == length T) (unwrap_or (keys (drop d T)) []) in
      let h = λ (d : ℕ). filter (λ entry. d + entry.place + distance == length t) (unwrap_or (keys (drop d t)) []) in
      let front : flat_map f (range_with_len 0 g) ≡ [] = flat_map_none f 0 g (λ k low high.
      ap (λ o. filter (λ entry. k + entry.place + distance == length T) (unwrap_or o [])) (none k (omega arith))) in
      ap (λ (k : ℕ). flat_map f (range_with_len 0 k)) n ∙ ap (flat_map f) (range-append 0 g (length t)) ∙ flat_map-append f (range_with_len 0 g) (range_with_len (0 + g) (length t))
      ∙ ap (λ xs. xs ++ flat_map f (range_with_len (0 + g) (length t))) front
      ∙ flat_map_shift f h (0 + g) 0 (length t) (λ d lt.
      let at : (0 + g) + d ≡ g + d = omega arith in
      let first : 0 + d ≡ d = omega arith in
      ap f at
      ∙ filter_agree (λ entry. (g + d) + entry.place + distance == length T) (λ entry. d + entry.place + distance == length t) (λ entry. same_tests ((g + d) + entry.place + distance) (length T) (d + entry.place + distance) (length t) (λ e. omega arith) (λ e. omega arith)) (unwrap_or (keys (drop (g + d) T)) [])
      ∙ ap (λ x. filter (λ entry. d + entry.place + distance == length t) (unwrap_or (keys x) [])) (ends_at d)
      ∙ ap h (sym first))

  -- and so are the keys that end there
  pub count_same : keys_at_end keys T ≡ keys_at_end keys t
  count_same =
      let g : ℕ = length T - length t in
      let below = ends.0 in
      let n : length T ≡ g + length t = omega arith in
      let p = λ (d : ℕ). is_some (keys (drop d T)) in
      let q = λ (d : ℕ). is_some (keys (drop d t)) in
      let front : count_by p (range_with_len 0 g) ≡ 0 = count_none p 0 g (λ k low high. ap is_some (none k (omega arith))) in
      ap (λ (k : ℕ). count_by p (range_with_len 0 k)) n ∙ ap (count_by p) (range-append 0 g (length t)) ∙ count_append p (range_with_len 0 g) (range_with_len (0 + g) (length t))
      ∙ ap (λ (x : ℕ). x + count_by p (range_with_len (0 + g) (length t))) front ∙ zero-add (count_by p (range_with_len (0 + g) (length t)))
      ∙ count_shift p q (0 + g) 0 (length t) (λ d lt.
      let at : (0 + g) + d ≡ g + d = omega arith in
      let first : 0 + d ≡ d = omega arith in
      ap p at ∙ ap (λ x. is_some (keys x)) (ends_at d) ∙ ap q (sym first))

module _ {C : Type 0} (keys : Patterns C) (text tail : List ℕ) (byte : ℕ) (is : IsTail keys text tail) where
  -- the text without its first bytes is the tail
  pub at_gap : (m : ℕ) → drop ((length text - length tail) + m) (text ++ byte ∷ []) ≡ drop m (tail ++ byte ∷ [])
  at_gap m =
      let le : length text - length tail ≤ length text = omega arith in
      let front : drop (length text - length tail) (text ++ byte ∷ []) ≡ tail ++ byte ∷ [] =
      drop_front text (byte ∷ []) (length text - length tail) le ∙ ap (λ (x : List ℕ). x ++ byte ∷ []) is.ends.1 in
      sym (drop-drop m (length text - length tail) (text ++ byte ∷ [])) ∙ ap (drop m) front

  -- no key that is longer than the tail with the byte ends the text with the byte
  pub none_before : (d : ℕ) → d < length text - length tail → keys (drop d (text ++ byte ∷ [])) ≡ None
  none_before d lt = ap keys (drop_front text (byte ∷ []) d (omega arith)) ∙ is.none d lt byte []

  length-both : (length (text ++ byte ∷ []) ≡ length text + 1) × (length (tail ++ byte ∷ []) ≡ length tail + 1)
  length-both = (length-append text (byte ∷ []), length-append tail (byte ∷ []))

  pub ends_both : EndsWith (text ++ byte ∷ []) (tail ++ byte ∷ [])
  ends_both =
      let long = length-both in
      let ends = is.ends.0 in
      let n : length (text ++ byte ∷ []) - length (tail ++ byte ∷ []) ≡ (length text - length tail) + 0 = omega arith in
      (omega arith, ap (λ (k : ℕ). drop k (text ++ byte ∷ [])) n ∙ at_gap 0)

  pub none_both : (d : ℕ) → d < length (text ++ byte ∷ []) - length (tail ++ byte ∷ []) → keys (drop d (text ++ byte ∷ [])) ≡ None
  none_both d lt = let long = length-both in none_before d (omega arith)

  -- the entries before the end of both are the same, and so are the keys that end there
  pub same_before : (distance : ℕ) → entries_before keys (text ++ byte ∷ []) distance ≡ entries_before keys (tail ++ byte ∷ []) distance
  same_before = entries_same keys (text ++ byte ∷ []) (tail ++ byte ∷ []) ends_both none_both

  pub same_count : keys_at_end keys (text ++ byte ∷ []) ≡ keys_at_end keys (tail ++ byte ∷ [])
  same_count = count_same keys (text ++ byte ∷ []) (tail ++ byte ∷ []) ends_both none_both

  -- a tail of the tail with the byte is a tail of the text with the byte
  pub tail_goes_on : (next : List ℕ) → IsTail keys (tail ++ byte ∷ []) next → IsTail keys (text ++ byte ∷ []) next
  tail_goes_on next on =
      let long = length-both in
      let ends = is.ends.0 in
      let less = on.ends.0 in
      let g : ℕ = length text - length tail in
      let here : EndsWith (text ++ byte ∷ []) (tail ++ byte ∷ []) =
      let n : length (text ++ byte ∷ []) - length (tail ++ byte ∷ []) ≡ g + 0 = omega arith in
      (omega arith, ap (λ (k : ℕ). drop k (text ++ byte ∷ [])) n ∙ at_gap 0) in
      record {
        ends = Ends-trans (text ++ byte ∷ []) (tail ++ byte ∷ []) next here on.ends;
        none = λ d lt. elim (cases_lt d g) [
          | inl low ↦ λ b rest.
              ap (λ (x : List ℕ). keys (x ++ b ∷ rest)) (drop_front text (byte ∷ []) d (omega arith)) ∙ ap keys (append_assoc (drop d text) (byte ∷ []) (b ∷ rest)) ∙ is.none d low byte (b ∷ rest)
          | inr high ↦
              let n : g + (d - g) ≡ d = omega arith in
              let same : drop d (text ++ byte ∷ []) ≡ drop (d - g) (tail ++ byte ∷ []) = ap (λ (k : ℕ). drop k (text ++ byte ∷ [])) (sym n) ∙ at_gap (d - g) in
              subst (λ (x : List ℕ). OpensNoKey keys x) (sym same) (on.none (d - g) (omega arith))
        ];
      }

-- ---- keys and the longest node

-- a text without its first bytes ends the text
pub Ends-drop : (t : List ℕ) (k : ℕ) → k ≤ length t → EndsWith t (drop k t)
Ends-drop t k le =
    let len : length (drop k t) ≡ length t - k = length-drop k t in
    let n : length t - length (drop k t) ≡ k = omega arith in
    (omega arith, ap (λ (m : ℕ). drop m t) n)

-- no key that ends a text is longer than the longest node
pub none_longer : {E : Type 0} (tree : Tree E) (t : List ℕ) (node k : ℕ) → IsLongest tree.texts t node → k < length t - length (node_text tree node) → entries_of_key tree (drop k t) ≡ None
none_longer {E} tree t node k longest high =
    elim (entries_of_key tree (drop k t)) as (λ o. entries_of_key tree (drop k t) ≡ o → o ≡ None) [
      | None ↦ λ is. refl
      | Some es ↦ λ is.
          let n = node_of_key tree.texts tree.entries (drop k t) (subst (λ (o : Option (List E)). IsSome o) (sym is) refl) in
          let most = longest.most n.0 n.1 (subst (λ (x : List ℕ). EndsWith t x) (sym n.2) (Ends-drop t k (omega arith))) in
          absurd (omega (arith, ap length n.2, length-drop k t))
    ] refl

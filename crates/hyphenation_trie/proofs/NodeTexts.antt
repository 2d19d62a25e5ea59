-- The text of a node, read on the way up to the root.
use Rattle.std.proofs.Common.{◌≡◌, ℕ, zero, suc, ◌+◌, ◌<◌, ◌≤◌, List, [], ◌∷◌, ◌++◌, length, take, drop, drop-cons, get_or, map, Option, Some, None, refl, sym, ap, ◌∙◌, arith, append_assoc}
use Rattle.std.specs.Prelude.{reverse}
use Rattle.std.proofs.lemmas.List.{map_push, append-nil, reverse-append, take-append-le}
use Rattle.std.proofs.Math.Seq.{take-length}
use Rattle.hyphenation_trie.specs.Keys.{pairs_of}
use Rattle.hyphenation_trie.specs.Trie.{Tree, IsTrie, node_text, entries_of_key}
use Rattle.hyphenation_trie.proofs.TrieNodes.{entries_at-here}

-- the keys from a node on
pub pairs_from : {E : Type 0} (ts : List (List ℕ)) (es : List (Option (List E))) (i : ℕ) (o : Option (List E)) → i < length ts → i < length es → get_or es i None ≡ o
    → pairs_of (drop i ts) (drop i es) ≡ pairs_of (get_or ts i [] ∷ drop (suc i) ts) (o ∷ drop (suc i) es)
pairs_from ts es i o a b e = ap (λ xs. pairs_of xs (drop i es)) (drop-cons ts i [] a) ∙ ap (λ xs. pairs_of (get_or ts i [] ∷ drop (suc i) ts) xs) (drop-cons es i None b)
    ∙ ap (λ x. pairs_of (get_or ts i [] ∷ drop (suc i) ts) (x ∷ drop (suc i) es)) e

pub entries_here : {E : Type 0} (t : Tree E) (i : ℕ) → IsTrie t → i < length t.texts → entries_of_key t (node_text t i) ≡ get_or t.entries i None
entries_here t i trie lt = entries_at-here t.texts t.entries i trie.distinct trie.lengths lt

pub more_text : (up text new items all : List ℕ) (byte : ℕ) → text ≡ up ++ byte ∷ [] → new ≡ items ++ byte ∷ [] → text ++ reverse items ≡ all → up ++ reverse new ≡ all
more_text up text new items all byte t n e =
    ap (λ (xs : List ℕ). up ++ reverse xs) n ∙ ap (λ (xs : List ℕ). up ++ xs) (reverse-append items (byte ∷ [])) ∙ sym (append_assoc up (byte ∷ []) (reverse items))
    ∙ ap (λ (xs : List ℕ). xs ++ reverse items) (sym t) ∙ e

-- a list written over in its whole length
pub written_over : (len : ℕ) (new items : List ℕ) → len ≡ length items → length new ≡ length items → take len (new ++ drop (length new) items) ≡ new
written_over len new items e f =
    ap (λ (n : ℕ). take n (new ++ drop (length new) items)) (e ∙ sym f) ∙ take-append-le (length new) new (drop (length new) items) (omega arith) ∙ take-length new

-- ---- the keys, node by node

next : (n : ℕ) → suc n ≡ n + 1
next n = omega arith

pairs_next : {E : Type 0} (t : Tree E) (i : ℕ) (o : Option (List E)) → IsTrie t → i < length t.texts → o ≡ entries_of_key t (node_text t i)
    → pairs_of (drop i t.texts) (drop i t.entries) ≡ pairs_of (node_text t i ∷ drop (i + 1) t.texts) (o ∷ drop (i + 1) t.entries)
pairs_next {E} t i o trie lt e =
    pairs_from t.texts t.entries i o lt (omega (arith, trie.lengths)) (sym (entries_here t i trie lt) ∙ sym e)
    ∙ ap (λ (n : ℕ). pairs_of (node_text t i ∷ drop n t.texts) (o ∷ drop n t.entries)) (next i)

pub key_more : {E K : Type 0} (f : K → List ℕ × List E) (t : Tree E) (i : ℕ) (items new : List K) (x : K) (es : List E) (all : List (List ℕ × List E)) → IsTrie t → i < length t.texts
    → Some es ≡ entries_of_key t (node_text t i) → f x ≡ (node_text t i, es) → new ≡ items ++ x ∷ [] → map f items ++ pairs_of (drop i t.texts) (drop i t.entries) ≡ all
    → map f new ++ pairs_of (drop (i + 1) t.texts) (drop (i + 1) t.entries) ≡ all
key_more {E} {K} f t i items new x es all trie lt has is push h =
    let rest : List (List ℕ × List E) = pairs_of (drop (i + 1) t.texts) (drop (i + 1) t.entries) in
    ap (λ (ks : List K). map f ks ++ rest) push ∙ ap (λ (ks : List (List ℕ × List E)). ks ++ rest) (map_push f items x)
    ∙ append_assoc (map f items) (f x ∷ []) rest ∙ ap (λ (k : List ℕ × List E). map f items ++ (k ∷ rest)) is
    ∙ ap (λ (ks : List (List ℕ × List E)). map f items ++ ks) (sym (pairs_next t i (Some es) trie lt has)) ∙ h

pub no_key_here : {E : Type 0} (t : Tree E) (i : ℕ) (keys all : List (List ℕ × List E)) → IsTrie t → i < length t.texts
    → None ≡ entries_of_key t (node_text t i) → keys ++ pairs_of (drop i t.texts) (drop i t.entries) ≡ all
    → keys ++ pairs_of (drop (i + 1) t.texts) (drop (i + 1) t.entries) ≡ all
no_key_here {E} t i keys all trie lt has h = ap (λ (ks : List (List ℕ × List E)). keys ++ ks) (sym (pairs_next t i None trie lt has)) ∙ h

pub no_more : {E : Type 0} (t : Tree E) (i : ℕ) (keys all : List (List ℕ × List E)) → length t.texts ≤ i → keys ++ pairs_of (drop i t.texts) (drop i t.entries) ≡ all → keys ≡ all
no_more {E} t i keys all le h =
    sym (append-nil keys) ∙ ap (λ (ts : List (List ℕ)). keys ++ pairs_of ts (drop i t.entries)) (sym (drop_all t.texts i le)) ∙ h
  where
    drop_all : {X : Type 0} (xs : List X) (n : ℕ) → length xs ≤ n → drop n xs ≡ []
    drop_all [] zero le = refl
    drop_all [] (suc n) le = refl
    drop_all (x ∷ xs) zero le = absurd (omega arith)
    drop_all (x ∷ xs) (suc n) le = drop_all xs n (omega arith)

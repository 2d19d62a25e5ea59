-- Texts of nodes and their entries, as a trie grows.
use Rattle.std.proofs.Common.{◌≡◌, ℕ, zero, suc, ◌+◌, ◌-◌, ◌<◌, ◌≤◌, drop, Bool, true, false, cond, nat_eq, List, [], ◌∷◌, ◌++◌, length, take, get_or, set, map, fold, Option, Some, None, refl, sym, ap, subst, ◌∙◌, arith, ◌⊎◌, inl, inr}
use Rattle.std.specs.Prelude.{slice_get, IsSome, is_some}
use Rattle.std.proofs.lemmas.Bool.{cases_lt}
use Rattle.std.proofs.lemmas.List.{length-append, map_push, length-map, map-set, take_more, length-take-le, drop-append-le, take-append-le, length-drop, get_or_append_left, get_or_push}
use Rattle.std.proofs.lemmas.Grind.{fold-append}
use Rattle.hyphenation_trie.specs.Private.Growing.{IsGrowing}
use Rattle.hyphenation_trie.specs.Trie.{IsTrie, Tree, entries_at, entries_of_key, node_text, AddsFront, KeepsNodes, EachBeginsKey}
use Rattle.hyphenation_trie.specs.Private.Trie.{with_node_text, text_after, texts_of, IsWithin, AreWithin, entries_there, tree_of, with_child, Grows, with_entries}
use Rattle.std.specs.Option.{option_map}
use Rattle.std.specs.List.{slice_range}
use Rattle.std.proofs.Math.Seq.{drop-append_seam, take-length}
use Rattle.std.specs.Cmp.Lexicographic.{pointwise, bytes_decides}
use Rattle.hyphenation_trie.specs.declared.state.Span.{Span}

length-fold : (acc : List (List ℕ)) (fs : List (Option (ℕ × ℕ))) → length (fold with_node_text acc fs) ≡ length acc + length fs
length-fold acc [] = omega arith
length-fold acc (f ∷ fs) = omega (arith, length-fold (with_node_text acc f) fs, length-append acc (text_after acc f ∷ []))

pub length-texts_of : (fs : List (Option (ℕ × ℕ))) → length (texts_of fs) ≡ length fs
length-texts_of fs = length-fold [] fs ∙ omega arith

pub texts_of-push : (fs : List (Option (ℕ × ℕ))) (f : Option (ℕ × ℕ)) → texts_of (fs ++ f ∷ []) ≡ with_node_text (texts_of fs) f
texts_of-push fs f = fold-append with_node_text [] fs (f ∷ [])

-- texts that end in one byte are equal only with equal parts
pub last_same : (xs ys : List ℕ) (b c : ℕ) → xs ++ b ∷ [] ≡ ys ++ c ∷ [] → (xs ≡ ys) × (b ≡ c)
last_same [] [] b c e = (refl, cc)
last_same [] (y ∷ []) b c e = absurd cc
last_same [] (y ∷ z ∷ ys) b c e = absurd cc
last_same (x ∷ []) [] b c e = absurd cc
last_same (x ∷ z ∷ xs) [] b c e = absurd cc
last_same (x ∷ xs) (y ∷ ys) b c e =
    let heads : x ≡ y = cc in
    let tails : xs ++ b ∷ [] ≡ ys ++ c ∷ [] = cc in
    let h = last_same xs ys b c tails in
    (ap (λ (z : ℕ). z ∷ xs) heads ∙ ap (λ (zs : List ℕ). y ∷ zs) h.0, h.1)

pub not_empty : (xs : List ℕ) (b : ℕ) → [] ≡ xs ++ b ∷ [] → ⊥
not_empty [] b e = cc
not_empty (x ∷ xs) b e = cc

pub root_text : (texts : List (List ℕ)) → slice_get texts 0 ≡ Some [] → (get_or texts 0 [] ≡ []) × (0 < length texts)
root_text [] e = absurd cc
root_text (t ∷ ts) e = (cc, omega arith)

pub root-push : (texts : List (List ℕ)) (t : List ℕ) → slice_get texts 0 ≡ Some [] → slice_get (texts ++ t ∷ []) 0 ≡ Some []
root-push [] t e = absurd cc
root-push (x ∷ xs) t e = e

pub chosen : {X : Type 0} (b : Bool) (x y z : X) → cond b x y ≡ z → ((b ≡ true) × (x ≡ z)) ⊎ ((b ≡ false) × (y ≡ z))
chosen true x y z e = inl (refl, e)
chosen false x y z e = inr (refl, e)

pub seen-grown : {E : Type 0} (froms : List (Option (ℕ × ℕ))) (spans : List (Option Span)) (es : List E) (i b : ℕ) → tree_of (froms ++ Some (i, b) ∷ []) (spans ++ None ∷ []) es ≡ with_child (tree_of froms spans es) i b
seen-grown froms spans es i b = rw (map_push, texts_of-push) refl

pub IsTrie-seen : {E : Type 0} (froms : List (Option (ℕ × ℕ))) (spans : List (Option Span)) (es : List E) (lasts befores : List ℕ) → length spans ≡ length froms → IsGrowing froms lasts befores → IsTrie (tree_of froms spans es)
IsTrie-seen froms spans es lasts befores len held =
    let r = root_text (texts_of froms) held.root in
    record {
      lengths = length-map spans (entries_there es) ∙ len ∙ sym (length-texts_of froms);
      has_root = r.1;
      root = r.0;
      distinct = held.apart;
      closed = λ j pos lj. let h = held.from j pos lj in (h.0.0, h.0.1, omega (arith, h.2), h.3);
    }

-- ---- entries among those of all nodes

within-more : (n m : ℕ) (span : Option Span) → n ≤ m → IsWithin n span → IsWithin m span
within-more n m None le h = tt
within-more n m (Some span) le h = omega (arith, h)

pub all_within-more : (n m : ℕ) (ns : List (Option Span)) → n ≤ m → AreWithin n ns → AreWithin m ns
all_within-more n m [] le h = h
all_within-more n m (x ∷ ns) le h = (within-more n m x le h.0, all_within-more n m ns le h.1)

pub all_within-push : (bound : ℕ) (ns : List (Option Span)) (x : Option Span) → AreWithin bound ns → IsWithin bound x → AreWithin bound (ns ++ x ∷ [])
all_within-push bound [] x h is = (is, tt)
all_within-push bound (n ∷ ns) x h is = (h.0, all_within-push bound ns x h.1 is)

pub all_within-set : (bound : ℕ) (ns : List (Option Span)) (i : ℕ) (x : Option Span) → AreWithin bound ns → IsWithin bound x → AreWithin bound (set ns i x)
all_within-set bound [] i x h is = h
all_within-set bound (n ∷ ns) zero x h is = (is, h.1)
all_within-set bound (n ∷ ns) (suc i) x h is = (h.0, all_within-set bound ns i x h.1 is)

pub has_entries : {E : Type 0} (es : List E) (span : Option Span) → is_some span ≡ is_some (entries_there es span)
has_entries es None = refl
has_entries es (Some span) = refl

range_kept : {E : Type 0} (es xs : List E) (a b : ℕ) → a ≤ b → b ≤ length es → slice_range (es ++ xs) a b ≡ slice_range es a b
range_kept es xs a b ab be = ap (take (b - a)) (drop-append-le a es xs (omega arith)) ∙ take-append-le (b - a) (drop a es) xs (omega (arith, length-drop a es))

kept : {E : Type 0} (es xs : List E) (span : Option Span) → IsWithin (length es) span → option_map (λ s. slice_range (es ++ xs) s.start (s.start + s.count)) span ≡ option_map (λ s. slice_range es s.start (s.start + s.count)) span
kept es xs None h = refl
kept es xs (Some span) h = ap (λ (ys : List _). Some ys) (range_kept es xs span.start (span.start + span.count) (omega arith) h)

-- entries put after the others change no node's
all_kept : {E : Type 0} (es xs : List E) (ns : List (Option Span)) → AreWithin (length es) ns → map (entries_there (es ++ xs)) ns ≡ map (entries_there es) ns
all_kept es xs [] h = refl
all_kept es xs (n ∷ ns) h = λ k. kept es xs n h.0 k ∷ all_kept es xs ns h.1 k

range_new : {E : Type 0} (es xs : List E) (a b : ℕ) → a ≡ length es → b ≡ length (es ++ xs) → slice_range (es ++ xs) a b ≡ xs
range_new es xs a b ea eb =
    let rest : drop a (es ++ xs) ≡ xs = ap (λ (k : ℕ). drop k (es ++ xs)) ea ∙ drop-append_seam es xs in
    let many : b - a ≡ length xs = omega (arith, length-append es xs) in
    ap (take (b - a)) rest ∙ ap (λ (k : ℕ). take k xs) many ∙ take-length xs

entries_at-push : {E : Type 0} (ts : List (List ℕ)) (es : List (Option (List E))) (t : List ℕ) → length es ≡ length ts → (q : List ℕ) → entries_at (ts ++ t ∷ []) (es ++ None ∷ []) q ≡ entries_at ts es q
entries_at-push {E} [] [] t len q = elim (pointwise nat_eq t q) as (λ b. cond {A = Option (List E)} b None None ≡ None) [ true ↦ refl | false ↦ refl ]
entries_at-push [] (e ∷ es) t len q = absurd (omega arith)
entries_at-push (x ∷ ts) [] t len q = absurd (omega arith)
entries_at-push (x ∷ ts) (e ∷ es) t len q = ap (λ r. cond (pointwise nat_eq x q) e r) (entries_at-push ts es t (omega arith) q)

pub key_at-grows : {E : Type 0} (old new : Tree E) (t : List ℕ) → IsTrie old → Grows old new t → (q : List ℕ) → entries_of_key new q ≡ entries_of_key old q
key_at-grows old new t trie g q = elim g [
  | inl same ↦ ap (λ x. entries_of_key x q) same
  | inr more ↦ ap (λ x. entries_of_key x q) more ∙ entries_at-push old.texts old.entries t trie.lengths q
]

pub keeps-grows : {E : Type 0} (start old new : Tree E) (t : List ℕ) → KeepsNodes start old → Grows old new t → KeepsNodes start new
keeps-grows start old new t keeps g = elim g [
  | inl same ↦ subst (λ x. KeepsNodes start x) (sym same) keeps
  | inr more ↦ subst (λ x. KeepsNodes start x) (sym more) (λ i li.
      let k = keeps i li in
      (omega (arith, length-append old.texts (t ∷ []), k.0), get_or_append_left old.texts (t ∷ []) [] i k.0 ∙ k.1))
]

pub adds-grows : {E : Type 0} (start old new : Tree E) (t key : List ℕ) → AddsFront start old key → Grows old new t → t ≡ take (length t) key → AddsFront start new key
adds-grows start old new t key adds g front = elim g [
  | inl same ↦ subst (λ x. AddsFront start x key) (sym same) adds
  | inr more ↦ subst (λ x. AddsFront start x key) (sym more) (λ j lj. elim (cases_lt j (length old.texts)) [
    | inl lt ↦
        let e : get_or (old.texts ++ t ∷ []) j [] ≡ get_or old.texts j [] = get_or_append_left old.texts (t ∷ []) [] j lt in
        elim (adds j lt) [
          | inl h ↦ inl (h.0, e ∙ h.1)
          | inr h ↦ inr (e ∙ h ∙ ap (λ (x : List ℕ). take (length x) key) (sym e))
        ]
    | inr ge ↦
        let last : j ≡ length old.texts = omega (arith, length-append old.texts (t ∷ [])) in
        let e : get_or (old.texts ++ t ∷ []) j [] ≡ t = get_or_push old.texts t [] j (sym last) in
        inr (e ∙ front ∙ ap (λ (x : List ℕ). take (length x) key) (sym e))
  ])
]

-- the next byte of a key makes a longer front
pub front_more : (key : List ℕ) (i : ℕ) (t : List ℕ) → t ≡ take i key → i < length key → (t ++ get_or key i 0 ∷ [] ≡ take (i + 1) key) × (t ++ get_or key i 0 ∷ [] ≡ take (length (t ++ get_or key i 0 ∷ [])) key)
front_more key i t e lt =
    let b : ℕ = get_or key i 0 in
    let more : t ++ b ∷ [] ≡ take (i + 1) key = ap (λ (x : List ℕ). x ++ b ∷ []) e ∙ sym (take_more key i 0 lt) in
    let len : length (t ++ b ∷ []) ≡ i + 1 = ap length more ∙ length-take-le (i + 1) key (omega arith) in
    (more, more ∙ ap (λ (n : ℕ). take n key) (sym len))

-- ---- the entries of a node

pub seen_within : (froms : List (Option (ℕ × ℕ))) (i : ℕ) → i < length (texts_of froms) → i < length froms
seen_within froms i lt = omega (arith, length-texts_of froms)

abbrev pub AllApart : List (List ℕ) → Type 0
AllApart ts = (i j : ℕ) → i < length ts → j < length ts → get_or ts i [] ≡ get_or ts j [] → i ≡ j

pub apart_rest : (t : List ℕ) (ts : List (List ℕ)) → AllApart (t ∷ ts) → AllApart ts
apart_rest t ts h i j li lj e = omega (arith, h (suc i) (suc j) (omega arith) (omega arith) e)

pub apart_first : (t : List ℕ) (ts : List (List ℕ)) (i : ℕ) → AllApart (t ∷ ts) → i < length ts → t ≡ get_or ts i [] → ⊥
apart_first t ts i h li e = omega (arith, h 0 (suc i) (omega arith) (omega arith) e)

shadowed : {X : Type 0} (b : Bool) (x y z : X) → cond b x z ≡ cond b x (cond b y z)
shadowed true x y z = refl
shadowed false x y z = refl

swapped : {X : Type 0} (a b : Bool) (x y z : X) → ((a ≡ true) → (b ≡ true) → ⊥) → cond a x (cond b y z) ≡ cond b y (cond a x z)
swapped true true x y z apart = absurd (apart refl refl)
swapped true false x y z apart = refl
swapped false b x y z apart = refl

other_text : (a b : List ℕ) → (a ≡ b → ⊥) → pointwise nat_eq a b ≡ false
other_text a b apart = elim (pointwise nat_eq a b) as (λ r. pointwise nat_eq a b ≡ r → r ≡ false) [
  | true ↦ λ e. absurd (apart ((bytes_decides a b).0 e))
  | false ↦ λ e. refl
] refl

pub entries_at-set : {E : Type 0} (ts : List (List ℕ)) (es : List (Option (List E))) (i : ℕ) (x : Option (List E)) (q : List ℕ) → AllApart ts → length es ≡ length ts → i < length ts
    → entries_at ts (set es i x) q ≡ cond (pointwise nat_eq (get_or ts i []) q) x (entries_at ts es q)
entries_at-set [] es i x q apart len lt = absurd (omega arith)
entries_at-set (t ∷ ts) [] i x q apart len lt = absurd (omega arith)
entries_at-set (t ∷ ts) (e ∷ es) zero x q apart len lt = shadowed (pointwise nat_eq t q) x e (entries_at ts es q)
entries_at-set (t ∷ ts) (e ∷ es) (suc i) x q apart len lt =
    ap (λ r. cond (pointwise nat_eq t q) e r) (entries_at-set ts es i x q (apart_rest t ts apart) (omega arith) (omega arith))
    ∙ swapped (pointwise nat_eq t q) (pointwise nat_eq (get_or ts i []) q) e x (entries_at ts es q)
    (λ p r. apart_first t ts i apart (omega arith) ((bytes_decides t q).0 p ∙ sym ((bytes_decides (get_or ts i []) q).0 r)))

pub entries_at-here : {E : Type 0} (ts : List (List ℕ)) (es : List (Option (List E))) (i : ℕ) → AllApart ts → length es ≡ length ts → i < length ts
    → entries_at ts es (get_or ts i []) ≡ get_or es i None
entries_at-here [] es i apart len lt = absurd (omega arith)
entries_at-here (t ∷ ts) [] i apart len lt = absurd (omega arith)
entries_at-here (t ∷ ts) (e ∷ es) zero apart len lt = ap (λ b. cond b e (entries_at ts es t)) ((bytes_decides t t).1 refl)
entries_at-here (t ∷ ts) (e ∷ es) (suc i) apart len lt =
    ap (λ b. cond b e (entries_at ts es (get_or ts i []))) (other_text t (get_or ts i []) (λ same. apart_first t ts i apart (omega arith) same))
    ∙ entries_at-here ts es i (apart_rest t ts apart) (omega arith) (omega arith)

pub seen-with : {E : Type 0} (froms : List (Option (ℕ × ℕ))) (spans : List (Option Span)) (es xs : List E) (i start count : ℕ) (now : Option Span) → now ≡ Some (record { start = start; count = count })
    → AreWithin (length es) spans → start ≡ length es → count ≡ length xs → tree_of froms (set spans i now) (es ++ xs) ≡ with_entries (tree_of froms spans es) i xs
seen-with {E} froms spans es xs i start count now is within begin stop =
    let mine : entries_there (es ++ xs) now ≡ Some xs = ap (entries_there (es ++ xs)) is ∙ ap (λ (ys : List E). Some ys) (range_new es xs start (start + count) begin (omega (arith, begin, stop, length-append es xs))) in
    let news : map (entries_there (es ++ xs)) (set spans i now) ≡ set (map (entries_there es) spans) i (Some xs) =
    map-set (entries_there (es ++ xs)) spans i now ∙ ap (λ (o : Option (List E)). set (map (entries_there (es ++ xs)) spans) i o) mine ∙ ap (λ (os : List (Option (List E))). set os i (Some xs)) (all_kept es xs spans within) in
    λ k. record { texts = texts_of froms; entries = news k }

-- the entries of one key are set
pub key_at-with : {E : Type 0} (t : Tree E) (node : ℕ) (es : List E) (key q : List ℕ) → IsTrie t → node < length t.texts → node_text t node ≡ key
    → entries_of_key (with_entries t node es) q ≡ cond (pointwise nat_eq key q) (Some es) (entries_of_key t q)
key_at-with t node es key q trie lt e = entries_at-set t.texts t.entries node (Some es) q trie.distinct trie.lengths lt ∙ ap (λ (x : List ℕ). cond (pointwise nat_eq x q) (Some es) (entries_of_key t q)) e

some_either : {X : Type 0} (b : Bool) (x : X) (o : Option X) → IsSome o → IsSome (cond b (Some x) o)
some_either true x o h = refl
some_either false x o h = h

pub begins-insert : {E : Type 0} (old mid : Tree E) (key : List ℕ) (node : ℕ) (es : List E) → ((q : List ℕ) → entries_of_key mid q ≡ entries_of_key old q) → AddsFront old mid key → IsTrie mid
    → node < length mid.texts → node_text mid node ≡ key → EachBeginsKey old → EachBeginsKey (with_entries mid node es)
begins-insert {E} old mid key node es keys adds trie lt e begins j pos lj =
    let at : (q : List ℕ) → entries_of_key (with_entries mid node es) q ≡ cond (pointwise nat_eq key q) (Some es) (entries_of_key mid q) = λ q. key_at-with mid node es key q trie lt e in
    elim (adds j lj) [
      | inl h ↦
          let b = begins j pos h.0 in (
            b.0,
            subst (λ (o : Option (List E)). IsSome o) (sym (at b.0)) (some_either (pointwise nat_eq key b.0) es (entries_of_key mid b.0) (subst (λ (o : Option (List E)). IsSome o) (sym (keys b.0)) b.1)),
            h.1 ∙ b.2 ∙ ap (λ (x : List ℕ). take (length x) b.0) (sym h.1),
          )
      | inr h ↦ (key, subst (λ (o : Option (List E)). IsSome o) (sym (at key ∙ ap (λ b. cond b (Some es) (entries_of_key mid key)) ((bytes_decides key key).1 refl))) refl, h)
    ]

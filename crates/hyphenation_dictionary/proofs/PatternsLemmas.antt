-- The finite map that the nodes of a trie make.
use Rattle.std.proofs.Common.{◌≡◌, ℕ, suc, ◌<◌, Bool, true, false, cond, nat_eq, List, [], ◌∷◌, length, get_or, Option, Some, None, refl, sym, ap, ◌∙◌, arith}
use Rattle.std.specs.Ordering.{nat_cmp}
use Rattle.std.specs.Cmp.Lexicographic.{slice_cmp, pointwise, bytes_decides, nat_list_cmp_total}
use Rattle.std.specs.FinMap as finite
use Rattle.std.specs.FinMap.{find, get-from_entries, get-insert, same_map, slice_cmp-IsAntisymmetric, nat_cmp-IsAntisymmetric}
use Rattle.hyphenation_dictionary.specs.Laws.{KeysAreLookedUp, InsertedKeyIsAdded}
use Rattle.hyphenation_dictionary.specs.Parts.{patterns_of}
use Rattle.hyphenation_dictionary.proofs.TextMaps.{same_test}
use Rattle.hyphenation_trie.specs.Keys.{pairs_of}
use Rattle.hyphenation_trie.specs.Trie.{entries_at}

-- A text of no node is not a key.
no_node : {E : Type 0} (ts : List (List ℕ)) (es : List (Option (List E))) (q : List ℕ) → ((i : ℕ) → i < length ts → get_or ts i [] ≡ q → ⊥) → entries_at ts es q ≡ None
no_node [] es q other = refl
no_node (t ∷ ts) [] q other = refl
no_node {E} (t ∷ ts) (e ∷ es) q other = by (pointwise nat_eq t q) refl (no_node ts es q (λ i li. other (suc i) (omega (arith, li))))
  where
    by : (b : Bool) → pointwise nat_eq t q ≡ b → entries_at ts es q ≡ None → cond b e (entries_at ts es q) ≡ None
    by true is later = absurd (other 0 (omega arith) ((bytes_decides t q).0 is))
    by false is later = later

abbrev AllApart : List (List ℕ) → Type 0
AllApart ts = (i j : ℕ) → i < length ts → j < length ts → get_or ts i [] ≡ get_or ts j [] → i ≡ j

apart_rest : (t : List ℕ) (ts : List (List ℕ)) → AllApart (t ∷ ts) → AllApart ts
apart_rest t ts h i j li lj e = omega (arith, h (suc i) (suc j) (omega arith) (omega arith) e)

absent_later : {E : Type 0} (t : List ℕ) (ts : List (List ℕ)) (es : List (Option (List E))) (q : List ℕ) → AllApart (t ∷ ts) → pointwise nat_eq t q ≡ true → entries_at ts es q ≡ None
absent_later t ts es q apart e = no_node ts es q (λ i li is. omega (arith, apart 0 (suc i) (omega arith) (omega (arith, li)) ((bytes_decides t q).0 e ∙ sym is)))

none_either : {X : Type 0} (b : Bool) (o : Option X) → (b ≡ true → o ≡ None) → o ≡ cond b None o
none_either true o h = h refl
none_either false o h = refl

find-pairs : {E : Type 0} (ts : List (List ℕ)) (es : List (Option (List E))) (q : List ℕ) → AllApart ts → find (slice_cmp nat_cmp) q (pairs_of ts es) ≡ entries_at ts es q
find-pairs [] es q apart = refl
find-pairs (t ∷ ts) [] q apart = refl
find-pairs (t ∷ ts) (None ∷ es) q apart = find-pairs ts es q (apart_rest t ts apart) ∙ none_either (pointwise nat_eq t q) (entries_at ts es q) (absent_later t ts es q apart)
find-pairs (t ∷ ts) (Some x ∷ es) q apart =
    ap (λ b. cond b (Some x) (find (slice_cmp nat_cmp) q (pairs_of ts es))) (same_test q t) ∙ ap (cond (pointwise nat_eq t q) (Some x)) (find-pairs ts es q (apart_rest t ts apart))

pub get-patterns_of : (E : Type 0) → KeysAreLookedUp E
get-patterns_of E t trie q = get-from_entries nat_list_cmp_total (pairs_of t.texts t.entries) q ∙ find-pairs t.texts t.entries q trie.distinct

pub patterns_of-insert : (E : Type 0) → InsertedKeyIsAdded E
patterns_of-insert E old new key es was is step = same_map nat_list_cmp_total (slice_cmp-IsAntisymmetric nat_cmp-IsAntisymmetric) _ _ (λ q.
    get-patterns_of E new is q ∙ step q ∙ ap (cond (pointwise nat_eq key q) (Some es)) (sym (get-patterns_of E old was q)) ∙ ap (λ b. cond b (Some es) (finite.get (patterns_of old) q)) (sym (same_test q key))
    ∙ sym (get-insert nat_list_cmp_total (patterns_of old) key es q))

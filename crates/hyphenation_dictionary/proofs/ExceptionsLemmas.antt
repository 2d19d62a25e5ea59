-- The finite map that a hash map of words makes.
use Rattle.std.proofs.Common.{◌≡◌, ℕ, Bool, true, false, cond, List, [], ◌∷◌, map, Option, Some, None, refl, sym, ap, ◌∙◌}
use Rattle.std.specs.Option.{option_map}
use Rattle.std.specs.Ordering.{nat_cmp, eq_by_cmp}
use Rattle.std.specs.Str.{bytes_eq}
use Rattle.std.specs.Cmp.Lexicographic.{slice_cmp, nat_list_cmp_total, texts_ties}
use Rattle.std.specs.FinMap as finite
use Rattle.std.specs.FinMap.{find, get-from_entries, get-insert, get-remove, same_map, slice_cmp-IsAntisymmetric, nat_cmp-IsAntisymmetric}
use Rattle.std.specs.Map.{lookup}
use Rattle.std.specs.HashMap.{HashMap, get_by_text, IsEmpty, IsUnchanged, Updates, UpdatesBy}
use Rattle.std.specs.String.{string_bytes, string_eq}
use Rattle.std.specs.declared.string.String.{String}
use Rattle.std.specs.declared.vec.Vec.{Vec}
use Rattle.std.proofs.lemmas.Map.Text.{hash_map_updates_text}
use Rattle.hyphenation_dictionary.specs.Private.Views.{exceptions_of}
use Rattle.hyphenation_dictionary.proofs.TextMaps.{same_test}

mapped_either : {A X : Type 0} (f : A → X) (b : Bool) (x : A) (o : Option A) → option_map f (cond b (Some x) o) ≡ cond b (Some (f x)) (option_map f o)
mapped_either f true x o = refl
mapped_either f false x o = refl

mapped_or_none : {A X : Type 0} (f : A → X) (b : Bool) (o : Option A) → option_map f (cond b None o) ≡ cond b None (option_map f o)
mapped_or_none f true o = refl
mapped_or_none f false o = refl

find-words : {B Y Z : Type 0} (es : List (String Y × Vec B Z)) (q : List ℕ)
    → find (slice_cmp nat_cmp) q (map (λ x. (string_bytes x.0, x.1.items)) es) ≡ option_map (λ v. v.items) (lookup (λ k. bytes_eq q (string_bytes k)) es)
find-words [] q = refl
find-words {B} {Y} {Z} (e ∷ es) q =
    ap (cond (eq_by_cmp (slice_cmp nat_cmp) q (string_bytes e.0)) (Some e.1.items)) (find-words es q)
    ∙ ap (λ b. cond b (Some e.1.items) (option_map (λ v. v.items) (lookup (λ k. bytes_eq q (string_bytes k)) es))) (sym (texts_ties q (string_bytes e.0)))
    ∙ sym (mapped_either (λ v. v.items) (bytes_eq q (string_bytes e.0)) e.1 (lookup (λ k. bytes_eq q (string_bytes k)) es))

-- The result of a look-up by a word.
pub get-exceptions_of : {B Y Z S : Type 0} (m : HashMap (String Y) (Vec B Z) S) (word : List ℕ) → finite.get (exceptions_of m) word ≡ option_map (λ v. v.items) (get_by_text m word)
get-exceptions_of m word = get-from_entries nat_list_cmp_total (map (λ x. (string_bytes x.0, x.1.items)) m.entries) word ∙ find-words m.entries word

-- An insertion into the hash map inserts into the finite map.
pub exceptions_of-insert : {B Y Z S : Type 0} (old new : HashMap (String Y) (Vec B Z) S) (word : String Y) (listed : Vec B Z) → Updates string_eq old new word (Some listed)
    → exceptions_of new ≡ finite.insert (exceptions_of old) (string_bytes word) listed.items
exceptions_of-insert {B} {Y} {Z} {S} old new word listed updates =
    let w : List ℕ = string_bytes word in
    same_map nat_list_cmp_total (slice_cmp-IsAntisymmetric nat_cmp-IsAntisymmetric) _ _ (λ q.
    get-exceptions_of new q
    ∙ ap (option_map (λ v. v.items)) (hash_map_updates_text w old new (Some listed) updates q)
    ∙ mapped_either (λ v. v.items) (bytes_eq w q) listed (get_by_text old q)
    ∙ ap (cond (bytes_eq w q) (Some listed.items)) (sym (get-exceptions_of old q))
    ∙ ap (λ b. cond b (Some listed.items) (finite.get (exceptions_of old) q)) (sym (same_test q w))
    ∙ sym (get-insert nat_list_cmp_total (exceptions_of old) w listed.items q))

-- A removal from the hash map removes from the finite map.
pub exceptions_of-remove : {B Y Z S : Type 0} (old new : HashMap (String Y) (Vec B Z) S) (word : List ℕ) → UpdatesBy string_eq (λ k. bytes_eq word (string_bytes k)) old new None
    → exceptions_of new ≡ finite.remove (exceptions_of old) word
exceptions_of-remove old new word updates =
    same_map nat_list_cmp_total (slice_cmp-IsAntisymmetric nat_cmp-IsAntisymmetric) _ _ (λ q.
    get-exceptions_of new q
    ∙ ap (option_map (λ v. v.items)) (hash_map_updates_text word old new None updates q)
    ∙ mapped_or_none (λ v. v.items) (bytes_eq word q) (get_by_text old q)
    ∙ ap (cond (bytes_eq word q) None) (sym (get-exceptions_of old q))
    ∙ ap (λ b. cond b None (finite.get (exceptions_of old) q)) (sym (same_test q word))
    ∙ sym (get-remove nat_list_cmp_total (exceptions_of old) word q))

-- Equal entries make equal finite maps.
pub exceptions_of-unchanged : {B Y Z S : Type 0} (old new : HashMap (String Y) (Vec B Z) S) → IsUnchanged old new → exceptions_of new ≡ exceptions_of old
exceptions_of-unchanged old new same = ap (λ es. finite.from_entries (map (λ x. (string_bytes x.0, x.1.items)) es)) same

-- A hash map without entries makes the empty finite map.
pub exceptions_of-empty : {B Y Z S : Type 0} (m : HashMap (String Y) (Vec B Z) S) → IsEmpty m → exceptions_of m ≡ finite.empty
exceptions_of-empty m none = ap (λ es. finite.from_entries (map (λ x. (string_bytes x.0, x.1.items)) es)) none

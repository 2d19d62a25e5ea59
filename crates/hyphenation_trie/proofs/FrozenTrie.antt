-- Parents and depths of a trie's nodes.
use Rattle.std.proofs.Common.{◌≡◌, ℕ, ◌+◌, ◌<◌, List, [], ◌∷◌, ◌++◌, length, map, drop, get_or, set, slice_index, Option, Some, None, refl, sym, ap, subst, ◌∙◌, arith, inl, inr}
use Rattle.std.proofs.lemmas.Bool.{cases_eq, cases_lt}
use Rattle.std.proofs.lemmas.List.{length-append, length-drop, length-map, map_push, get_or-map, get_or_append_left, get_or_push, get_or-set_same, get_or-set_other}
use Rattle.hyphenation_trie.specs.Private.Trie.{texts_of, HasFroms}
use Rattle.hyphenation_trie.specs.Private.Links.{HasParents, parent_of, byte_of}
use Rattle.std.specs.List.{zip}
use Rattle.hyphenation_trie.specs.Private.States.{froms_by, texts_by}
use Rattle.std.proofs.lemmas.Simd.{map-map}
use Rattle.hyphenation_trie.proofs.TrieNodes.{length-texts_of}

-- ---- parents and bytes of nodes

pub HasFroms-grow : (texts : List (List ℕ)) (froms : List (Option (ℕ × ℕ))) (i b : ℕ) → length froms ≡ length texts → i < length texts → HasFroms texts froms
    → HasFroms (texts ++ (get_or texts i [] ++ b ∷ []) ∷ []) (froms ++ Some (i, b) ∷ [])
HasFroms-grow texts froms i b len li has j pos lj =
    let t : List ℕ = get_or texts i [] ++ b ∷ [] in
    let new : List (List ℕ) = texts ++ t ∷ [] in
    elim (cases_lt j (length texts)) [
      | inl old ↦
          let h = has j pos old in
          let at : get_or new j [] ≡ get_or texts j [] = get_or_append_left texts (t ∷ []) [] j old in
          let up : get_or new h.0.0 [] ≡ get_or texts h.0.0 [] = get_or_append_left texts (t ∷ []) [] h.0.0 (omega (arith, h.2)) in
          (h.0, get_or_append_left froms (Some (i, b) ∷ []) None j (omega arith) ∙ h.1, h.2, at ∙ h.3 ∙ ap (λ (x : List ℕ). x ++ h.0.1 ∷ []) (sym up))
      | inr last ↦
          let is : j ≡ length texts = omega (arith, length-append texts (t ∷ [])) in
          let at : get_or new j [] ≡ t = get_or_push texts t [] j (sym is) in
          let up : get_or new i [] ≡ get_or texts i [] = get_or_append_left texts (t ∷ []) [] i li in
          ((i, b), get_or_push froms (Some (i, b)) None j (len ∙ sym is), omega arith, at ∙ ap (λ (x : List ℕ). x ++ b ∷ []) (sym up))
    ]

-- ---- parents

pub parents_are : (texts : List (List ℕ)) (froms : List (Option (ℕ × ℕ))) → length froms ≡ length texts → HasFroms texts froms → HasParents texts (map parent_of froms) (map byte_of froms)
parents_are texts froms len has = record {
  nodes = length-map froms parent_of ∙ len;
  bytes_of = length-map froms byte_of ∙ len;
  each = λ j pos lj.
      let h = has j pos lj in
      let p : slice_index (map parent_of froms) j ≡ h.0.0 = get_or-map parent_of froms j None 0 (omega arith) ∙ ap parent_of h.1 in
      let b : slice_index (map byte_of froms) j ≡ h.0.1 = get_or-map byte_of froms j None 0 (omega arith) ∙ ap byte_of h.1 in
      (omega (arith, h.2), h.3 ∙ ap (λ (x : ℕ). get_or texts x [] ++ h.0.1 ∷ []) (sym p) ∙ ap (λ (x : ℕ). get_or texts (slice_index (map parent_of froms) j) [] ++ x ∷ []) (sym b));
}

-- ---- depths

-- one node more has its depth
pub depths_more : (texts : List (List ℕ)) (depths : List ℕ) (node parent byte depth : ℕ) → length depths ≡ length texts → node < length texts → parent < node
    → get_or texts node [] ≡ get_or texts parent [] ++ byte ∷ [] → depth ≡ slice_index depths parent + 1
    → ((j : ℕ) → j < node → slice_index depths j ≡ length (get_or texts j []))
    → (j : ℕ) → j < node + 1 → slice_index (set depths node depth) j ≡ length (get_or texts j [])
depths_more texts depths node parent byte depth len lt before text is each j lj = elim (cases_eq j node) [
  | inl same ↦
      ap (λ (x : ℕ). slice_index (set depths node depth) x) same ∙ get_or-set_same depths node depth 0 (omega (arith, len)) ∙ is ∙ ap (λ (x : ℕ). x + 1) (each parent before)
      ∙ sym (ap (λ (x : ℕ). length (get_or texts x [])) same ∙ ap length text ∙ length-append (get_or texts parent []) (byte ∷ []))
  | inr apart ↦ get_or-set_other depths node j depth 0 apart ∙ each j (omega arith)
]

-- ---- parents and bytes, each in a list of its own

zip_first : (xs ys : List ℕ) → length ys ≡ length xs → map (λ (x : ℕ × ℕ). x.0) (zip xs ys) ≡ xs
zip_first [] ys e = refl
zip_first (x ∷ xs) [] e = absurd (omega arith)
zip_first (x ∷ xs) (y ∷ ys) e = ap (λ (zs : List ℕ). x ∷ zs) (zip_first xs ys (omega arith))

zip_second : (xs ys : List ℕ) → length ys ≡ length xs → map (λ (x : ℕ × ℕ). x.1) (zip xs ys) ≡ ys
zip_second [] [] e = refl
zip_second [] (y ∷ ys) e = absurd (omega arith)
zip_second (x ∷ xs) [] e = absurd (omega arith)
zip_second (x ∷ xs) (y ∷ ys) e = ap (λ (zs : List ℕ). y ∷ zs) (zip_second xs ys (omega arith))

zip_push : (xs ys : List ℕ) (x y : ℕ) → length ys ≡ length xs → zip (xs ++ x ∷ []) (ys ++ y ∷ []) ≡ zip xs ys ++ (x, y) ∷ []
zip_push [] [] x y e = refl
zip_push [] (w ∷ ys) x y e = absurd (omega arith)
zip_push (v ∷ xs) [] x y e = absurd (omega arith)
zip_push (v ∷ xs) (w ∷ ys) x y e = ap (λ (zs : List (ℕ × ℕ)). (v, w) ∷ zs) (zip_push xs ys x y (omega arith))

rests : (parents bytes : List ℕ) → length bytes ≡ length parents → length (drop 1 bytes) ≡ length (drop 1 parents)
rests parents bytes e = omega (arith, length-drop 1 parents, length-drop 1 bytes)

pub parents_by : (parents bytes : List ℕ) → parents ≡ 0 ∷ drop 1 parents → length bytes ≡ length parents → map parent_of (froms_by parents bytes) ≡ parents
parents_by parents bytes first e =
    ap (λ (xs : List ℕ). 0 ∷ xs) (map-map parent_of (λ from. Some from) (zip (drop 1 parents) (drop 1 bytes)) ∙ zip_first (drop 1 parents) (drop 1 bytes) (rests parents bytes e)) ∙ sym first

pub bytes_by : (parents bytes : List ℕ) → bytes ≡ 0 ∷ drop 1 bytes → length bytes ≡ length parents → map byte_of (froms_by parents bytes) ≡ bytes
bytes_by parents bytes first e =
    ap (λ (xs : List ℕ). 0 ∷ xs) (map-map byte_of (λ from. Some from) (zip (drop 1 parents) (drop 1 bytes)) ∙ zip_second (drop 1 parents) (drop 1 bytes) (rests parents bytes e)) ∙ sym first

pub length-froms_by : (parents bytes : List ℕ) → parents ≡ 0 ∷ drop 1 parents → length bytes ≡ length parents → length (froms_by parents bytes) ≡ length parents
length-froms_by parents bytes first e = sym (length-map (froms_by parents bytes) parent_of) ∙ ap length (parents_by parents bytes first e)

pub froms_by-push : (parents bytes : List ℕ) (parent byte : ℕ) → parents ≡ 0 ∷ drop 1 parents → bytes ≡ 0 ∷ drop 1 bytes → length bytes ≡ length parents
    → froms_by (parents ++ parent ∷ []) (bytes ++ byte ∷ []) ≡ froms_by parents bytes ++ Some (parent, byte) ∷ []
froms_by-push [] bytes parent byte p b e = absurd (omega (arith, ap length p))
froms_by-push (x ∷ xs) [] parent byte p b e = absurd (omega arith)
froms_by-push (x ∷ xs) (y ∷ ys) parent byte p b e =
    ap (λ (zs : List (ℕ × ℕ)). None ∷ map (λ from. Some from) zs) (zip_push xs ys parent byte (omega arith))
    ∙ ap (λ (zs : List (Option (ℕ × ℕ))). None ∷ zs) (map_push (λ from. Some from) (zip xs ys) (parent, byte))

pub first-push : (xs : List ℕ) (x : ℕ) → xs ≡ 0 ∷ drop 1 xs → xs ++ x ∷ [] ≡ 0 ∷ drop 1 (xs ++ x ∷ [])
first-push [] x e = absurd (omega (arith, ap length e))
first-push (y ∷ ys) x e = let zero_is : y ≡ 0 = cc in ap (λ (z : ℕ). z ∷ ys ++ x ∷ []) zero_is

-- the byte of a node is the one that leads from its parent
pub byte_here : (parents bytes : List ℕ) (j : ℕ) → bytes ≡ 0 ∷ drop 1 bytes → length bytes ≡ length parents → j < length (froms_by parents bytes)
    → byte_of (get_or (froms_by parents bytes) j None) ≡ slice_index bytes j
byte_here parents bytes j first e lt = sym (get_or-map byte_of (froms_by parents bytes) j None 0 lt) ∙ ap (λ (xs : List ℕ). slice_index xs j) (bytes_by parents bytes first e)

pub has_parents : (parents bytes : List ℕ) → parents ≡ 0 ∷ drop 1 parents → bytes ≡ 0 ∷ drop 1 bytes → length bytes ≡ length parents → HasFroms (texts_by parents bytes) (froms_by parents bytes)
    → HasParents (texts_by parents bytes) parents bytes
has_parents parents bytes p b e has =
    let froms = froms_by parents bytes in
    subst (λ (xs : List ℕ). HasParents (texts_of froms) xs bytes) (parents_by parents bytes p e) (subst (λ (xs : List ℕ). HasParents (texts_of froms) (map parent_of froms) xs) (bytes_by parents bytes b e) (parents_are (texts_of froms) froms (sym (length-texts_of froms)) has))

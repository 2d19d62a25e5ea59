-- The places of breaks without a change.
use Rattle.std.proofs.Common.{◌≡◌, ℕ, ◌+◌, ◌≤◌, ◌&&◌, Bool, true, false, not, List, [], ◌∷◌, map, filter, refl, ap, ◌∙◌, arith, IsTrue, if◌then◌else◌, nat_le}
use Rattle.std.proofs.lemmas.Bool.{and_parts, and_from, leb-true, le-leb}
use Rattle.hyphenation_breaks.specs.Break.{Break, plain_break, is_changed, ascend_on, is_boundary}
use Rattle.any_dictionary.specs.Dictionaries.{plain_places}

-- ---- tests

-- ---- places that ascend

-- Each of some places meets the conditions of the first one, and the others ascend after it.
record Ascends (text : List ℕ) (least p : ℕ) (ps : List ℕ) : Type 0 where
  pub least_is : least ≤ p
  pub at : IsTrue (is_boundary text p)
  pub later : IsTrue (ascend_on text (p + 1) ps)

ascends_of : (text : List ℕ) (least p : ℕ) (ps : List ℕ) → IsTrue (ascend_on text least (p ∷ ps)) → Ascends text least p ps
ascends_of text least p ps a =
    let here = (and_parts (nat_le least p && is_boundary text p) (ascend_on text (p + 1) ps) a).0 in
    record {
      least_is = leb-true least p (and_parts (nat_le least p) (is_boundary text p) here).0;
      at = (and_parts (nat_le least p) (is_boundary text p) here).1;
      later = (and_parts (nat_le least p && is_boundary text p) (ascend_on text (p + 1) ps) a).1;
    }

ascends_from : (text : List ℕ) (least p : ℕ) (ps : List ℕ) → Ascends text least p ps → IsTrue (ascend_on text least (p ∷ ps))
ascends_from text least p ps a =
    and_from (nat_le least p && is_boundary text p) (ascend_on text (p + 1) ps)
    (and_from (nat_le least p) (is_boundary text p) (le-leb least p a.least_is) a.at) a.later

ascend_weaker : (text : List ℕ) (n m : ℕ) (ps : List ℕ) → n ≤ m → IsTrue (ascend_on text m ps) → IsTrue (ascend_on text n ps)
ascend_weaker text n m [] le a = refl
ascend_weaker text n m (p ∷ ps) le a =
    let first = ascends_of text m p ps a in
    ascends_from text n p ps (record { least_is = omega (arith, le, first.least_is); at = first.at; later = first.later })

-- ---- breaks without a change

plain_cases : (text : List ℕ) (least : ℕ) (b : Break) (bs : List Break) (c : Bool) → least ≤ b.place → IsTrue (is_boundary text b.place) → IsTrue (ascend_on text (b.place + 1) (plain_places bs))
    → IsTrue (ascend_on text least (map (λ b'. b'.place) (if c then b ∷ filter (λ b'. not (is_changed b')) bs else filter (λ b'. not (is_changed b')) bs)))
plain_cases text least b bs true le at later = ascends_from text least b.place (plain_places bs) (record { least_is = le; at = at; later = later })
plain_cases text least b bs false le at later = ascend_weaker text least (b.place + 1) (plain_places bs) (omega (arith, le)) later

-- Where all places ascend, those of breaks without a change do.
pub plain_ascend : (text : List ℕ) (least : ℕ) (bs : List Break) → IsTrue (ascend_on text least (map (λ b. b.place) bs)) → IsTrue (ascend_on text least (plain_places bs))
plain_ascend text least [] a = refl
plain_ascend text least (b ∷ bs) a =
    let first = ascends_of text least b.place (map (λ b'. b'.place) bs) a in
    plain_cases text least b bs (not (is_changed b)) first.least_is first.at (plain_ascend text (b.place + 1) bs first.later)

-- Only places: all stay.
pub plain_back : (places : List ℕ) → plain_places (map plain_break places) ≡ places
plain_back [] = refl
plain_back (p ∷ ps) = ap (λ qs. p ∷ qs) (plain_back ps)

places_plain : (xs : List ℕ) → xs ≡ map (λ b. b.place) (map plain_break xs)
places_plain [] = refl
places_plain (x ∷ xs) = ap (λ l. x ∷ l) (places_plain xs)

-- Places that mean breaks without a change are the places of these breaks.
pub found_places : (xs : List ℕ) (breaks : List Break) → map plain_break xs ≡ breaks → xs ≡ map (λ b. b.place) breaks
found_places xs breaks e = places_plain xs ∙ ap (λ bs. map (λ b. b.place) bs) e

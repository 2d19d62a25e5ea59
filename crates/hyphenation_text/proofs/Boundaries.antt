-- Places that ascend on a text, and the characters at which a text of UTF-8 is parted.
use Rattle.std.proofs.Common.{◌≡◌, ℕ, ◌+◌, ◌≤◌, ◌<◌, ◌&&◌, Bool, true, false, List, [], ◌∷◌, ◌++◌, length, refl, sym, arith, subst, IsTrue, nat_le, length-append, get_or}
use Rattle.std.specs.Str.{IsUtf8, IsCharBoundary}
use Rattle.std.proofs.Math.Seq.{take-append_seam, drop-append_seam}
use Rattle.std.proofs.lemmas.Str.{IsUtf8-take, IsUtf8-drop, IsCharBoundary-after_ascii}
use Rattle.std.proofs.lemmas.Bool.Decides.{nat_tests}
use Rattle.hyphenation_breaks.specs.Break.{ascend_on, is_boundary}

-- ---- tests

pub and_left : (a b : Bool) → IsTrue (a && b) → IsTrue a
and_left true b e = refl
and_left false b e = e

pub and_right : (a b : Bool) → IsTrue (a && b) → IsTrue b
and_right true b e = e
and_right false b e = cc

pub and_both : (a b : Bool) → IsTrue a → IsTrue b → IsTrue (a && b)
and_both true b e f = f
and_both false b e f = e

pub le_of : (m n : ℕ) → IsTrue (nat_le m n) → m ≤ n
le_of m n e = grind (arith, nat_tests)

pub le_test : (m n : ℕ) → m ≤ n → IsTrue (nat_le m n)
le_test m n e = grind (arith, nat_tests)

-- ---- places that ascend

-- Each of some places meets the conditions of the first one, and the others ascend after it.
pub record Ascends (text : List ℕ) (least p : ℕ) (ps : List ℕ) : Type 0 where
  pub least_is : least ≤ p
  pub at : IsTrue (is_boundary text p)
  pub later : IsTrue (ascend_on text (p + 1) ps)

pub ascends_of : (text : List ℕ) (least p : ℕ) (ps : List ℕ) → IsTrue (ascend_on text least (p ∷ ps)) → Ascends text least p ps
ascends_of text least p ps a =
    let here = and_left (nat_le least p && is_boundary text p) (ascend_on text (p + 1) ps) a in
    record {
      least_is = le_of least p (and_left (nat_le least p) (is_boundary text p) here);
      at = and_right (nat_le least p) (is_boundary text p) here;
      later = and_right (nat_le least p && is_boundary text p) (ascend_on text (p + 1) ps) a;
    }

pub ascends_from : (text : List ℕ) (least p : ℕ) (ps : List ℕ) → Ascends text least p ps → IsTrue (ascend_on text least (p ∷ ps))
ascends_from text least p ps a =
    and_both (nat_le least p && is_boundary text p) (ascend_on text (p + 1) ps)
    (and_both (nat_le least p) (is_boundary text p) (le_test least p a.least_is) a.at) a.later

pub ascend_weaker : (text : List ℕ) (n m : ℕ) (ps : List ℕ) → n ≤ m → IsTrue (ascend_on text m ps) → IsTrue (ascend_on text n ps)
ascend_weaker text n m [] le a = refl
ascend_weaker text n m (p ∷ ps) le a =
    let first = ascends_of text m p ps a in
    ascends_from text n p ps (record { least_is = omega (arith, le, first.least_is); at = first.at; later = first.later })

pub boundary_within : (text : List ℕ) (p : ℕ) → IsTrue (is_boundary text p) → p ≤ length text
boundary_within text p at = le_of p (length text) (and_left (nat_le p (length text)) _ at)

-- ---- parts of a text

pub front_utf8 : (front rest : List ℕ) → IsUtf8 (front ++ rest) → IsCharBoundary (front ++ rest) (length front) → IsUtf8 front
front_utf8 front rest u b = subst IsUtf8 (take-append_seam front rest) (IsUtf8-take (front ++ rest) (length front) u b)

pub rest_utf8 : (front rest : List ℕ) → IsUtf8 (front ++ rest) → IsCharBoundary (front ++ rest) (length front) → IsUtf8 rest
rest_utf8 front rest u b = subst IsUtf8 (drop-append_seam front rest) (IsUtf8-drop (front ++ rest) (length front) u b)

pub past_white : (b : ℕ) (bs : List ℕ) → IsUtf8 (b ∷ bs) → b < 128 → IsUtf8 bs
past_white b bs u low = IsUtf8-drop (b ∷ bs) 1 u (IsCharBoundary-after_ascii (b ∷ bs) 0 u (omega arith) low)

at_seam : (front : List ℕ) (b : ℕ) (bs : List ℕ) → get_or (front ++ b ∷ bs) (length front) 0 ≡ b
at_seam [] b bs = refl
at_seam (x ∷ front) b bs = at_seam front b bs

pub seam_boundary : (front : List ℕ) (b : ℕ) (bs : List ℕ) → (128 ≤ b → 192 ≤ b) → IsCharBoundary (front ++ b ∷ bs) (length front)
seam_boundary front b bs first =
    let n : length (front ++ b ∷ bs) ≡ length front + length (b ∷ bs) = length-append front (b ∷ bs) in
    let here = at_seam front b bs in
    (omega (arith, n), λ _ high. subst (λ x. 192 ≤ x) (sym here) (first (subst (λ x. 128 ≤ x) here high)))

-- The NFC of texts in bytes, and of texts that follow one another.
use Rattle.std.proofs.Common.{◌≡◌, ℕ, ◌<◌, ◌==◌, true, List, [], ◌∷◌, ◌++◌, length, chars, flat_map, encode_utf8_all, refl, sym, ap, ◌∙◌, arith, length-append, append-nil}
use Rattle.std.specs.Char.{encode_utf8}
use Rattle.std.specs.Str.{IsUtf8}
use Rattle.std.proofs.lemmas.Slice.Eq.{bytes_eq-Decides}
use Rattle.std.proofs.lemmas.Bool.{and_parts, eqb-true}
use Rattle.std.proofs.lemmas.Str.{chars-append, chars-nil, encodes-append, encodes-chars, length-encode, len_utf8_bounds}
use Rattle.ucd_normal.specs.CanonicalCombiningClass.{canonical_combining_class}
use Rattle.ucd_normal.specs.QuickCheck.{quick_check}
use Rattle.ucd_normal.specs.declared.forms.QuickCheck.{QuickCheck}
use Rattle.ucd_normal.specs.declared.forms.QuickCheck.TheVariants.{Yes, No, Maybe}
use Rattle.unicode_normalization.specs.Decompose.{decompose}
use Rattle.unicode_normalization.specs.Forms.{Nfc, Nfd, nfc, nfd, decomposed}
use Rattle.unicode_normalization.proofs.FormsLemmas.{normalize-boundary, normalize-nil, normalize-Nfd, nfd-nfc}
use Rattle.unicode_normalization.proofs.DecomposeLemmas.{length-from_decompose}
use Rattle.unicode_normalization.proofs.OrderLemmas.{length-canonical_order}
use Rattle.composed_words.specs.Composed.{composed, is_composed}
use Rattle.composed_words.specs.Private.Segments.{is_yes, begin_apart}

-- A text whose characters are in NFC is in NFC.
pub composed_if_nfc : (word : List ℕ) → IsUtf8 word → nfc (chars word) ≡ chars word → composed word ≡ word
unfolding composed
composed_if_nfc word utf8 same = ap encode_utf8_all same ∙ encodes-chars word utf8

pub is_composed_if_nfc : (word : List ℕ) → IsUtf8 word → nfc (chars word) ≡ chars word → is_composed word ≡ true
unfolding is_composed
is_composed_if_nfc word utf8 same = (bytes_eq-Decides (composed word) word).1 (composed_if_nfc word utf8 same)

pub composed_from_test : (word : List ℕ) → is_composed word ≡ true → composed word ≡ word
unfolding is_composed
composed_from_test word same = (bytes_eq-Decides (composed word) word).0 same

pub composed-nil : composed [] ≡ []
unfolding composed
composed-nil = ap encode_utf8_all (ap nfc chars-nil ∙ normalize-nil Nfc)

-- ---- what begins apart

yes_from : (v : QuickCheck) → is_yes v ≡ true → v ≡ Yes
yes_from Yes h = refl
yes_from No h = cc
yes_from Maybe h = cc

nfc_joins : (xs ys : List ℕ) → begin_apart ys ≡ true → nfc (xs ++ ys) ≡ nfc xs ++ nfc ys
nfc_joins xs [] h = ap nfc (append-nil xs) ∙ sym (append-nil (nfc xs)) ∙ ap (λ l. nfc xs ++ l) (sym (normalize-nil Nfc))
nfc_joins xs (y ∷ ys) h =
    let parts = and_parts (canonical_combining_class y == 0) (is_yes (quick_check Nfc y)) h in
    normalize-boundary Nfc xs y ys (eqb-true _ _ parts.0) (yes_from _ parts.1)

-- The NFC of a text that goes on with what begins apart is the NFC of both.
pub composed_joins : (xs ys : List ℕ) → IsUtf8 xs → begin_apart (chars ys) ≡ true → composed (xs ++ ys) ≡ composed xs ++ composed ys
unfolding composed
composed_joins xs ys utf8 apart =
    ap encode_utf8_all (ap nfc (chars-append xs ys utf8) ∙ nfc_joins (chars xs) (chars ys) apart)
    ∙ encodes-append (nfc (chars xs)) (nfc (chars ys))

-- ---- lengths

some_nfd : (c : ℕ) (cs : List ℕ) → 0 < length (nfd (c ∷ cs))
unfolding decomposed
some_nfd c cs =
    let all = ap length (normalize-Nfd (c ∷ cs)) ∙ length-canonical_order (flat_map (decompose Nfd) (c ∷ cs)) in
    omega (arith, all, length-append (decompose Nfd c) (flat_map (decompose Nfd) cs), (length-from_decompose Nfd c _ refl).0)

some_nfc : (cs ds : List ℕ) → 0 < length cs → ds ≡ nfc cs → 0 < length ds
some_nfc [] ds some same = absurd (omega (arith, some))
some_nfc (c ∷ cs) [] some same =
    let none = sym (nfd-nfc (c ∷ cs)) ∙ ap nfd (sym same) ∙ normalize-nil Nfd in
    absurd (omega (arith, some_nfd c cs, ap length none))
some_nfc (c ∷ cs) (d ∷ ds) some same = omega arith

some_chars : (bs cs : List ℕ) → cs ≡ chars bs → IsUtf8 bs → 0 < length bs → 0 < length cs
some_chars bs [] same utf8 some = absurd (omega (arith, some, ap length (sym (ap encode_utf8_all same ∙ encodes-chars bs utf8))))
some_chars bs (c ∷ cs) same utf8 some = omega arith

some_bytes : (cs : List ℕ) → 0 < length cs → 0 < length (encode_utf8_all cs)
some_bytes [] some = absurd (omega (arith, some))
some_bytes (c ∷ cs) some =
    let bounds = len_utf8_bounds c in omega (arith, length-encode c, length-append (encode_utf8 c) (encode_utf8_all cs))

-- The NFC of some text is some text.
pub some_composed : (bs : List ℕ) → IsUtf8 bs → 0 < length bs → 0 < length (composed bs)
unfolding composed
some_composed bs utf8 some = some_bytes _ (some_nfc (chars bs) _ (some_chars bs _ refl utf8 some) refl)

-- The front of what begins apart begins apart, if there is some.
begins_on : (xs ys : List ℕ) → 0 < length xs → begin_apart (xs ++ ys) ≡ true → begin_apart xs ≡ true
begins_on [] ys some apart = absurd (omega (arith, some))
begins_on (x ∷ xs) ys some apart = apart

pub front_apart : (bs ds : List ℕ) → IsUtf8 bs → 0 < length bs → begin_apart (chars (bs ++ ds)) ≡ true → begin_apart (chars bs) ≡ true
front_apart bs ds utf8 some apart =
    begins_on (chars bs) (chars ds) (some_chars bs _ refl utf8 some) (ap begin_apart (sym (chars-append bs ds utf8)) ∙ apart)

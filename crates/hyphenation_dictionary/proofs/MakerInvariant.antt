-- A dictionary made of keys and words has the invariant if each key and each word is allowed.
use Rattle.std.proofs.Common.{◌≡◌, ℕ, arith, List, [], ◌∷◌, map, fold, Option, Some, None, sym, ap, ◌∙◌}
use Rattle.std.specs.Prelude.{IsTrue, All}
use Rattle.std.specs.Ordering.{nat_cmp}
use Rattle.std.specs.Cmp.Lexicographic.{slice_cmp}
use Rattle.std.specs.FinMap as finite
use Rattle.std.specs.FinMap.{get-empty}
use Rattle.std.specs.String.{string_bytes}
use Rattle.std.specs.declared.string.String.{String}
use Rattle.std.specs.declared.vec.Vec.{Vec}
use Rattle.std.proofs.lemmas.Str.{IsUtf8-string_bytes}
use Rattle.std.proofs.lemmas.List.Elements.{All-head, All-tail, All-cons}
use Rattle.std.proofs.lemmas.Bool.{and_parts}
use Rattle.hyphenation_breaks.specs.Break.{Break, Change}
use Rattle.hyphenation_breaks.specs.Dictionary.{TextMap}
use Rattle.hyphenation_breaks.specs.Invariant.{IsPattern, IsException, are_listed, are_entries, has_letter}
use Rattle.hyphenation_dictionary.specs.Maker.{with_pair, map_of_pairs, pair_of, fits_key}
use Rattle.hyphenation_breaks.specs.declared.entry.Entry.{Entry}
use Rattle.hyphenation_dictionary.proofs.TextMaps.{Holds, inserted}

nothing : {X : Type 0} (P : X → Type 0) → All P []
nothing P k d lt = absurd (omega (arith, lt))

folded : {X : Type 0} (P : List ℕ → X → Type 0) (said : List (List ℕ × X)) (texts : TextMap X) → Holds P texts → All (λ s. P s.0 s.1) said → Holds P (fold with_pair texts said)
folded P [] texts holds all = holds
folded P (s ∷ said) texts holds all = folded P said (finite.insert texts s.0 s.1) (inserted P texts s.0 s.1 holds (All-head (λ t. P t.0 t.1) s said all)) (All-tail (λ t. P t.0 t.1) s said all)

nothing_held : {X : Type 0} (P : List ℕ → X → Type 0) → Holds P (finite.empty {X = X})
nothing_held P q x has = absurd (never (sym (get-empty (slice_cmp nat_cmp) q) ∙ has))
  where
    never : None ≡ Some x → ⊥
    never e = cc

keys-are : {C Y Z : Type 0} (change_of : C → Option Change) (ps : List (String Y × Vec (Entry C) Z)) → All (λ p. IsTrue (fits_key change_of (string_bytes p.0) p.1.items)) ps
    → All (λ s. IsPattern change_of s.0 s.1) (map pair_of ps)
keys-are change_of [] all = nothing _
keys-are change_of (p ∷ ps) all =
    let fits = and_parts (has_letter (string_bytes p.0)) (are_entries change_of (string_bytes p.0) p.1.items) (All-head (λ x. IsTrue (fits_key change_of (string_bytes x.0) x.1.items)) p ps all) in
    All-cons (λ s. IsPattern change_of s.0 s.1) (pair_of p) (map pair_of ps) (record { utf8 = IsUtf8-string_bytes p.0; letter = fits.0; ascend = fits.1 }) (keys-are change_of ps (All-tail (λ x. IsTrue (fits_key change_of (string_bytes x.0) x.1.items)) p ps all))

words-are : {B Y Z : Type 0} (break_of : B → Break) (es : List (String Y × Vec B Z)) → All (λ e. IsTrue (are_listed break_of (string_bytes e.0) e.1.items)) es
    → All (λ s. IsException break_of s.0 s.1) (map pair_of es)
words-are break_of [] all = nothing _
words-are break_of (e ∷ es) all = All-cons (λ s. IsException break_of s.0 s.1) (pair_of e) (map pair_of es) (record { utf8 = IsUtf8-string_bytes e.0; ascend = All-head (λ x. IsTrue (are_listed break_of (string_bytes x.0) x.1.items)) e es all }) (words-are break_of es (All-tail (λ x. IsTrue (are_listed break_of (string_bytes x.0) x.1.items)) e es all))

pub keys_hold : {C Y Z : Type 0} (change_of : C → Option Change) (ps : List (String Y × Vec (Entry C) Z)) → All (λ p. IsTrue (fits_key change_of (string_bytes p.0) p.1.items)) ps
    → Holds (IsPattern change_of) (map_of_pairs (map pair_of ps))
keys_hold change_of ps all = folded (IsPattern change_of) (map pair_of ps) finite.empty (nothing_held (IsPattern change_of)) (keys-are change_of ps all)

pub words_hold : {B Y Z : Type 0} (break_of : B → Break) (es : List (String Y × Vec B Z)) → All (λ e. IsTrue (are_listed break_of (string_bytes e.0) e.1.items)) es
    → Holds (IsException break_of) (map_of_pairs (map pair_of es))
words_hold break_of es all = folded (IsException break_of) (map pair_of es) finite.empty (nothing_held (IsException break_of)) (words-are break_of es all)

-- The map after one more pair of the list.
pub one_more : {X Y Z : Type 0} (old new : TextMap (List X)) (x : String Y × Vec X Z) (left rest : List (String Y × Vec X Z)) (all : TextMap (List X))
    → new ≡ finite.insert old (string_bytes x.0) x.1.items → left ≡ x ∷ rest → fold with_pair old (map pair_of left) ≡ all → fold with_pair new (map pair_of rest) ≡ all
one_more {X} {Y} {Z} old new x left rest all added step so_far =
    ap (λ (m : TextMap (List X)). fold with_pair m (map pair_of rest)) added ∙ sym (ap (λ (xs : List (String Y × Vec X Z)). fold with_pair old (map pair_of xs)) step) ∙ so_far

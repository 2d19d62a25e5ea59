-- Levels in which keys have a pattern in common.
use Rattle.std.proofs.Common.{◌≡◌, ◌≢◌, ◌∙◌, ◌==◌, ◌≤◌, ap, sym, subst, refl, ℕ, ◌<◌, true, false, List, [], ◌∷◌, filter, length, take, get_or, None, Some, Option, nat_eq, arith}
use Rattle.std.specs.Prelude.{unwrap_or, is_some}
use Rattle.std.specs.Cmp.Lexicographic.{pointwise, bytes_decides}
use Rattle.std.proofs.lemmas.List.{length-take}
use Rattle.hyphenation_breaks.specs.Ascii.{digit_zero}
use Rattle.hyphenation_breaks.specs.Dictionary.{TextMap}
use Rattle.hyphenation_dictionary.specs.Maker.{with_pair}
use Rattle.hyphenation_trie.specs.Trie.{Tree, entries_of_node}
use Rattle.libhyphen_files.specs.Levels.{HasNoChanges, Level}
use Rattle.libhyphen_files.specs.Patterns.{Change, Pattern, digits_from, no_digit}
use Rattle.libhyphen_files.specs.Private.Growing.{HasDigits, unchanging, with_spelt}
use Rattle.libhyphen_files.proofs.ChangesLemmas.{inserted_without_change}

pub entries_with : (t : Tree Pattern) (node : ℕ) (digits : List ℕ) → HasDigits t node digits → entries_of_node t node ≡ unchanging digits ∷ []
entries_with t node digits has = ap (λ o. unwrap_or o []) has

-- The level with the pattern that a node with these digits has, under one more key.
pub with_shared : (level : Level) (patterns : TextMap (List Pattern)) (t : Tree Pattern) (node count : ℕ) (part key digits : List ℕ) → count ≢ 0 → count ≤ length key
    → take count key ≡ filter no_digit part → HasDigits t node digits → digits ≡ digits_from digit_zero part
    → patterns ≡ with_pair level.patterns (take count key, entries_of_node t node)
    → record level { patterns = patterns } ≡ with_spelt level part
with_shared level patterns t node count part key digits some within spelt has are added =
    let filled : (length (filter no_digit part) == 0) ≡ false = grind (arith, ap length spelt, length-take count key) in
    let es = entries_of_node t node in
    ap (λ (p : TextMap (List Pattern)). record level { patterns = p })
    (added ∙ ap (λ k. with_pair level.patterns (k, es)) spelt
    ∙ ap (λ (e : List Pattern). with_pair level.patterns (filter no_digit part, e)) (entries_with t node digits has ∙ ap (λ d. unchanging d ∷ []) are))
    ∙ sym (rw filled refl)

-- Such a level has no changes if it had none.
pub shared_without_change : (before after : TextMap (List Pattern)) (t : Tree Pattern) (node : ℕ) (key digits : List ℕ) → HasNoChanges before → HasDigits t node digits
    → after ≡ with_pair before (key, entries_of_node t node) → HasNoChanges after
shared_without_change before after t node key digits none has added =
    subst (λ m. HasNoChanges m) (sym (added ∙ ap (λ (e : List Pattern). with_pair before (key, e)) (entries_with t node digits has)))
    (inserted_without_change before key (unchanging digits) none refl)

-- A list of one element.
pub one_item : {X : Type 0} (xs : List X) (x d : X) → 1 ≤ length xs → length xs < 2 → x ≡ get_or xs 0 d → xs ≡ x ∷ []
one_item [] x d some few is = absurd (omega (arith, some))
one_item (y ∷ []) x d some few is = ap (λ z. z ∷ []) (sym is)
one_item (y ∷ z ∷ zs) x d some few is = absurd (omega (arith, few))

-- A pattern by its parts.
pub unchanging_is : (digits : List ℕ) (change : Option Change) (others : List ℕ) → is_some change ≡ false → pointwise nat_eq digits others ≡ true
    → ◌≡◌ {A = Pattern} (record { digits = digits; change = change }) (unchanging others)
unchanging_is digits None others none same = ap (λ d. unchanging d) ((bytes_decides digits others).0 same)
unchanging_is digits (Some c) others none same = absurd cc

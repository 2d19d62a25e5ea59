-- Levels without changes.
use Rattle.std.proofs.Common.{◌≡◌, ◌∙◌, ap, sym, subst, ℕ, Bool, true, false, cond, List, [], ◌∷◌, length, Some, None, arith}
use Rattle.std.specs.Ordering.{nat_cmp, eq_by_cmp}
use Rattle.std.specs.Option.{option_and_then}
use Rattle.std.specs.List.{slice_get}
use Rattle.std.specs.Cmp.Lexicographic.{slice_cmp, nat_list_cmp_total}
use Rattle.std.specs.FinMap as finite
use Rattle.std.specs.FinMap.{get-insert, get-from_entries}
use Rattle.hyphenation_breaks.specs.Dictionary.{TextMap}
use Rattle.hyphenation_dictionary.specs.Parts.{patterns_of}
use Rattle.hyphenation_trie.specs.Trie.{Tree, EachBeginsKey}
use Rattle.libhyphen_files.specs.Levels.{HasNoChanges, pattern_at}
use Rattle.libhyphen_files.specs.Patterns.{Pattern}

-- The trie without keys.
abbrev pub no_keys : Tree Pattern
no_keys = record { texts = [] ∷ []; entries = None ∷ [] }

pub no_keys_begin : EachBeginsKey no_keys
no_keys_begin j some within = absurd (omega (arith, some, within))

pub no_keys_change : HasNoChanges (patterns_of no_keys)
no_keys_change key pattern found =
    let no_pattern : pattern_at (patterns_of no_keys) key ≡ None = ap (option_and_then (λ f. slice_get f 0)) (get-from_entries nat_list_cmp_total [] key) in
    absurd (none_is_some (sym no_pattern ∙ found))
  where
    none_is_some : {X : Type 0} {x : X} → None ≡ Some x → ⊥
    none_is_some e = cc

-- One more pattern without a change.
pub inserted_without_change : (patterns : TextMap (List Pattern)) (key : List ℕ) (pattern : Pattern) → HasNoChanges patterns → pattern.change ≡ None → HasNoChanges (finite.insert patterns key (pattern ∷ []))
inserted_without_change patterns key pattern before none q p found =
    by (eq_by_cmp (slice_cmp nat_cmp) q key) (sym (ap (option_and_then (λ f. slice_get f 0)) (get-insert nat_list_cmp_total patterns key (pattern ∷ []) q)) ∙ found)
  where
    by : (t : Bool) → option_and_then (λ f. slice_get f 0) (cond t (Some (pattern ∷ [])) (finite.get patterns q)) ≡ Some p → p.change ≡ None
    by true h =
        let same : pattern ≡ p = cc in
        subst (λ (x : Pattern). x.change ≡ None) same none
    by false h = before q p h

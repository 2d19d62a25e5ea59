-- Remarks that are made one after the other, and the keys of patterns.
use Rattle.std.proofs.Common.{◌≡◌, ◌∙◌, ◌<◌, ◌+◌, ℕ, zero, suc, Bool, true, false, List, [], ◌∷◌, ◌++◌, fold, length, map, drop, get_or, refl, sym, ap, subst, Option, Some, if◌then◌else◌, add-one, drop-cons, nat_eq, arith}
use Rattle.std.specs.Prelude.{IsSome}
use Rattle.std.specs.Cmp.Lexicographic.{bytes_decides, pointwise}
use Rattle.std.proofs.lemmas.List.Sums.{fold-append}
use Rattle.hyphenation_breaks.specs.Dictionary.{Patterns}
use Rattle.pattern_results.specs.Notes.{Remark, with_remark}
use Rattle.pattern_results.specs.declared.notes.Note.{Note}
use Rattle.libreoffice_files.specs.Notes as notes
use Rattle.libreoffice_files.specs.Notes.{plain_entries, with_pattern}
use Rattle.libreoffice_files.specs.Private.Views.{as_on_line}
use Rattle.libreoffice_files.specs.declared.dic_notes.LinePattern.{LinePattern}

pub noted_on : (notes : List Note) (one rest : List Remark) → fold with_remark (fold with_remark notes one) rest ≡ fold with_remark notes (one ++ rest)
noted_on notes one rest = sym (fold-append with_remark notes one rest)

-- the patterns from one on
pub one_and_after : (patterns : List LinePattern) (i : ℕ) (one : LinePattern) → i < length patterns → one ≡ get_or patterns i one
    → map as_on_line (drop i patterns) ≡ as_on_line one ∷ map as_on_line (drop (i + 1) patterns)
one_and_after patterns i one lt is =
    let split : drop i patterns ≡ get_or patterns i one ∷ drop (i + 1) patterns = rw (add-one, drop-cons patterns i one) in
    ap (map as_on_line) split ∙ ap (λ (x : LinePattern). as_on_line x ∷ map as_on_line (drop (i + 1) patterns)) (sym is)

-- ---- Keys.

some_or : {X : Type 0} (is_same : Bool) (x : X) (old : Option X) → IsSome old → IsSome (if is_same then Some x else old)
some_or true x old some = refl
some_or false x old some = some

some_stays : (keys : Patterns (Unit {0})) (patterns : List notes.LinePattern) (text : List ℕ) → IsSome (keys text) → IsSome (fold with_pattern keys patterns text)
some_stays keys [] text some = some
some_stays keys (one ∷ patterns) text some =
    some_stays (with_pattern keys one) patterns text (some_or (pointwise nat_eq one.key text) (plain_entries one.spelt.values) (keys text) some)

own_key : (keys : Patterns (Unit {0})) (one : LinePattern) → IsSome (with_pattern keys (as_on_line one) one.key.items)
own_key keys one =
    subst (λ (is_same : Bool). IsSome (if is_same then Some (plain_entries one.pattern.values.items) else keys one.key.items))
    (sym ((bytes_decides one.key.items one.key.items).1 refl)) refl

-- the key of each pattern is among the keys
pub key_stays : (keys : Patterns (Unit {0})) (patterns : List LinePattern) (i : ℕ) (one : LinePattern) → i < length patterns → one ≡ get_or patterns i one
    → IsSome (fold with_pattern keys (map as_on_line patterns) one.key.items)
key_stays keys [] i one lt is = absurd (omega (arith, lt))
key_stays keys (first ∷ patterns) zero one lt is =
    some_stays (with_pattern keys (as_on_line first)) (map as_on_line patterns) one.key.items
    (subst (λ (it : LinePattern). IsSome (with_pattern keys (as_on_line first) it.key.items)) (sym is) (own_key keys first))
key_stays keys (first ∷ patterns) (suc i) one lt is = key_stays (with_pattern keys (as_on_line first)) patterns i one (omega (arith, lt)) is

-- ---- One more.

-- what one remark more gives, by what is to come
pub noted_next : (before now all : List Note) (one rest remarks : List Remark)
    → now ≡ fold with_remark before one → fold with_remark before remarks ≡ all → remarks ≡ one ++ rest → fold with_remark now rest ≡ all
noted_next before now all one rest remarks step so_far split =
    ap (λ (notes : List Note). fold with_remark notes rest) step ∙ noted_on before one rest ∙ ap (fold with_remark before) (sym split) ∙ so_far

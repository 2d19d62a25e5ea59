-- Soft hyphens that are put in come out again.
use Rattle.std.proofs.Common.{◌≡◌, ℕ, ◌+◌, ◌-◌, ◌≤◌, ◌||◌, Bool, true, false, not, cond, List, [], ◌∷◌, ◌++◌, map, length, take, drop, filter, chars, IsUtf8, refl, sym, ap, subst, ◌∙◌, arith, append_assoc, append-nil, add-zero}
use Rattle.std.specs.List.{concat, slice_range, list_any}
use Rattle.std.specs.Str.{IsCharBoundary, encode_utf8_all}
use Rattle.std.proofs.Math.Nat.{sub-zero}
use Rattle.std.proofs.lemmas.Bool.{both_ways}
use Rattle.std.proofs.lemmas.List.{drop_all}
use Rattle.std.proofs.lemmas.List.Elements.{filter-append}
use Rattle.std.proofs.lemmas.List.Folds.{drop_split}
use Rattle.std.proofs.lemmas.Str.{IsUtf8-between, IsCharBoundary-start, chars-append, chars-encodes, encodes-append, encodes-chars}
use Rattle.hyphenation_breaks.specs.Break.{Break, plain_break}
use Rattle.hyphenation_segments.specs.Fits.{Fits, FitsFrom}
use Rattle.hyphenation_segments.specs.Laws.{JoinsToMarkedText, with_marks}
use Rattle.hyphenation_segments.specs.Segments.{segment_between, segments, segments_after, mark_if_more, marked_segments}
use Rattle.soft_hyphens.specs.Removed.{is_soft_hyphen, removed, soft_hyphen}
use Rattle.soft_hyphens.specs.Laws.{MarksComeOut, TextComesBack}

abbrev is_kept : ℕ → Bool
is_kept c = not (is_soft_hyphen c)

-- Soft hyphens are taken out of two texts, one after the other.
removed_append : (xs ys : List ℕ) → IsUtf8 xs → removed (xs ++ ys) ≡ removed xs ++ removed ys
removed_append xs ys u =
    ap (λ cs. encode_utf8_all (filter is_kept cs)) (chars-append xs ys u)
    ∙ ap encode_utf8_all (filter-append is_kept (chars xs) (chars ys))
    ∙ encodes-append (filter is_kept (chars xs)) (filter is_kept (chars ys))

-- The segment between plain breaks is a slice of the text.
plain_segment : (text : List ℕ) (a b : ℕ) → segment_between text (plain_break a) (plain_break b) ≡ slice_range text a b
plain_segment text a b = rw (add-zero a, sub-zero b, append-nil (take (b - a) (drop a text))) refl

rest_is : (text : List ℕ) (a : ℕ) → a ≤ length text → slice_range text a (length text) ≡ drop a text
rest_is text a h =
    let none : drop (length text) text ≡ [] = drop_all (length text) text (omega arith) in
    sym (drop_split text a (length text) h ∙ ap (λ l. slice_range text a (length text) ++ l) none ∙ append-nil (slice_range text a (length text)))

after : (a p : ℕ) → a ≤ p - 0 → a ≤ p
after a p h = omega (arith, h)

more_come : (mark text : List ℕ) (last : Break) (breaks : List Break) → mark_if_more mark (segments_after text last breaks) ≡ mark
more_come mark text last [] = refl
more_come mark text last (b ∷ bs) = refl

soft_hyphen_encoded : encode_utf8_all (0xAD ∷ []) ≡ soft_hyphen
unfolding lib.Utf8.encode
soft_hyphen_encoded = refl

soft_hyphen_is_text : IsUtf8 soft_hyphen
soft_hyphen_is_text = (0xAD ∷ [], (refl, soft_hyphen_encoded))

-- Nothing is left of a soft hyphen.
nothing_left : removed soft_hyphen ≡ []
nothing_left =
    let one : chars soft_hyphen ≡ 0xAD ∷ [] = ap chars (sym soft_hyphen_encoded) ∙ chars-encodes (0xAD ∷ []) refl in
    ap (λ cs. encode_utf8_all (filter is_kept cs)) one

come_out : (text : List ℕ) (a least : ℕ) (places : List ℕ) → IsUtf8 text → IsCharBoundary text a → FitsFrom text a least (map plain_break places)
    → removed (concat (marked_segments soft_hyphen (segments_after text (plain_break a) (map plain_break places)))) ≡ removed (drop a text)
come_out text a least [] u at f =
    let whole = segment_between text (plain_break a) (plain_break (length text)) in
    ap removed (append-nil (whole ++ []) ∙ append-nil whole ∙ plain_segment text a (length text) ∙ rest_is text a at.0)
come_out text a least (p ∷ ps) u at f =
    let ascends : a ≤ p = after a p f.0.apart in
    let segment = slice_range text a p in
    let others = concat (marked_segments soft_hyphen (segments_after text (plain_break p) (map plain_break ps))) in
    let fit : FitsFrom text p (p + 1) (map plain_break ps) = subst (λ n. FitsFrom text n (p + 1) (map plain_break ps)) (add-zero p) f.1 in
    let is_text : IsUtf8 segment = IsUtf8-between text a p u ascends at f.0.place in
    let rest : removed others ≡ removed (drop p text) = come_out text p (p + 1) ps u f.0.place fit in
    let left : removed ((segment ++ soft_hyphen) ++ others) ≡ removed segment ++ removed (drop p text) =
    ap removed (append_assoc segment soft_hyphen others) ∙ removed_append segment (soft_hyphen ++ others) is_text
    ∙ ap (λ l. removed segment ++ l) (removed_append soft_hyphen others soft_hyphen_is_text ∙ ap (λ l. l ++ removed others) nothing_left ∙ rest) in
    let right : removed (drop a text) ≡ removed segment ++ removed (drop p text) =
    ap removed (drop_split text a p ascends) ∙ removed_append segment (drop p text) is_text in
    rw (plain_segment text a p, more_come soft_hyphen text (plain_break p) (map plain_break ps)) (left ∙ sym right)

pub marks_come_out : JoinsToMarkedText → MarksComeOut
marks_come_out joins text places u fits =
    ap removed (sym (joins soft_hyphen text places fits)) ∙ come_out text 0 0 places u (IsCharBoundary-start text u) fits

all_kept : (cs : List ℕ) → list_any is_soft_hyphen cs ≡ false → filter is_kept cs ≡ cs
all_kept [] none = refl
all_kept (c ∷ cs) none =
    elim (is_soft_hyphen c) as (λ t. (t || list_any is_soft_hyphen cs) ≡ false → cond (not t) (c ∷ filter is_kept cs) (filter is_kept cs) ≡ c ∷ cs) [
      | true ↦ λ e. absurd (both_ways true e refl)
      | false ↦ λ e. ap (λ s. c ∷ s) (all_kept cs e)
    ] none

pub text_comes_back : JoinsToMarkedText → TextComesBack
text_comes_back joins text places u fits none =
    marks_come_out joins text places u fits ∙ ap encode_utf8_all (all_kept (chars text) none) ∙ encodes-chars text u

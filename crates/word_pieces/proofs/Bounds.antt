-- The pieces of a text on the two sides of a bound.

use Rattle.std.proofs.Common.{◌≡◌, ℕ, ◌+◌, ◌-◌, ◌<◌, ◌≤◌, Bool, true, false, List, [], ◌∷◌, ◌++◌, map, reverse, length, take, slice_index, slice_range, IsUtf8, IsCharBoundary, refl, sym, ap, ap₂, ◌∙◌, arith, append_assoc, append-nil, length-append}
use Rattle.std.proofs.lemmas.List.{map-append, reverse-append}
use Rattle.std.proofs.lemmas.List.Elements.{All-nil, All-cons}
use Rattle.std.proofs.lemmas.List.Folds.{drop_split}
use Rattle.std.proofs.lemmas.Str.{chars-append, IsUtf8-between, IsUtf8-take, IsCharBoundary-end, IsCharBoundary-before_ascii}
use Rattle.std.specs.List.{All, concat}
use Rattle.std.specs.Prelude.{encode_utf8_all}
use Rattle.std.specs.Str.{chars}
use Rattle.unicode_segmentation.specs.Segments.{Rule, chars_before, chars_from, breaks_at, cut, segments_between, with_offsets}
use Rattle.unicode_segmentation.specs.Word.{is_word_break, significant, starts_with_half_flag}
use Rattle.unicode_segmentation.proofs.SegmentsLemmas.{attach, concat-segments_between}
use Rattle.unicode_segmentation.proofs.TextLemmas.{length-slice_range, take_split, slice_range_split}
use Rattle.word_pieces.specs.declared.kinds.ByteKind.TheVariants.{Letter, Space}
use Rattle.word_pieces.specs.Pieces.{EndsBy, PassesBefore}
use Rattle.word_pieces.specs.Private.Kinds.{kind_of_byte, is_near, verdict}
use Rattle.word_pieces.specs.Private.Walks.{IsPlainBound}
use Rattle.word_pieces.proofs.PlainWalks.{IsCharAt-near, near_byte}
use Rattle.word_pieces.proofs.Verdicts.{no_flag, is_word_break-verdict}

-- The characters of the second list in reverse, and then the first.
abbrev onto : List ℕ → List ℕ → List ℕ
onto [] before = before
onto (c ∷ cs) before = onto cs (c ∷ before)

onto-reverse : (cs before : List ℕ) → onto cs (reverse before) ≡ reverse (before ++ cs)
onto-reverse [] before = ap reverse (sym (append-nil before))
onto-reverse (c ∷ cs) before =
    ap (onto cs) (sym (reverse-append before (c ∷ []))) ∙ onto-reverse cs (before ++ c ∷ []) ∙ ap reverse (append_assoc before (c ∷ []) cs)

attach-nil : (b : Bool) (x : List ℕ) → attach b x [] ≡ x ∷ []
attach-nil true x = refl
attach-nil false x = refl

attach_nonempty : (b : Bool) (x : List ℕ) (ps : List (List ℕ)) → (q : List ℕ) × (qs : List (List ℕ)) × (attach b x ps ≡ q ∷ qs)
attach_nonempty true x ps = (x, ps, refl)
attach_nonempty false x [] = (x, [], refl)
attach_nonempty false x (p ∷ ps) = (x ++ p, ps, refl)

attach-append : (b : Bool) (x p : List ℕ) (ps qs : List (List ℕ)) → attach b x ((p ∷ ps) ++ qs) ≡ attach b x (p ∷ ps) ++ qs
attach-append true x p ps qs = refl
attach-append false x p ps qs = refl

-- Characters are cut at a bound, and each side by itself.
cut-split : (rule : Rule) (before cs ds after : List ℕ) → rule (onto cs before) (ds ++ after) ≡ true
    → cut rule before (cs ++ ds) after ≡ cut rule before cs (ds ++ after) ++ cut rule (onto cs before) ds after
unfolding cut
cut-split rule before [] ds after broken = refl
cut-split rule before (c ∷ []) ds after broken =
    ap (λ b. attach b (c ∷ []) (cut rule (c ∷ before) ds after)) broken
    ∙ ap (λ ps. ps ++ cut rule (c ∷ before) ds after) (sym (attach-nil (rule (c ∷ before) (ds ++ after)) (c ∷ [])))
cut-split rule before (c ∷ (d ∷ cs)) ds after broken =
    let rest = cut rule (onto cs (d ∷ (c ∷ before))) ds after in
    let b = rule (c ∷ before) (d ∷ (cs ++ (ds ++ after))) in
    let inner = attach_nonempty (rule (d ∷ (c ∷ before)) (cs ++ (ds ++ after))) (d ∷ []) (cut rule (d ∷ (c ∷ before)) cs (ds ++ after)) in
    ap₂ (λ t ps. attach (rule (c ∷ before) (d ∷ t)) (c ∷ []) ps) (append_assoc cs ds after) (cut-split rule (c ∷ before) (d ∷ cs) ds after broken)
    ∙ ap (λ ps. attach b (c ∷ []) (ps ++ rest)) inner.2
    ∙ attach-append b (c ∷ []) inner.0 inner.1 rest
    ∙ ap (λ ps. attach b (c ∷ []) ps ++ rest) (sym inner.2)

with_offsets-append : (n : ℕ) (ps qs : List (List ℕ)) → with_offsets n (ps ++ qs) ≡ with_offsets n ps ++ with_offsets (n + length (concat ps)) qs
unfolding with_offsets
with_offsets-append n [] qs = let same : n ≡ n + 0 = omega arith in ap (λ k. with_offsets k qs) same
with_offsets-append n (p ∷ ps) qs =
    let same : n + length p + length (concat ps) ≡ n + length (p ++ concat ps) = omega (arith, length-append p (concat ps)) in
    ap (λ t. (n, p) ∷ t) (with_offsets-append (n + length p) ps qs ∙ ap (λ k. with_offsets (n + length p) ps ++ with_offsets k qs) same)

all_end_by : (n place : ℕ) (ps : List (List ℕ)) → n + length (concat ps) ≤ place → All (EndsBy place) (with_offsets n ps)
unfolding with_offsets
all_end_by n place [] le = All-nil (EndsBy place)
all_end_by n place (p ∷ ps) le =
    All-cons (EndsBy place) (n, p) (with_offsets (n + length p) ps) (omega (arith, length-append p (concat ps)))
    (all_end_by (n + length p) place ps (omega (arith, length-append p (concat ps))))

module _ (s : List ℕ) (u : IsUtf8 s) where
  chars_from_split : (j to : ℕ) → j ≤ to → IsCharBoundary s j → IsCharBoundary s to → chars (slice_range s j to) ++ chars_from s to ≡ chars_from s j
  chars_from_split j to le start end = sym (ap chars (drop_split s j to le) ∙ chars-append _ _ (IsUtf8-between s j to u le start end))

  chars_before_split : (from i : ℕ) → from ≤ i → IsCharBoundary s from → onto (chars (slice_range s from i)) (chars_before s from) ≡ chars_before s i
  chars_before_split from i le start =
      onto-reverse _ (chars (take from s)) ∙ ap reverse (sym (ap chars (take_split s from i le) ∙ chars-append _ _ (IsUtf8-take s from u start)))

  segments_between-split : (rule : Rule) (from j to : ℕ) → from ≤ j → j ≤ to → IsCharBoundary s from → IsCharBoundary s j → IsCharBoundary s to
      → breaks_at rule s j ≡ true → segments_between rule s from to ≡ segments_between rule s from j ++ segments_between rule s j to
  unfolding segments_between
  segments_between-split rule from j to low high start middle end broken =
      let cs = chars (slice_range s from j) in
      let ds = chars (slice_range s j to) in
      let before = chars_before s from in
      let after = chars_from s to in
      let behind : ds ++ after ≡ chars_from s j = chars_from_split j to high middle end in
      let ahead : onto cs before ≡ chars_before s j = chars_before_split from j low start in
      let whole : chars (slice_range s from to) ≡ cs ++ ds =
      ap chars (slice_range_split s from j to low high) ∙ chars-append _ _ (IsUtf8-between s from j u low start middle) in
      ap (λ t. map encode_utf8_all (cut rule before t after)) whole
      ∙ ap (map encode_utf8_all) (cut-split rule before cs ds after (ap₂ rule ahead behind ∙ broken))
      ∙ map-append encode_utf8_all (cut rule before cs (ds ++ after)) (cut rule (onto cs before) ds after)
      ∙ ap₂ (λ a b. map encode_utf8_all (cut rule before cs a) ++ map encode_utf8_all (cut rule b ds after)) behind ahead

  -- The pieces before a bound are passed.
  pub PassesBefore-bound : (from at place : ℕ) → from ≤ at → at ≤ place → IsCharBoundary s from → IsPlainBound s at
      → PassesBefore place (with_offsets from (segments_between is_word_break s from (length s))) (with_offsets at (segments_between is_word_break s at (length s)))
  PassesBefore-bound from at place low high start bound =
      let inside : at ≤ length s = bound.0.0 in
      let first = segments_between is_word_break s from at in
      let rest = segments_between is_word_break s at (length s) in
      let wide : from + length (concat first) ≡ at =
      omega (arith, ap length (concat-segments_between is_word_break s u from at low start bound.0), length-slice_range s from at inside) in (
        with_offsets from first,
        ap (with_offsets from) (segments_between-split is_word_break from at (length s) low inside start bound.0 (IsCharBoundary-end s) bound.1)
            ∙ with_offsets-append from first rest ∙ ap (λ k. with_offsets from first ++ with_offsets k rest) wide,
        all_end_by from place first (omega arith),
      )

  pub IsPlainBound-space_letter : (at : ℕ) → 0 < at → at < length s → kind_of_byte (slice_index s (at - 1)) ≡ Space
      → kind_of_byte (slice_index s at) ≡ Letter → IsPlainBound s at
  IsPlainBound-space_letter at some inside space letter =
      let i = at - 1 in
      let next : i + 1 ≡ at = omega arith in
      let c = slice_index s i in
      let d = slice_index s at in
      let c_near : is_near (kind_of_byte c) ≡ true = ap is_near space in
      let d_near : is_near (kind_of_byte d) ≡ true = ap is_near letter in
      let c_kind = near_byte c c_near in
      let d_kind = near_byte d d_near in
      let c_here = IsCharAt-near s u i (omega arith) (IsCharBoundary-before_ascii s i (omega arith) c_kind.0) c_near in
      let boundary = IsCharBoundary-before_ascii s at inside d_kind.0 in
      let d_here = IsCharAt-near s u at inside boundary d_near in
      let before : chars_before s at ≡ c ∷ chars_before s i = ap (chars_before s) (sym next) ∙ c_here.before in
      let c_value = sym c_kind.1 in (
        boundary,
        ap₂ is_word_break before d_here.from
            ∙ is_word_break-verdict c d (chars_before s i) (chars_from s (at + 1)) true (ap is_near c_value ∙ c_near)
            (ap₂ verdict (c_value ∙ space) (sym d_kind.1 ∙ letter)),
        ap (λ cs. starts_with_half_flag (significant cs)) before
            ∙ no_flag c (chars_before s i) (ap is_near c_value ∙ c_near),
      )

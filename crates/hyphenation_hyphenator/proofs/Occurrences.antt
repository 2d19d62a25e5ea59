-- Values above 0 stand on character boundaries of the word.
use Rattle.std.proofs.Common.{◌≡◌, ℕ, zero, suc, ◌+◌, ◌-◌, ◌<◌, ◌≤◌, ◌&&◌, nat_le, true, List, [], ◌∷◌, ◌++◌, length, map, take, drop, get_or, Option, refl, sym, ap, subst, ◌∙◌, arith, add-one, inl, inr}
use Rattle.std.specs.List.{slice_index, slice_range}
use Rattle.std.specs.Str.{IsUtf8, IsCharBoundary}
use Rattle.std.proofs.lemmas.Bool.{and_parts}
use Rattle.std.proofs.lemmas.List.{get_or-take, get_or-drop, take-take, length-take, length-drop, length-append, get_or_append_left}
use Rattle.std.proofs.lemmas.Str.{IsUtf8-append, IsUtf8-take, IsUtf8-drop, IsCharBoundary-start, IsCharBoundary-from_take, IsCharBoundary-from_rest, encode_ascii, IsUtf8-encode}
use Rattle.hyphenation_breaks.specs.Break.{Break, Change, ascend_on, is_boundary}
use Rattle.hyphenation_breaks.specs.Dictionary.{Contents, entries_of_keys}
use Rattle.hyphenation_breaks.specs.Invariant.{IsDictionary}
use Rattle.hyphenation_breaks.specs.declared.entry.Entry.{Entry}
use Rattle.hyphenation_score.specs.Scoring.{frame, value_at}
use Rattle.hyphenation_score.specs.Laws.{ValueIsBorne}
use Rattle.hyphenation_score.specs.Winners.{Bears}
use Rattle.hyphenation_hyphenator.proofs.Ascending.{boundary_from_test}

-- The boundaries of a text are boundaries of a longer text in which it occurs.
pub occurrence_boundary : (framed : List ℕ) (start end place : ℕ) → IsUtf8 framed → start < end → end ≤ length framed
    → IsUtf8 (slice_range framed start end) → IsCharBoundary (slice_range framed start end) place → IsCharBoundary framed (start + place)
occurrence_boundary framed start end place u some within v b =
    let key = slice_range framed start end in
    let rest = drop start framed in
    let rest_length : length rest ≡ length framed - start = length-drop start framed in
    let key_length : length key ≡ end - start = omega (arith, length-take (end - start) rest) in
    let first : slice_index key 0 ≡ slice_index framed start = get_or-take (end - start) rest 0 0 (omega arith) ∙ get_or-drop start framed 0 0 ∙ ap (λ i. slice_index framed i) (omega arith) in
    let lead = IsCharBoundary-start key v in
    let at_start : IsCharBoundary framed start = (omega arith, λ _ k. let high = lead.1 (omega arith) (omega arith) in omega arith) in
    let in_key : place ≤ length key = b.0 in
    let front : take place key ≡ take place rest = take-take place (end - start) rest (omega arith) in
    let in_rest : IsCharBoundary rest place = IsCharBoundary-from_take rest place (IsUtf8-drop framed start u at_start) (omega arith) (subst IsUtf8 front (IsUtf8-take key place v b)) in
    IsCharBoundary-from_rest framed start place (omega arith) in_rest

dot_is_utf8 : IsUtf8 (46 ∷ [])
dot_is_utf8 = subst IsUtf8 (encode_ascii 46 (omega arith)) (IsUtf8-encode 46 refl)

pub frame_is_utf8 : (word : List ℕ) → IsUtf8 word → IsUtf8 (frame word)
frame_is_utf8 word u = IsUtf8-append (46 ∷ []) (word ++ 46 ∷ []) dot_is_utf8 (IsUtf8-append word (46 ∷ []) u dot_is_utf8)

pub unframed_boundary : (word : List ℕ) (p : ℕ) → p ≤ length word → IsCharBoundary (frame word) (p + 1) → IsCharBoundary word p
unframed_boundary word p within b = (
  within,
  λ lt k.
      let same : slice_index (frame word) (p + 1) ≡ slice_index word p = ap (λ i. slice_index (frame word) i) (add-one p) ∙ get_or_append_left word (46 ∷ []) 0 p lt in
      let long : length (frame word) ≡ length word + 2 = omega (arith, length-append word (46 ∷ [])) in
      let high = b.1 (omega arith) (omega arith) in omega arith,
)

entry_boundary : {C : Type 0} (key : List ℕ) (least : ℕ) (entries : List (Entry C)) (i : ℕ) (entry : Entry C)
    → ascend_on key least (map (λ e. e.place) entries) ≡ true → i < length entries → entry ≡ get_or entries i entry → IsCharBoundary key entry.place
entry_boundary {C} key least [] i entry h lt is = absurd (omega arith)
entry_boundary {C} key least (e ∷ es) i entry h lt is =
    let all = and_parts (nat_le least e.place && is_boundary key e.place) (ascend_on key (e.place + 1) (map (λ e. e.place) es)) h in
    let here = and_parts (nat_le least e.place) (is_boundary key e.place) all.0 in
    elim i as (λ i. i < length (e ∷ es) → entry ≡ get_or (e ∷ es) i entry → IsCharBoundary key entry.place) [
      | zero ↦ λ _ at. subst (λ (x : Entry C). IsCharBoundary key x.place) (sym at) (boundary_from_test key e.place here.1)
      | suc i ↦ λ lt there. entry_boundary key (e.place + 1) es i entry all.1 (omega arith) there
    ] lt is

-- An entry that bears on a place of a word bears on a character boundary.
bears_boundary : {C B : Type 0} (change_of : C → Option Change) (break_of : B → Break) (contents : Contents C B) (word : List ℕ) (p start end : ℕ) (entry : Entry C)
    → IsDictionary change_of break_of contents → IsUtf8 word → p ≤ length word → Bears (entries_of_keys contents) word p start end entry → IsCharBoundary word p
bears_boundary change_of break_of contents word p start end entry kept u within bears =
    let key = slice_range (frame word) start end in
    let pattern = kept.patterns key bears.entries bears.key in
    let places = (and_parts (ascend_on key 0 (map (λ e. e.place) bears.entries)) _ pattern.ascend).0 in
    let at_key = entry_boundary key 0 bears.entries bears.among.0 entry places bears.among.1.0 bears.among.1.1 in
    let at_frame = occurrence_boundary (frame word) start end entry.place (frame_is_utf8 word u) bears.not_empty bears.within pattern.utf8 at_key in
    unframed_boundary word p within (subst (IsCharBoundary (frame word)) bears.place at_frame)

-- A place inside of a character has the value 0.
pub value_boundary : {C B : Type 0} (change_of : C → Option Change) (break_of : B → Break) (contents : Contents C B) (word : List ℕ) (p : ℕ)
    → ValueIsBorne C → IsDictionary change_of break_of contents → IsUtf8 word → p ≤ length word → 0 < value_at (entries_of_keys contents) word p → IsCharBoundary word p
value_boundary change_of break_of contents word p borne_by kept u within some =
    elim (borne_by (entries_of_keys contents) word p) [
      | inl nothing ↦ absurd (omega (arith, nothing))
      | inr borne ↦ bears_boundary change_of break_of contents word p borne.0 borne.1 borne.2 kept u within borne.3
    ]

-- The frame of a word without digits, its digits when all of it is read, and frames in which no key begins.
use Rattle.std.proofs.Common.{◌≡◌, ℕ, zero, suc, ◌+◌, ◌-◌, ◌<◌, ◌≤◌, Bool, true, false, cond, List, [], ◌∷◌, ◌++◌, length, take, drop, get_or, Option, Some, None, refl, sym, ap, subst, ◌∙◌, arith, inl, inr}
use Rattle.std.proofs.lemmas.Bool.{cases_lt}
use Rattle.std.proofs.lemmas.List.{get_or_append_left, get_or-append_right}
use Rattle.std.proofs.Math.Seq.{drop-cons}
use Rattle.std.specs.Prelude.{option_and_then, option_map, replicate, slice_index, slice_range}
use Rattle.std.specs.List.{cons_option, filter_map, find, range_with_len}
use Rattle.hyphenation_breaks.specs.Ascii.{digit_zero, dot}
use Rattle.hyphenation_breaks.specs.Dictionary.{TextMap}
use Rattle.hyphenation_dictionary.specs.Parts.{patterns_of}
use Rattle.hyphenation_trie.specs.Trie.{Tree}
use Rattle.libhyphen_files.specs.Levels.{pattern_at}
use Rattle.libhyphen_files.specs.Patterns.{Pattern}
use Rattle.libhyphen_files.specs.Vectors.{BeginsNoKey}
use Rattle.libhyphen_files.specs.declared.vectors.NodeVectors.{NodeVectors}
use Rattle.libhyphen_rule.specs.Counting.{Counted, framed, begins_key, longest_start, counted_from, counted_if_key, counted_at, counted_in, counted_up_to}
use Rattle.libhyphen_rule.specs.OneLevel.{Made, changes_by, digits_by, digit_at, digit_behind, made_up_to, offers}
use Rattle.libhyphen_rule.specs.Private.Claims.{made_now}
use Rattle.libhyphen_rule.specs.Private.Digits.{HasDigits}
use Rattle.libhyphen_rule.specs.Private.Lanes.{AllPlain, AtRow, IsFound, IsPassed, IsReadWhole}
use Rattle.libhyphen_rule.specs.Private.PlainWords.{BeginsNone, HasNoDigits}
use Rattle.libhyphen_rule.specs.declared.plain_words.FramePass.{FramePass}
use Rattle.libhyphen_rule.proofs.PlacedChanges.{none_made}
use Rattle.libhyphen_rule.proofs.RaisedDigits.{behind_inner, behind_last, digits_are, length-framed}

-- ---- The bytes of a frame.

module _ (word : List ℕ) (plain : HasNoDigits word) where
  pub frame_byte : (at : ℕ) → at < length word → slice_index word at ≡ slice_index (framed word) (at + 1)
  frame_byte at lt =
      let next : at + 1 ≡ suc at = omega arith in
      sym (get_or_append_left word (dot ∷ []) 0 at lt)
      ∙ ap (λ (w : List ℕ). get_or (w ++ dot ∷ []) at 0) (sym plain)
      ∙ ap (slice_index (framed word)) (sym next)

  pub frame_end : dot ≡ slice_index (framed word) (length word + 1)
  frame_end =
      let next : length word + 1 ≡ suc (length word) = omega arith in
      let none : length word - length word ≡ 0 = omega arith in
      sym (get_or-append_right word (dot ∷ []) (length word) (length word) 0 refl (omega arith) ∙ ap (λ (k : ℕ). get_or (dot ∷ []) k 0) none)
      ∙ ap (λ (w : List ℕ). get_or (w ++ dot ∷ []) (length word) 0) (sym plain)
      ∙ ap (slice_index (framed word)) (sym next)

-- ---- Before the first byte.

none_found : (patterns : TextMap (List Pattern)) (frame last list : List ℕ) → ((lane : ℕ) → lane < 16 → slice_index last lane ≡ 0) → IsFound (counted_up_to patterns frame 0) 0 last list
unfolding counted_up_to offers digit_at
none_found patterns frame last list none = record {
  plain = tt;
  each = λ lane place lt is. omega (arith, none lane lt);
  ahead = λ place lt. refl;
  written = λ place lt. absurd (omega arith);
  digits = λ lane lt. omega (arith, none lane lt);
  written_digits = λ place lt. absurd (omega arith);
}

pub none_passed : (tree : Tree Pattern) (vectors : NodeVectors) (frame : List ℕ) (pass : FramePass) (list : List ℕ) → AtRow tree vectors [] pass.row
    → length pass.last ≡ 16 → length pass.seen ≡ 16 → ((lane : ℕ) → lane < 16 → slice_index pass.last lane ≡ 0) → IsPassed tree vectors frame 0 pass list
none_passed tree vectors frame pass list there lanes seen_lanes none = record {
  lanes = lanes;
  seen_lanes = seen_lanes;
  at_row = there;
  found = λ known. none_found (patterns_of tree) frame pass.last list none;
}

-- ---- The digits of all places.

-- No change is made where no pattern has one.
plain_changes : (patterns : TextMap (List Pattern)) (word : List ℕ) → AllPlain (counted_in patterns (framed word))
    → changes_by patterns word ≡ replicate (length word) None
unfolding made_up_to
plain_changes patterns word plain =
    ap (λ (m : Made). m.changes)
    (none_made (counted_in patterns (framed word)) plain (made_now 1 (replicate (length word) None)) (range_with_len 1 (length word)))

-- The digit behind each byte, if the digits of the frame's places are found.
has_digits : (counted : List Counted) (bytes : ℕ) (last list digits : List ℕ) → IsFound counted (bytes + 2) last list
    → ((byte : ℕ) → byte + 1 < bytes → slice_index digits byte ≡ digit_zero + slice_index list (byte + 16))
    → ((byte : ℕ) → byte + 1 ≡ bytes → slice_index digits byte ≡ digit_zero)
    → (byte : ℕ) → byte < bytes → slice_index digits byte ≡ digit_behind (offers counted) bytes byte
has_digits counted bytes last list digits found inner end byte next_level = elim (cases_lt (byte + 1) bytes) [
  | inl lt ↦
      let at : byte + 16 ≡ (byte + 2) + 14 = omega arith in
      inner byte lt ∙ ap (λ (k : ℕ). digit_zero + slice_index list k) at ∙ sym (found.written (byte + 2) (omega arith))
      ∙ sym (behind_inner (offers counted) bytes byte lt)
  | inr le ↦ end byte (omega arith) ∙ sym (behind_last (offers counted) bytes byte le)
]

-- The last byte of the frame is read.
pub read_whole : (tree : Tree Pattern) (vectors : NodeVectors) (word : List ℕ) (at : ℕ) (pass next : FramePass) (list new : List ℕ) → HasNoDigits word → at ≡ length word
    → IsPassed tree vectors (framed word) (at + 1) pass list
    → ((frame : List ℕ) → length word + 1 < length frame → dot ≡ slice_index frame (length word + 1) → IsPassed tree vectors frame (length word + 1) pass list
    → IsPassed tree vectors frame (length word + 1 + 1) next new)
    → IsReadWhole tree word next new
read_whole tree vectors word at pass next list new plain ends before step =
    let more : (length word + 1) + 1 ≡ length word + 2 = omega arith in
    let all = step (framed word) (omega (arith, length-framed word)) (frame_end word plain)
    (subst (λ (k : ℕ). IsPassed tree vectors (framed word) (k + 1) pass list) ends before) in
    record {
      seen_lanes = all.seen_lanes;
      found = λ known. subst (λ (k : ℕ). IsFound (counted_up_to (patterns_of tree) (framed word) k) k next.last new) more (all.found known);
    }

module _ (patterns : TextMap (List Pattern)) (word last list : List ℕ)
    (found : IsFound (counted_up_to patterns (framed word) (length word + 2)) (length word + 2) last list) where
  whole : length word + 2 ≡ length (framed word)
  whole = sym (length-framed word)

  pub found_digits : (digits : List ℕ) → length digits ≡ length word
      → ((byte : ℕ) → byte + 1 < length digits → slice_index digits byte ≡ digit_zero + slice_index list (byte + 16))
      → ((byte : ℕ) → byte + 1 ≡ length digits → slice_index digits byte ≡ digit_zero)
      → digits ≡ digits_by patterns word
  found_digits digits size inner end =
      digits_are (offers (counted_up_to patterns (framed word) (length word + 2))) (offers (counted_in patterns (framed word))) digits (length word) size
      (ap (λ (k : ℕ). offers (counted_up_to patterns (framed word) k)) whole)
      (has_digits (counted_up_to patterns (framed word) (length word + 2)) (length digits) last list digits
      (subst (λ (k : ℕ). IsFound (counted_up_to patterns (framed word) (length word + 2)) (k + 2) last list) (sym size) found) inner end)

  pub plain_found : changes_by patterns word ≡ replicate (length word) None
  plain_found = plain_changes patterns word (subst (λ (k : ℕ). AllPlain (counted_up_to patterns (framed word) k)) whole found.plain)

-- ---- Frames in which no key begins.

nothing_found : {X : Type 0} (f : ℕ → Option X) (test : ℕ → Bool) (a n : ℕ) → ((k : ℕ) → a ≤ k → k < a + n → f k ≡ None)
    → option_and_then f (find test (range_with_len a n)) ≡ None
nothing_found f test a zero none = refl
nothing_found {X} f test a (suc n) none =
    elim (test a) as (λ b. option_and_then f (cond {A = Option ℕ} b (Some a) (find test (range_with_len (a + 1) n))) ≡ None) [
      | true ↦ none a (omega arith) (omega arith)
      | false ↦ nothing_found f test (a + 1) n (λ k low high. none k (omega arith) (omega arith))
    ]

piece_begins : (frame : List ℕ) (start end : ℕ) → start < end → start < length frame
    → slice_range frame start end ≡ slice_index frame start ∷ take (end - start - 1) (drop (suc start) frame)
piece_begins frame start end lt within =
    let some : end - start ≡ suc (end - start - 1) = omega arith in
    ap (λ (k : ℕ). take k (drop start frame)) some
    ∙ ap (take (suc (end - start - 1))) (drop-cons frame start 0 within)

module _ (patterns : TextMap (List Pattern)) (frame : List ℕ)
    (none : (at : ℕ) → at < length frame → BeginsNoKey patterns (slice_index frame at)) where
  none_at : (end : ℕ) → end ≤ length frame → counted_at patterns frame end ≡ None
  unfolding longest_start
  none_at end le = nothing_found (counted_if_key patterns frame end) (λ start. begins_key patterns (slice_range frame start end)) 0 end
      (λ start low high.
      ap (λ (text : List ℕ). option_map (counted_from frame end start) (pattern_at patterns text)) (piece_begins frame start end (omega arith) (omega arith))
      ∙ ap (option_map (counted_from frame end start)) (none start (omega arith) (take (end - start - 1) (drop (suc start) frame))))

  none_up_to : (a n : ℕ) → a + n ≤ length frame + 1 → filter_map (counted_at patterns frame) (range_with_len a n) ≡ []
  none_up_to a zero le = refl
  none_up_to a (suc n) le =
      ap (λ (o : Option Counted). cons_option o (filter_map (counted_at patterns frame) (range_with_len (a + 1) n))) (none_at a (omega arith))
      ∙ none_up_to (a + 1) n (omega arith)

  pub none_counted : counted_in patterns frame ≡ []
  unfolding counted_up_to
  none_counted = none_up_to 1 (length frame) (omega arith)

-- ---- Words in whose frames no key begins.

framed_none : (patterns : TextMap (List Pattern)) (word : List ℕ) → HasNoDigits word → BeginsNoKey patterns dot
    → ((byte : ℕ) → byte < length word → BeginsNoKey patterns (slice_index word byte))
    → (at : ℕ) → at < length (framed word) → BeginsNoKey patterns (slice_index (framed word) at)
framed_none patterns word plain ends each zero lt = ends
framed_none patterns word plain ends each (suc at) lt =
    let next : at + 1 ≡ suc at = omega arith in
    elim (cases_lt at (length word)) [
      | inl inner ↦
          let same : slice_index word at ≡ slice_index (framed word) (suc at) = frame_byte word plain at inner ∙ ap (slice_index (framed word)) next in
          subst (BeginsNoKey patterns) same (each at inner)
      | inr last ↦
          let here : length word + 1 ≡ suc at = omega (arith, length-framed word) in
          let same : dot ≡ slice_index (framed word) (suc at) = frame_end word plain ∙ ap (slice_index (framed word)) here in
          subst (BeginsNoKey patterns) same ends
    ]

no_digits : (digits : List ℕ) → ((byte : ℕ) → byte < length digits → slice_index digits byte ≡ digit_zero) → HasDigits (offers []) digits
unfolding offers digit_at
no_digits digits zeros = λ byte next_level. elim (cases_lt (byte + 1) (length digits)) [
  | inl lt ↦ zeros byte next_level ∙ sym (behind_inner (offers []) (length digits) byte lt)
  | inr le ↦ zeros byte next_level ∙ sym (behind_last (offers []) (length digits) byte le)
]

module _ (patterns : TextMap (List Pattern)) (word : List ℕ) (plain : HasNoDigits word) (none : BeginsNone patterns word) where
  empty : counted_in patterns (framed word) ≡ []
  empty = none_counted patterns (framed word) (framed_none patterns word plain none.dotted none.each)

  pub empty_digits : (digits : List ℕ) → length digits ≡ length word
      → ((byte : ℕ) → byte < length digits → slice_index digits byte ≡ digit_zero) → digits ≡ digits_by patterns word
  empty_digits digits size zeros =
      digits_are (offers []) (offers (counted_in patterns (framed word))) digits (length word) size (ap offers (sym empty)) (no_digits digits zeros)

  pub empty_plain : changes_by patterns word ≡ replicate (length word) None
  empty_plain = plain_changes patterns word (subst AllPlain (sym empty) tt)

-- Where a character begins, by its number.
use Rattle.std.proofs.Common.{◌≡◌, ℕ, ◌+◌, ◌-◌, ◌≤◌, ◌<◌, ◌⊎◌, max, List, [], ◌∷◌, ◌++◌, length, chars, encode_utf8, encode_utf8_all, IsUtf8, refl, sym, ap, subst, ◌∙◌, arith, append_assoc, append-nil, length-append, take, take_all, drop, IsCharBoundary, Option, Some, None, inl, inr, ◌&&◌, nat_le, nat_lt, if◌then◌else◌}
use Rattle.std.proofs.lemmas.List.{take-append-le, nil_from_length}
use Rattle.std.proofs.lemmas.Str.{IsUtf8-past_char, chars_past_char, chars-nil, IsCharBoundary-at_seam, encodes-append, encodes-chars}
use Rattle.std.proofs.lemmas.Bool.{le-leb, lt-ltb, lt-leb, le-ltb}
use Rattle.std.proofs.Math.Bool.{and-false}
use Rattle.std.proofs.Math.Seq.{take-add}
use Rattle.hyphenation_hyphenator.specs.Places.{place_of_character}
use Rattle.hyphenation_hyphenator.specs.Boundaries.{boundaries}

-- So many characters of the text were taken off its front.
pub record AreFirst (text rest : List ℕ) (count : ℕ) : Type 0 where
  pub first : List ℕ
  pub bytes : text ≡ encode_utf8_all first ++ rest
  pub read : chars text ≡ first ++ chars rest
  pub long : length first ≡ count
  pub utf8 : IsUtf8 rest

pub none_first : (text : List ℕ) → IsUtf8 text → AreFirst text text 0
none_first text u = record { first = []; bytes = refl; read = refl; long = refl; utf8 = u }

pub one_first : (text rest back : List ℕ) (c count : ℕ) → rest ≡ encode_utf8 c ++ back → AreFirst text rest count → AreFirst text back (count + 1)
one_first text rest back c count e h =
    let written : encode_utf8_all (h.first ++ c ∷ []) ≡ encode_utf8_all h.first ++ encode_utf8 c = encodes-append h.first (c ∷ []) ∙ ap (λ l. encode_utf8_all h.first ++ l) (append-nil (encode_utf8 c)) in
    record {
      first = h.first ++ c ∷ [];
      bytes = h.bytes ∙ ap (λ l. encode_utf8_all h.first ++ l) e ∙ sym (append_assoc (encode_utf8_all h.first) (encode_utf8 c) back) ∙ ap (λ l. l ++ back) (sym written);
      read = h.read ∙ ap (λ l. h.first ++ l) (chars_past_char rest back c h.utf8 e) ∙ sym (append_assoc h.first (c ∷ []) (chars back));
      long = omega (arith, h.long, length-append h.first (c ∷ []));
      utf8 = IsUtf8-past_char rest back c h.utf8 e;
    }

-- The place of the next character is where the rest begins.
pub first_place : (text rest : List ℕ) (count : ℕ) → AreFirst text rest count → length text - length rest ≡ place_of_character text count
first_place text rest count h =
    let front : take count (chars text) ≡ h.first = ap (λ n. take n (chars text)) (sym h.long) ∙ ap (take (length h.first)) h.read ∙ take-append-le (length h.first) h.first (chars rest) (omega arith) ∙ take_all (length h.first) h.first (omega arith) in
    let size : length text - length rest ≡ length (encode_utf8_all h.first) = omega (arith, ap length h.bytes, length-append (encode_utf8_all h.first) rest) in
    size ∙ ap (λ cs. length (encode_utf8_all cs)) (sym front)

pub first_boundary : (text rest : List ℕ) (count : ℕ) → AreFirst text rest count → IsCharBoundary text (length text - length rest)
first_boundary text rest count h =
    let size : length (encode_utf8_all h.first) ≡ length text - length rest = omega (arith, ap length h.bytes, length-append (encode_utf8_all h.first) rest) in
    subst (IsCharBoundary text) size (IsCharBoundary-at_seam text (encode_utf8_all h.first) rest h.bytes h.utf8)

-- A text that has no more characters ends before those with greater numbers.
pub first_few : (text rest : List ℕ) (count number : ℕ) → count < number → length rest ≡ 0 → IsUtf8 text → AreFirst text rest count → length text ≡ place_of_character text number
first_few text rest count number lt none u h =
    let nil : length (chars rest) ≡ 0 = ap (λ l. length (chars l)) (nil_from_length rest none) ∙ ap length chars-nil in
    let few : length (chars text) ≤ number = omega (arith, ap length h.read, length-append h.first (chars rest), h.long) in
    sym (ap (λ cs. length (encode_utf8_all cs)) (take_all number (chars text) few) ∙ ap length (encodes-chars text u))

-- A character with a lesser number begins no later.
pub places_ascend : (text : List ℕ) (i j : ℕ) → i ≤ j → place_of_character text i ≤ place_of_character text j
places_ascend text i j h =
    let first = take i (chars text) in
    let more = take (j - i) (drop i (chars text)) in
    let sum : i + (j - i) ≡ j = omega (arith, h) in
    let split : take j (chars text) ≡ first ++ more = subst (λ n. take n (chars text) ≡ first ++ more) sum (take-add i (j - i) (chars text)) in
    let bytes : length (encode_utf8_all (take j (chars text))) ≡ length (encode_utf8_all first) + length (encode_utf8_all more) =
    ap (λ cs. length (encode_utf8_all cs)) split ∙ ap length (encodes-append first more) ∙ length-append (encode_utf8_all first) (encode_utf8_all more) in
    omega (arith, bytes)

bounds_kept : (l r n : ℕ) (bounds : Option (ℕ × ℕ)) → l < n → r ≤ n - l → (if nat_le (l + r) n && nat_lt l n then bounds else None) ≡ bounds
bounds_kept l r n bounds below room = rw (le-leb (l + r) n (omega (arith, below, room)), lt-ltb l n below) refl

bounds_dropped : (l r n : ℕ) (bounds : Option (ℕ × ℕ)) → (n ≤ l) ⊎ (n - l < r) → (if nat_le (l + r) n && nat_lt l n then bounds else None) ≡ None
bounds_dropped l r n bounds (inl h) = rw (le-ltb l n h, and-false (nat_le (l + r) n)) refl
bounds_dropped l r n bounds (inr h) = rw (lt-leb (l + r) n (omega (arith, h))) refl

-- A word has enough characters for the minima.
pub bounds_met : (l r n : ℕ) (word : List ℕ) → n ≡ length (chars word) → l < n → r ≤ n - l → boundaries l r word ≡ Some (place_of_character word l, place_of_character word (n - max r 1))
bounds_met l r n word count below room =
    let below_count : l < length (chars word) = omega (arith, count, below) in
    let room_count : r ≤ length (chars word) - l = omega (arith, count, room) in
    subst (λ m. boundaries l r word ≡ Some (place_of_character word l, place_of_character word (m - max r 1))) (sym count)
    (bounds_kept l r (length (chars word)) _ below_count room_count)

-- A word has too few characters.
pub bounds_missed : (l r n : ℕ) (word : List ℕ) → n ≡ length (chars word) → (n ≤ l) ⊎ (n - l < r) → boundaries l r word ≡ None
bounds_missed l r n word count miss = bounds_dropped l r (length (chars word)) _ (subst (λ m. (m ≤ l) ⊎ (m - l < r)) count miss)

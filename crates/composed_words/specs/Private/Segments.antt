-- Segments of a word: NFC keeps each apart from all that is before it.
use Rattle.std.specs.Prelude.{◌≡◌, ◌⊎◌, ℕ, ◌==◌, ◌&&◌, Bool, true, false, List, [], ◌∷◌, ◌++◌, chars, filter, length, nat_eq, nat_lt, IsUtf8}
use Rattle.std.specs.List.{list_any, range_with_len}
use Rattle.std.specs.Str.{bytes_eq}
use Rattle.ucd_normal.specs.CanonicalCombiningClass.{canonical_combining_class}
use Rattle.ucd_normal.specs.QuickCheck.{quick_check}
use Rattle.ucd_normal.specs.declared.forms.Form.TheVariants.{Nfc}
use Rattle.ucd_normal.specs.declared.forms.QuickCheck.{QuickCheck}
use Rattle.ucd_normal.specs.declared.forms.QuickCheck.TheVariants.{Yes}
use Rattle.composed_words.specs.Composed.{composed, stands_for_any}

-- The quick check says yes.
abbrev pub is_yes : QuickCheck → Bool
is_yes Yes = true
is_yes _ = false

-- A character is kept apart from all that is before it.
abbrev pub is_apart : ℕ → Bool
is_apart c = canonical_combining_class c == 0 && is_yes (quick_check Nfc c)

-- The first of some characters is kept apart so, or there are none.
abbrev pub begin_apart : List ℕ → Bool
begin_apart [] = true
begin_apart (c ∷ cs) = is_apart c

-- A segment of a word from a place on, for which the place `base` of the NFC stands.
pub record IsSegment (word : List ℕ) (start : ℕ) (segment : List ℕ) (base : ℕ) : Type 0 where
  pub front : List ℕ
  pub later : List ℕ
  pub whole : word ≡ front ++ (segment ++ later)
  pub start_is : start ≡ length front
  pub base_is : base ≡ length (composed front)
  pub front_utf8 : IsUtf8 front
  pub segment_utf8 : IsUtf8 segment
  pub later_utf8 : IsUtf8 later
  pub before : (begin_apart (chars (segment ++ later)) ≡ true) ⊎ (front ≡ [])
  pub after : begin_apart (chars later) ≡ true

-- The NFC of two texts, joined, is `nfc`, and the first of them ends at one of some places of it.
unfoldable pub ends_at_any : List ℕ → List ℕ → List ℕ → List ℕ → Bool
ends_at_any front back nfc places =
    bytes_eq (composed front ++ composed back) nfc && list_any (λ y. nat_eq y (length (composed front))) places

-- Some place lies between two others.
abbrev pub has_between : List ℕ → ℕ → ℕ → Bool
has_between places low high = list_any (λ p. nat_lt low p && nat_lt p high) places

-- The places among some that follow one another that stand for one of some places of the NFC.
abbrev pub carried_among : List ℕ → List ℕ → ℕ → ℕ → List ℕ
carried_among word places start count = filter (stands_for_any word places) (range_with_len start count)

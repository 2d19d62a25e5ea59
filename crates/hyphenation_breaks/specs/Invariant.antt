-- The invariant of a dictionary.
use Rattle.std.specs.Prelude.{◌≡◌, ℕ, ◌≤◌, ◌^◌, ◌==◌, ◌&&◌, nat_le, nat_lt, not, Bool, true, List, map, Option, Some, None, IsTrue, IsUtf8}
use Rattle.std.specs.List.{list_all}
use Rattle.std.specs.FinMap as finite
use Rattle.std.specs.Str.{is_utf8}
use Rattle.hyphenation_breaks.specs.Ascii.{dot}
use Rattle.hyphenation_breaks.specs.Break.{Break, Change, ascend_on, keeps_within}
use Rattle.hyphenation_breaks.specs.Dictionary.{Contents}
use Rattle.hyphenation_breaks.specs.Language.{IsCode}
use Rattle.hyphenation_breaks.specs.declared.entry.Entry.{Entry}

-- A key has a letter: a byte other than a dot.
abbrev pub has_letter : List ℕ → Bool
has_letter key = not (list_all (λ b. b == dot) key)

-- A number is below 2^64.
abbrev pub fits_usize : ℕ → Bool
fits_usize n = nat_lt n (2 ^ 64)

-- A change can be written in a dictionary text: its numbers are below 2^64, and its substitution is UTF-8.
abbrev pub can_be_written : Change → Bool
can_be_written change =
    fits_usize change.left && fits_usize change.right && fits_usize change.breakpoint && is_utf8 change.substitution

-- A change, if any, can be written in a dictionary text.
abbrev pub can_be_written_if_any : Option Change → Bool
can_be_written_if_any None = true
can_be_written_if_any (Some change) = can_be_written change

-- A change, if any, can be written with its place, and keeps within the text.
abbrev pub stays_within : List ℕ → ℕ → Option Change → Bool
stays_within text place None = true
stays_within text place (Some change) = fits_usize place && can_be_written change && keeps_within text place change

-- A place is below 2^64, and its change, if any, can be written and keeps within the text. Where places ascend they are
-- character boundaries.
abbrev pub lists_within : List ℕ → ℕ → Option Change → Bool
lists_within text place change = fits_usize place && stays_within text place change

-- A value is from 1 to 255.
abbrev pub is_value : ℕ → Bool
is_value v = nat_lt 0 v && nat_le v 255

-- A key may have these entries. Their places ascend strictly, on character boundaries of the key. Their values are from
-- 1 to 255. Their changes can be written, and keep within the key.
abbrev pub are_entries : {C : Type 0} → (C → Option Change) → List ℕ → List (Entry C) → Bool
are_entries change_of key entries =
    ascend_on key 0 (map (λ e. e.place) entries)
    && list_all (λ e. is_value e.value && stays_within key e.place (change_of e.change)) entries

-- These breaks may be listed for a word. Their places are below 2^64 and ascend strictly, on character boundaries of the
-- word. Their changes can be written, and keep within the word. Their ranges may overlap.
abbrev pub are_listed : {B : Type 0} → (B → Break) → List ℕ → List B → Bool
are_listed break_of word listed =
    ascend_on word 0 (map (λ b. (break_of b).place) listed)
    && list_all (λ b. lists_within word (break_of b).place (break_of b).change) listed

-- A pattern: the key is UTF-8, has a letter, and may have these entries.
pub record IsPattern {C : Type 0} (change_of : C → Option Change) (key : List ℕ) (es : List (Entry C)) : Type 0 where
  pub utf8 : IsUtf8 key
  pub letter : IsTrue (has_letter key)
  pub ascend : IsTrue (are_entries change_of key es)

-- An exception: the word is UTF-8, and the breaks may be listed for it.
pub record IsException {B : Type 0} (break_of : B → Break) (word : List ℕ) (bs : List B) : Type 0 where
  pub utf8 : IsUtf8 word
  pub ascend : IsTrue (are_listed break_of word bs)

-- A dictionary: the language is a code, the minima are below 256, and each pattern and each exception is one.
pub record IsDictionary {C B : Type 0} (change_of : C → Option Change) (break_of : B → Break)
    (contents : Contents C B) : Type 0 where
  pub code : IsCode contents.language
  pub left : contents.left ≤ 255
  pub right : contents.right ≤ 255
  pub patterns : (key : List ℕ) (entries : List (Entry C)) → finite.get contents.patterns key ≡ Some entries
      → IsPattern change_of key entries
  pub exceptions : (word : List ℕ) (listed : List B) → finite.get contents.exceptions word ≡ Some listed
      → IsException break_of word listed

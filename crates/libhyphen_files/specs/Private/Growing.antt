-- A level that grows, and lines that are patterns at first sight.
use Rattle.std.specs.Prelude.{◌≡◌, ℕ, ◌==◌, ◌||◌, nat_le, Bool, false, if◌then◌else◌, List, [], ◌∷◌, length, map, filter, None, Some, slice_index_or}
use Rattle.std.specs.Bool.{IsFalse}
use Rattle.hyphenation_breaks.specs.Ascii.{slash, digit_zero}
use Rattle.hyphenation_dictionary.specs.Maker.{with_pair}
use Rattle.hyphenation_dictionary.specs.Parts.{patterns_of}
use Rattle.hyphenation_trie.specs.Trie.{EachBeginsKey, Tree}
use Rattle.libhyphen_files.specs.Bytes.{before_nul}
use Rattle.libhyphen_files.specs.Levels.{HasNoChanges, Level, with_line}
use Rattle.libhyphen_files.specs.Patterns.{Pattern, digits_from, is_changing, no_digit, spelt}
use Rattle.libhyphen_files.specs.declared.level.GrowingLevel.{GrowingLevel}

-- The level that a growing one has so far.
abbrev pub level_in : GrowingLevel → Level
level_in l = record { minima = l.minima; no_hyphen = map (λ text. text.items) l.no_hyphen.items; patterns = patterns_of l.patterns }

-- Each node but the root begins a key. No pattern has a change unless one was seen. The room for a pattern is empty.
pub record IsGrowing (l : GrowingLevel) : Type 0 where
  pub begins : EachBeginsKey l.patterns
  pub changes : IsFalse l.has_changes → HasNoChanges (patterns_of l.patterns)
  pub spare : l.pattern.items ≡ []

-- The pattern without a change that has these digits.
abbrev pub unchanging : List ℕ → Pattern
unchanging digits = record { digits = digits; change = None }

-- The node has only this pattern.
abbrev pub HasDigits : Tree Pattern → ℕ → List ℕ → Type 0
HasDigits t node digits = slice_index_or t.entries node None ≡ Some (unchanging digits ∷ [])

-- The level with one more pattern. The last pattern of a key counts; the empty key never does.
abbrev pub with_key : Level → List ℕ → Pattern → Level
with_key level key pattern =
    if length key == 0 then level else record level { patterns = with_pair level.patterns (key, pattern ∷ []) }

-- The level with the pattern without a change that a text spells.
abbrev pub with_spelt : Level → List ℕ → Level
with_spelt level part =
    with_key level (filter no_digit part) (unchanging (digits_from digit_zero part))

-- The line adds to any level the pattern without a change that the text spells.
abbrev pub IsPlain : List ℕ → List ℕ → Type 0
IsPlain line part = (utf8 : Bool) (level : Level) → with_line utf8 level line ≡ with_spelt level part

-- A space, a control character or a slash ends what a line spells.
abbrev pub ends_spelling : ℕ → Bool
ends_spelling b = nat_le b 32 || b == slash

-- The text is what the line spells, and no change follows.
pub record SpellsAlone (line part : List ℕ) : Type 0 where
  pub spelling : spelt (before_nul line) ≡ part
  pub alone : is_changing (before_nul line) ≡ false

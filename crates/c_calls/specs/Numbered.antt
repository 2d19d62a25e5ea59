-- The exceptions and the scores of a dictionary as C reads them: numbers, each with a change or none. The number is the
-- place of a listed break, or the value of a place.
use Rattle.std.specs.Prelude.{◌≡◌, ◌⊎◌, ℕ, List, [], length, map, Option, None, Some}
use Rattle.std.specs.List.{flat_map}
use Rattle.std.specs.Option.{option_map}
use Rattle.std.specs.FinMap as finite
use Rattle.std.specs.Str.{IsUtf8}
use Rattle.hyphenation_breaks.specs.Break.{Change}
use Rattle.hyphenation_breaks.specs.Dictionary.{entries_of_keys}
use Rattle.hyphenation_score.specs.Scoring.{Scored, own_change, scores, values}
use Rattle.any_dictionary.specs.declared.AnyDictionary.{AnyDictionary}
use Rattle.any_dictionary.specs.declared.AnyDictionary.TheVariants as of
use Rattle.c_calls.specs.Contents.{Held, Dictionary}
use Rattle.c_calls.specs.Statuses.{Buffer, AreUnchanged, FindsBoth}
use Rattle.c_calls.specs.declared.numbered.NumberedChange.{NumberedChange}
use Rattle.c_calls.specs.declared.numbered.NumberedChanges.{NumberedChanges}

-- A number with a change, or with none.
abbrev pub Numbered : Type 0
Numbered = ℕ × Option Change

-- ---- what a dictionary has of a word

-- A number without a change.
abbrev pub alone : ℕ → Numbered
alone number = (number, None)

-- The breaks that are listed for a word, in their order; none if the word is no exception. The number is the place.
abbrev pub listed_by : AnyDictionary → List ℕ → Option (List Numbered)
listed_by (of.Standard standard) word = option_map (map alone) (finite.get standard.exceptions word)
listed_by (of.Extended extended) word = finite.get extended.exceptions word

-- A score: the number is the value.
abbrev pub of_score : Scored → Numbered
of_score score = (score.value, score.change)

-- The scores of a word's places, from place 1 on, only by the patterns.
abbrev pub scores_by : AnyDictionary → List ℕ → List Numbered
scores_by (of.Standard standard) word = map alone (values (entries_of_keys standard) word)
scores_by (of.Extended extended) word = map of_score (scores own_change (entries_of_keys extended) word)

-- ---- what C reads of it

-- The substitution of a change; empty without one.
abbrev pub substitution_of : Option Change → List ℕ
substitution_of None = []
substitution_of (Some change) = change.substitution

-- A number with its change as C reads it. Without a change all but the number is 0.
unfoldable pub as_numbered : Numbered → NumberedChange
as_numbered (number, None) = record { number = number; changed = 0; left = 0; right = 0; breakpoint = 0; length = 0 }
as_numbered (number, Some change) =
    record {
      number = number;
      changed = 1;
      left = change.left;
      right = change.right;
      breakpoint = change.breakpoint;
      length = length change.substitution;
    }

-- The substitutions, one after the other.
unfoldable pub substitutions : List Numbered → List ℕ
substitutions list = flat_map (λ numbered. substitution_of numbered.1) list

-- The numbers as C reads them, and the substitutions.
abbrev pub AreOf : NumberedChanges → List Numbered → Type 0
AreOf found list = (found.changes.items ≡ map as_numbered list) × (found.texts.items ≡ substitutions list)

-- There are such numbers, or none.
abbrev pub AreOfIfAny : Option NumberedChanges → Option (List Numbered) → Type 0
AreOfIfAny None None = Unit {0}
AreOfIfAny (Some found) (Some list) = AreOf found list
AreOfIfAny _ _ = ⊥

-- ---- the calls

-- 2: out of memory. 4: the word is not UTF-8. 10: it is UTF-8, and no exception. No other status comes, and both buffers
-- and their counts are unchanged.
abbrev pub IsNoException : List ℕ → ℕ → Type 0
IsNoException word status = (status ≡ 2) ⊎ ((status ≡ 4) × (¬ IsUtf8 word)) ⊎ ((status ≡ 10) × IsUtf8 word)

-- The listed breaks of an exception, with their substitutions. A word that is no exception has the statuses above.
abbrev pub FindsListed : Option (List Numbered) → List ℕ → Buffer NumberedChange → Buffer ℕ → ℕ → Type 0
FindsListed None word b c status = IsNoException word status × AreUnchanged b c
FindsListed (Some listed) word b c status =
    FindsBoth (IsUtf8 word) (map as_numbered listed) (substitutions listed) b c status

-- The same by a dictionary.
abbrev pub FindsException : AnyDictionary → List ℕ → Buffer NumberedChange → Buffer ℕ → ℕ → Type 0
FindsException dictionary word b c status = FindsListed (listed_by dictionary word) word b c status

-- The call for the exception of a word. 3: the handle holds no dictionary, and all is unchanged.
abbrev pub WritesListed : Option Held → List ℕ → Buffer NumberedChange → Buffer ℕ → ℕ → Type 0
WritesListed (Some (Dictionary dictionary)) word b c status = FindsException dictionary word b c status
WritesListed _ word b c status = (status ≡ 3) × AreUnchanged b c

-- The scores of a word's places, with their substitutions.
abbrev pub FindsScores : AnyDictionary → List ℕ → Buffer NumberedChange → Buffer ℕ → ℕ → Type 0
FindsScores dictionary word b c status =
    FindsBoth (IsUtf8 word) (map as_numbered (scores_by dictionary word)) (substitutions (scores_by dictionary word)) b c
    status

-- The call for the scores of a word. 3: the handle holds no dictionary, and all is unchanged.
abbrev pub WritesScores : Option Held → List ℕ → Buffer NumberedChange → Buffer ℕ → ℕ → Type 0
WritesScores (Some (Dictionary dictionary)) word b c status = FindsScores dictionary word b c status
WritesScores _ word b c status = (status ≡ 3) × AreUnchanged b c

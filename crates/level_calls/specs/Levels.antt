-- The statuses of the calls for a .dic of two levels. They say which case each one means, and what a call leaves in the
-- caller's memory then.
use Rattle.std.specs.Prelude.{◌≡◌, ◌⊎◌, ◌<◌, ◌≤◌, zero, suc, ℕ, Bool, false, List, [], length, Option, None, Some, IsSome, if◌then◌else◌}
use Rattle.libhyphen_files.specs.Files.{Rules, rules_of}
use Rattle.libhyphen_rule.specs.Calls.{Answer, answer_of, text_of_call, plain_digits}
use Rattle.libhyphen_rule.specs.declared.calls.CallMinima.{CallMinima}
use Rattle.c_calls.specs.Contents.{Held, Levels, holds}
use Rattle.c_calls.specs.declared.handle.Handle.{Handle}
use Rattle.c_calls.specs.Statuses.{Buffer, Fills, Finds, IsUnchanged}
use Rattle.level_calls.specs.declared.calls.Asked.{Asked}
use Rattle.level_calls.specs.declared.changes.LevelChange.{LevelChange}
use Rattle.level_calls.specs.declared.head.LevelHead.{LevelHead}
use Rattle.level_calls.specs.declared.minima.LevelMinima.{LevelMinima}
use Rattle.level_calls.specs.Changes.{listed_changes, listed_texts}
use Rattle.level_calls.specs.Head.{head_of}

-- ---- Loading.

-- 0: the handle holds the dictionary of the bytes, and its head is written. 2: out of memory, and both are unchanged.
-- No other status comes.
abbrev pub Loads : List ℕ → Option Held → Option Held → LevelHead → LevelHead → ℕ → Type 0
Loads bytes old new before after zero = (new ≡ Some (Levels (rules_of bytes))) × (after ≡ head_of (rules_of bytes))
Loads bytes old new before after (suc (suc zero)) = (new ≡ old) × (after ≡ before)
Loads bytes old new before after _ = ⊥

-- ---- Minima.

-- The minima of a call.
abbrev pub call_minima : LevelMinima → CallMinima
call_minima minima = record {
  left = minima.left;
  right = minima.right;
  compound_left = minima.compound_left;
  compound_right = minima.compound_right;
}

-- The minima that are given, or none.
abbrev pub minima_given : Bool → LevelMinima → Option CallMinima
minima_given given minima = if given then Some (call_minima minima) else None

-- ---- Buffers.

-- A buffer and its count are unchanged.
abbrev pub IsLeft : {T : Type 0} → Buffer T → Type 0
IsLeft b = IsUnchanged b.old b.new b.before b.after

-- 0: the buffer begins with all that was found. 1: the count is the length found, and the buffer is unchanged. With each
-- other status the buffer and the count are unchanged.
abbrev pub FillsOne : {T : Type 0} → List T → Buffer T → ℕ → Type 0
FillsOne found b zero = Fills found b.old b.new b.after 0
FillsOne found b (suc zero) = (b.after ≡ length found) × (b.new ≡ b.old)
FillsOne found b _ = IsLeft b

-- 1: one of three buffers is shorter than what was found for it.
abbrev pub OneIsShort : ℕ → Type 0 → Type 0 → Type 0 → Type 0
OneIsShort (suc zero) First Second Third = First ⊎ Second ⊎ Third
OneIsShort _ First Second Third = Unit {0}

-- ---- A word.

-- 0 and 1: the text has the word, and there is an answer. 2: the text has the word; out of memory. 4: the text has the
-- word, and begins within a character. 8: the word is longer than the text. No other status comes.
abbrev pub IsStatus : Rules → Option CallMinima → List ℕ → ℕ → ℕ → Type 0
IsStatus rules given text size zero = (size ≤ length text) × IsSome (answer_of rules given text size)
IsStatus rules given text size (suc zero) = (size ≤ length text) × IsSome (answer_of rules given text size)
IsStatus rules given text size (suc (suc zero)) = size ≤ length text
IsStatus rules given text size (suc (suc (suc (suc zero)))) =
    (size ≤ length text) × (answer_of rules given text size ≡ None)
IsStatus rules given text size (suc (suc (suc (suc (suc (suc (suc (suc zero)))))))) = length text < size
IsStatus rules given text size _ = ⊥

-- 3: the handle holds no dictionary. A handle with a dictionary has the statuses above.
abbrev pub HasStatus : Option Held → Option CallMinima → List ℕ → ℕ → ℕ → Type 0
HasStatus (Some (Levels rules)) given text size status = IsStatus rules given text size status
HasStatus _ given text size status = status ≡ 3

-- The lists of an answer, which are empty if there is none, and whether a change was made.
abbrev pub digits_in : Option Answer → List ℕ
digits_in None = []
digits_in (Some answer) = answer.digits

abbrev pub changes_in : Option Answer → List LevelChange
changes_in None = []
changes_in (Some answer) = listed_changes answer.changes

abbrev pub texts_in : Option Answer → List ℕ
texts_in None = []
texts_in (Some answer) = listed_texts answer.changes

abbrev pub made_in : Option Answer → Bool
made_in None = false
made_in (Some answer) = answer.made

-- The answer to what is asked.
abbrev pub answer_to : Rules → Asked → Option Answer
answer_to rules asked = answer_of rules asked.minima asked.text.now asked.size

-- The answer of a call, if there is a dictionary.
abbrev pub answer_if : Option Held → Option CallMinima → List ℕ → ℕ → Option Answer
answer_if (Some (Levels rules)) given text size = answer_of rules given text size
answer_if _ given text size = None

-- The answer of a call by the dictionary that a handle holds, if it holds one.
abbrev pub answer_by : Handle → Bool → LevelMinima → List ℕ → ℕ → Option Answer
answer_by handle given minima text size = answer_if (holds handle) (minima_given given minima) text size

-- 0: the value is written. With each other status it is unchanged.
abbrev pub Says : Bool → Bool → Bool → ℕ → Type 0
Says value old new zero = new ≡ value
Says value old new _ = new ≡ old

-- ---- A word, written.

-- 0 and 1: the text has the word, and the buffer is filled with it, or too short. 2: the text has the word; out of
-- memory. 8: the word is longer than the text. No other status comes, and from 2 on the buffer and the count are
-- unchanged.
abbrev pub FindsText : Rules → Option CallMinima → List ℕ → ℕ → Buffer ℕ → ℕ → Type 0
FindsText rules given text size b zero =
    (size ≤ length text) × Fills (text_of_call rules given text size) b.old b.new b.after 0
FindsText rules given text size b (suc zero) =
    (size ≤ length text) × Fills (text_of_call rules given text size) b.old b.new b.after 1
FindsText rules given text size b (suc (suc zero)) = (size ≤ length text) × IsLeft b
FindsText rules given text size b (suc (suc (suc (suc (suc (suc (suc (suc zero)))))))) = (length text < size) × IsLeft b
FindsText rules given text size b _ = ⊥

-- 3: the handle holds no dictionary, and all is unchanged. A handle with a dictionary has the statuses above.
abbrev pub WritesText : Option Held → Option CallMinima → List ℕ → ℕ → Buffer ℕ → ℕ → Type 0
WritesText (Some (Levels rules)) given text size b status = FindsText rules given text size b status
WritesText _ given text size b status = (status ≡ 3) × IsLeft b

-- ---- The digits of the oldest call.

-- 0 and 1: the buffer is filled, or too short. 2: out of memory. No other status comes.
abbrev pub FindsDigits : Rules → List ℕ → Buffer ℕ → ℕ → Type 0
FindsDigits rules word b status = Finds (Unit {0}) (plain_digits rules.first_level word) b.old b.new b.before b.after status

-- 3: the handle holds no dictionary, and all is unchanged. A handle with a dictionary has the statuses above.
abbrev pub WritesDigits : Option Held → List ℕ → Buffer ℕ → ℕ → Type 0
WritesDigits (Some (Levels rules)) word b status = FindsDigits rules word b status
WritesDigits _ word b status = (status ≡ 3) × IsLeft b

-- The statuses of the calls: which case each one says, and what a call leaves in the caller's memory then.
use Rattle.std.specs.Prelude.{◌≡◌, ◌⊎◌, ◌++◌, ◌<◌, ◌≤◌, zero, suc, ℕ, IsTrue, IsFalse, List, length, map, drop, Option, None, Some}
use Rattle.std.specs.Str.{IsUtf8}
use Rattle.hyphenation_writer.specs.Canonical.{with_line_feeds}
use Rattle.hyphenation_reader.specs.Edits.{is_good_edit}
use Rattle.hyphenation_grammar.specs.Judging.{refusal_of}
use Rattle.hyphenation_grammar.specs.declared.Cause.{Cause}
use Rattle.hyphenation_grammar.specs.declared.Cause.TheVariants as causes
use Rattle.hyphenation_grammar.specs.declared.form.Kind.{Kind}
use Rattle.hyphenation_grammar.specs.declared.form.Kind.TheVariants.{Standard, Extended}
use Rattle.hyphenation_hyphenator.specs.Hyphenated.{hyphenated_text}
use Rattle.linefill.specs.Lines.{lines_by}
use Rattle.any_dictionary.specs.Dictionaries.{all_places_by, breaks_by, canonical_text, contents_as, edited, kind_by, language_by, minima_by, raised, values_by}
use Rattle.any_dictionary.specs.Kinds as kinds
use Rattle.any_dictionary.specs.declared.AnyDictionary.{AnyDictionary}
use Rattle.any_dictionary.specs.declared.AnyDictionary.TheVariants as of
use Rattle.c_calls.specs.Contents.{Held, Dictionary}
use Rattle.c_calls.specs.Dictionaries.{as_change, composed_places_by, texts_of}
use Rattle.c_calls.specs.declared.changes.BreakChange.{BreakChange}

-- ---- Numbers that C passes and reads.

-- 0 is the standard kind, 1 the extended one, and no other number is a kind.
abbrev pub kind_numbered : ℕ → Option Kind
kind_numbered zero = Some Standard
kind_numbered (suc zero) = Some Extended
kind_numbered _ = None

-- 0 is the standard kind, 1 the extended one, and 2 none.
abbrev pub kind_number : Option Kind → ℕ
kind_number (Some Standard) = 0
kind_number (Some Extended) = 1
kind_number None = 2

-- The number of the kind that the first line of a dictionary text names.
abbrev pub kind_named : List ℕ → ℕ
kind_named text = kind_number (kinds.kind_of text)

-- The causes in the order of the tests, from 1 on.
abbrev pub cause_number : Cause → ℕ
cause_number causes.NotUtf8 = 1
cause_number causes.Header = 2
cause_number causes.Language = 3
cause_number causes.Minima = 4
cause_number causes.UnknownLine = 5
cause_number causes.Token = 6
cause_number causes.Value = 7
cause_number causes.Pattern = 8
cause_number causes.NoLetters = 9
cause_number causes.Number = 10
cause_number causes.Place = 11
cause_number causes.Change = 12
cause_number causes.RepeatedPattern = 13
cause_number causes.RepeatedException = 14

-- ---- Calls that write into a buffer, and its length into a count.

-- 0: the buffer begins with all that was found, its rest is unchanged, and the count is the length found. 1: the count
-- is that length, the buffer is shorter, and it is unchanged.
abbrev pub Fills : {T : Type 0} → List T → List T → List T → ℕ → ℕ → Type 0
Fills found old new count zero =
    (count ≡ length found) × (count ≤ length old) × (new ≡ found ++ drop (length found) old)
Fills found old new count (suc zero) = (count ≡ length found) × (length old < count) × (new ≡ old)
Fills found old new count _ = ⊥

-- A buffer and a count are unchanged.
abbrev pub IsUnchanged : {T : Type 0} → List T → List T → ℕ → ℕ → Type 0
IsUnchanged old new before after = (new ≡ old) × (after ≡ before)

-- 0 and 1: the arguments are good, and the buffer is filled or too short. 2: out of memory. 4: the arguments are not
-- good. No other status comes, and from 2 on the buffer and the count are unchanged.
abbrev pub Finds : {T : Type 0} → Type 0 → List T → List T → List T → ℕ → ℕ → ℕ → Type 0
Finds Good found old new before after zero = Good × Fills found old new after 0
Finds Good found old new before after (suc zero) = Good × Fills found old new after 1
Finds Good found old new before after (suc (suc zero)) = IsUnchanged old new before after
Finds Good found old new before after (suc (suc (suc (suc zero)))) = ¬ Good × IsUnchanged old new before after
Finds Good found old new before after _ = ⊥

-- 3: the handle holds no dictionary, and the buffer and the count are unchanged. A handle with a dictionary has the
-- statuses that are given of this dictionary.
abbrev pub IfHeld : {T : Type 0} → Option Held → List T → List T → ℕ → ℕ → ℕ → (AnyDictionary → Type 0) → Type 0
IfHeld (Some (Dictionary dictionary)) old new before after status Says = Says dictionary
IfHeld _ old new before after status Says = (status ≡ 3) × IsUnchanged old new before after

-- The places of a word's breaks.
abbrev pub FindsBreaks : AnyDictionary → List ℕ → List ℕ → List ℕ → ℕ → ℕ → ℕ → Type 0
FindsBreaks dictionary word old new before after status =
    Finds (IsUtf8 word) (all_places_by dictionary word) old new before after status

abbrev pub WritesBreaks : Option Held → List ℕ → List ℕ → List ℕ → ℕ → ℕ → ℕ → Type 0
WritesBreaks holds word old new before after status =
    IfHeld holds old new before after status
    (λ dictionary. FindsBreaks dictionary word old new before after status)

-- The places of a word's breaks, by its NFC.
abbrev pub FindsComposedBreaks : AnyDictionary → List ℕ → List ℕ → List ℕ → ℕ → ℕ → ℕ → Type 0
FindsComposedBreaks dictionary word old new before after status =
    Finds (IsUtf8 word) (composed_places_by dictionary word) old new before after status

abbrev pub WritesComposedBreaks : Option Held → List ℕ → List ℕ → List ℕ → ℕ → ℕ → ℕ → Type 0
WritesComposedBreaks holds word old new before after status =
    IfHeld holds old new before after status
    (λ dictionary. FindsComposedBreaks dictionary word old new before after status)

-- The values of a word's places, from place 1 on.
abbrev pub FindsValues : AnyDictionary → List ℕ → List ℕ → List ℕ → ℕ → ℕ → ℕ → Type 0
FindsValues dictionary word old new before after status =
    Finds (IsUtf8 word) (values_by dictionary word) old new before after status

abbrev pub WritesValues : Option Held → List ℕ → List ℕ → List ℕ → ℕ → ℕ → ℕ → Type 0
WritesValues holds word old new before after status =
    IfHeld holds old new before after status
    (λ dictionary. FindsValues dictionary word old new before after status)

-- A text with the mark at each break of its words.
abbrev pub FindsMarkedText : AnyDictionary → List ℕ → List ℕ → List ℕ → List ℕ → ℕ → ℕ → ℕ → Type 0
FindsMarkedText dictionary text mark old new before after status =
    Finds (IsUtf8 text × IsUtf8 mark) (hyphenated_text (breaks_by dictionary) mark text) old new before after status

abbrev pub WritesMarkedText : Option Held → List ℕ → List ℕ → List ℕ → List ℕ → ℕ → ℕ → ℕ → Type 0
WritesMarkedText holds text mark old new before after status =
    IfHeld holds old new before after status
    (λ dictionary. FindsMarkedText dictionary text mark old new before after status)

-- The lines of a text, each with a line feed after it, by a standard dictionary. 6: the dictionary is an extended one,
-- and the buffer and the count are unchanged.
abbrev pub FindsLines : AnyDictionary → List ℕ → ℕ → List ℕ → List ℕ → ℕ → ℕ → ℕ → Type 0
FindsLines (of.Standard standard) text columns old new before after status =
    Finds (IsUtf8 text) (with_line_feeds (lines_by (breaks_by (of.Standard standard)) text columns)) old new before after
    status
FindsLines (of.Extended extended) text columns old new before after status = (status ≡ 6) × IsUnchanged old new before after

abbrev pub WritesLines : Option Held → List ℕ → ℕ → List ℕ → List ℕ → ℕ → ℕ → ℕ → Type 0
WritesLines holds text columns old new before after status =
    IfHeld holds old new before after status
    (λ dictionary. FindsLines dictionary text columns old new before after status)

-- The code of the dictionary's language.
abbrev pub WritesLanguage : Option Held → List ℕ → List ℕ → ℕ → ℕ → ℕ → Type 0
WritesLanguage holds old new before after status =
    IfHeld holds old new before after status
    (λ dictionary. Finds (Unit {0}) (language_by dictionary) old new before after status)

-- The dictionary's canonical text.
abbrev pub WritesCanonicalText : Option Held → List ℕ → List ℕ → ℕ → ℕ → ℕ → Type 0
WritesCanonicalText holds old new before after status =
    IfHeld holds old new before after status
    (λ dictionary. Finds (Unit {0}) (canonical_text dictionary) old new before after status)

-- ---- The least numbers of characters, in two numbers of the caller's.

-- 0: the numbers are the dictionary's minima. 3: the handle holds no dictionary, and both numbers are unchanged.
abbrev pub WritesMinima : Option Held → ℕ × ℕ → ℕ × ℕ → ℕ → Type 0
WritesMinima (Some (Dictionary dictionary)) old new status = (status ≡ 0) × (new ≡ minima_by dictionary)
WritesMinima _ old new status = (status ≡ 3) × (new ≡ old)

-- ---- Calls that write into two buffers.

-- A buffer and a count, before and after a call.
pub record Buffer (T : Type 0) : Type 0 where
  pub old : List T
  pub new : List T
  pub before : ℕ
  pub after : ℕ

abbrev pub into : {T : Type 0} → List T → List T → ℕ → ℕ → Buffer T
into old new before after = record { old = old; new = new; before = before; after = after }

-- Two buffers and their counts are unchanged.
abbrev pub AreUnchanged : {T U : Type 0} → Buffer T → Buffer U → Type 0
AreUnchanged b c = IsUnchanged b.old b.new b.before b.after × IsUnchanged c.old c.new c.before c.after

-- 0: both buffers are filled. 1: one of them is too short, both counts are the lengths found, and both buffers are
-- unchanged.
abbrev pub FillsBoth : {T U : Type 0} → List T → List U → Buffer T → Buffer U → ℕ → Type 0
FillsBoth found more b c zero = Fills found b.old b.new b.after 0 × Fills more c.old c.new c.after 0
FillsBoth found more b c (suc zero) =
    (b.after ≡ length found) × (c.after ≡ length more) × ((length b.old < b.after) ⊎ (length c.old < c.after))
    × (b.new ≡ b.old) × (c.new ≡ c.old)
FillsBoth found more b c _ = ⊥

-- 0 and 1: the arguments are good, and both buffers are filled, or one is too short. 2: out of memory. 4: the arguments
-- are not good. No other status comes, and from 2 on all is unchanged.
abbrev pub FindsBoth : {T U : Type 0} → Type 0 → List T → List U → Buffer T → Buffer U → ℕ → Type 0
FindsBoth Good found more b c zero = Good × FillsBoth found more b c 0
FindsBoth Good found more b c (suc zero) = Good × FillsBoth found more b c 1
FindsBoth Good found more b c (suc (suc zero)) = AreUnchanged b c
FindsBoth Good found more b c (suc (suc (suc (suc zero)))) = ¬ Good × AreUnchanged b c
FindsBoth Good found more b c _ = ⊥

-- ---- The changes of a word's breaks.

-- The breaks of a word with the changes that they make, and the texts of these.
abbrev pub FindChanges : AnyDictionary → List ℕ → Buffer BreakChange → Buffer ℕ → ℕ → Type 0
FindChanges dictionary word changes texts status =
    FindsBoth (IsUtf8 word) (map as_change (breaks_by dictionary word)) (texts_of (breaks_by dictionary word)) changes texts
    status

abbrev pub Changes : Option Held → List ℕ → Buffer BreakChange → Buffer ℕ → ℕ → Type 0
Changes (Some (Dictionary dictionary)) word changes texts status = FindChanges dictionary word changes texts status
Changes _ word changes texts status = (status ≡ 3) × AreUnchanged changes texts

-- ---- Loading, sharing and editing.

-- The text is refused at this line, for the cause of this number.
abbrev pub IsRefusedAt : Option (ℕ × Cause) → ℕ × ℕ → Type 0
IsRefusedAt (Some (line, cause)) place = place ≡ (line, cause_number cause)
IsRefusedAt None place = ⊥

-- A line with the number of a cause, and what the handle holds, before and after.
pub record Loading : Type 0 where
  pub old : Option Held
  pub new : Option Held
  pub before : ℕ × ℕ
  pub after : ℕ × ℕ

abbrev pub loading : Option Held → Option Held → ℕ × ℕ → ℕ × ℕ → Loading
loading old new before after = record { old = old; new = new; before = before; after = after }

-- 0: the text is accepted, and the handle holds the dictionary that it gives. 2: out of memory. 5: the text is refused at the
-- line and for the cause that are written. No other status comes. From 1 on the handle is unchanged, and the line and the cause
-- are written only with status 5.
abbrev pub LoadsAs : Kind → List ℕ → Loading → ℕ → Type 0
LoadsAs kind bytes l zero =
    (refusal_of kind bytes ≡ None) × (l.new ≡ Some (Dictionary (contents_as kind bytes))) × (l.after ≡ l.before)
LoadsAs kind bytes l (suc (suc zero)) = (l.new ≡ l.old) × (l.after ≡ l.before)
LoadsAs kind bytes l (suc (suc (suc (suc (suc zero))))) =
    IsRefusedAt (refusal_of kind bytes) l.after × (l.new ≡ l.old)
LoadsAs kind bytes l _ = ⊥

-- 6: no kind has that number, and all is unchanged. A kind has the statuses above.
abbrev pub Loads : Option Kind → List ℕ → Loading → ℕ → Type 0
Loads None bytes l status = (status ≡ 6) × (l.new ≡ l.old) × (l.after ≡ l.before)
Loads (Some kind) bytes l status = LoadsAs kind bytes l status

-- 0: the other handle holds this handle's dictionary. 2: out of memory. 3: this handle holds no dictionary. No other
-- status comes, and from 1 on the other handle is unchanged.
abbrev pub Shares : Option Held → Option Held → Option Held → ℕ → Type 0
Shares (Some (Dictionary dictionary)) old new zero = new ≡ Some (Dictionary dictionary)
Shares (Some (Dictionary dictionary)) old new (suc (suc zero)) = new ≡ old
Shares (Some (Dictionary dictionary)) old new _ = ⊥
Shares _ old new status = (status ≡ 3) × (new ≡ old)

-- 0: the edit is good, and is done. 2: out of memory. 4: the edit is not UTF-8. 5: it is UTF-8, and is refused. No
-- other status comes, and from 1 on the dictionary is unchanged.
abbrev pub EditsDictionary : AnyDictionary → AnyDictionary → List ℕ → ℕ → Type 0
EditsDictionary old new edit zero =
    IsUtf8 edit × IsTrue (is_good_edit (kind_by old) edit) × (new ≡ edited old edit)
EditsDictionary old new edit (suc (suc zero)) = new ≡ old
EditsDictionary old new edit (suc (suc (suc (suc zero)))) = ¬ IsUtf8 edit × (new ≡ old)
EditsDictionary old new edit (suc (suc (suc (suc (suc zero))))) =
    IsUtf8 edit × IsFalse (is_good_edit (kind_by old) edit) × (new ≡ old)
EditsDictionary old new edit _ = ⊥

-- 3: the handle holds no dictionary, and is unchanged. A dictionary has the statuses above, and the handle still holds
-- one.
abbrev pub Edits : Option Held → Option Held → List ℕ → ℕ → Type 0
Edits (Some (Dictionary old)) (Some (Dictionary new)) edit status = EditsDictionary old new edit status
Edits (Some (Dictionary old)) _ edit status = ⊥
Edits old new edit status = (status ≡ 3) × (new ≡ old)

-- 0: the dictionary has the greater ones of its minima and these. 2: out of memory, and the dictionary is unchanged. No
-- other status comes.
abbrev pub RaisesMinimaOf : AnyDictionary → AnyDictionary → ℕ → ℕ → ℕ → Type 0
RaisesMinimaOf old new left right zero = new ≡ raised left right old
RaisesMinimaOf old new left right (suc (suc zero)) = new ≡ old
RaisesMinimaOf old new left right _ = ⊥

-- 3: the handle holds no dictionary, and is unchanged. A dictionary has the statuses above, and the handle still holds
-- one.
abbrev pub RaisesMinima : Option Held → Option Held → ℕ → ℕ → ℕ → Type 0
RaisesMinima (Some (Dictionary old)) (Some (Dictionary new)) left right status = RaisesMinimaOf old new left right status
RaisesMinima (Some (Dictionary old)) _ left right status = ⊥
RaisesMinima old new left right status = (status ≡ 3) × (new ≡ old)

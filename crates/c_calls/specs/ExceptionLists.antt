-- Lists of exceptions that are added to a dictionary, and the statuses of the call that adds them.
use Rattle.std.specs.Prelude.{◌≡◌, zero, suc, ℕ, List, Option, None, Some}
use Rattle.any_dictionary.specs.declared.AnyDictionary.{AnyDictionary}
use Rattle.tex_files.specs.ExceptionLists.{list_fault, with_exceptions}
use Rattle.c_calls.specs.Contents.{Held, Dictionary}
use Rattle.c_calls.specs.Patterns.{IsFaultAt}
use Rattle.c_calls.specs.Statuses.{Loading}

-- 0: the text is a list, and the dictionary has its exceptions. 2: out of memory. 5: the text is refused at the line and for
-- the cause that are written. No other status comes. From 1 on the dictionary is unchanged, and the line and the cause are
-- written only with status 5.
abbrev pub AddsTo : AnyDictionary → AnyDictionary → List ℕ → ℕ × ℕ → ℕ × ℕ → ℕ → Type 0
AddsTo old new text before after zero = (list_fault text ≡ None) × (new ≡ with_exceptions old text) × (after ≡ before)
AddsTo old new text before after (suc (suc zero)) = (new ≡ old) × (after ≡ before)
AddsTo old new text before after (suc (suc (suc (suc (suc zero))))) = IsFaultAt (list_fault text) after × (new ≡ old)
AddsTo old new text before after _ = ⊥

-- 3: the handle holds no dictionary, and all is unchanged. A dictionary has the statuses above, and the handle still holds
-- one.
abbrev pub AddsIn : Option Held → Option Held → List ℕ → ℕ × ℕ → ℕ × ℕ → ℕ → Type 0
AddsIn (Some (Dictionary old)) (Some (Dictionary new)) text before after status = AddsTo old new text before after status
AddsIn (Some (Dictionary old)) _ text before after status = ⊥
AddsIn old new text before after status = (status ≡ 3) × (new ≡ old) × (after ≡ before)

abbrev pub AddsExceptions : List ℕ → Loading → ℕ → Type 0
AddsExceptions text l status = AddsIn l.old l.new text l.before l.after status

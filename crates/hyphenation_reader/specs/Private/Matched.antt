-- The values of a pattern and the changes that are listed after it, matched in one pass over both.
-- It follows the steps of private functions, which are proved equal to Items and Judging. No public contract cites it.
use Rattle.std.specs.Prelude.{ℕ, ◌+◌, ◌==◌, ◌&&◌, nat_le, Bool, true, false, if◌then◌else◌, List, [], ◌∷◌, Option, Some, None}
use Rattle.std.specs.List.{list_all, list_any}
use Rattle.hyphenation_breaks.specs.Break.{Change as Changed}
use Rattle.hyphenation_grammar.specs.Parsed.{ReadPattern}
use Rattle.hyphenation_reader.specs.Private.Parsed.{ReadLater}
use Rattle.hyphenation_reader.specs.Private.LineAnswers.{cause_by, suits_form}
use Rattle.hyphenation_breaks.specs.declared.entry.Entry.{Entry}
use Rattle.hyphenation_grammar.specs.declared.Cause.{Cause}
use Rattle.hyphenation_grammar.specs.declared.form.Form.{Form}

-- Places ascend strictly, from a least one on.
abbrev pub ascend : {X : Type 0} → ℕ → List (ℕ × X) → Bool
ascend least [] = true
ascend least (x ∷ xs) = nat_le least x.0 && ascend (x.0 + 1) xs

-- Each listed place has a value.
abbrev pub have_values : List (ℕ × ℕ) → List (ℕ × Option Changed) → Bool
have_values values listed = list_all (λ b. list_any (λ v. v.0 == b.0) values) listed

-- The listed changes that are not matched yet: the next one, if there is one, and the rest.
abbrev pub pending : Option (ℕ × Option Changed) → List (ℕ × Option Changed) → List (ℕ × Option Changed)
pending None rest = []
pending (Some b) rest = b ∷ rest

-- The change that is listed first, if it is at the place.
abbrev pub head_change_at : ℕ → List (ℕ × Option Changed) → Option Changed
head_change_at place [] = None
head_change_at place (b ∷ rest) = if b.0 == place then b.1 else None

-- The listed changes without the first one, if that is at the place.
abbrev pub tail_after : ℕ → List (ℕ × Option Changed) → List (ℕ × Option Changed)
tail_after place [] = []
tail_after place (b ∷ rest) = if b.0 == place then rest else b ∷ rest

-- The entries that one pass over values and listed changes makes.
abbrev pub matched_entries : {C : Type 0} → (Option Changed → C) → List (ℕ × ℕ) → List (ℕ × Option Changed)
    → List (Entry C)
matched_entries payload_of [] listed = []
matched_entries payload_of (v ∷ values) listed =
    record { place = v.0; value = v.1; change = payload_of (head_change_at v.0 listed) }
    ∷ matched_entries payload_of values (tail_after v.0 listed)

-- The listed changes that this pass leaves.
abbrev pub unmatched_changes : List (ℕ × ℕ) → List (ℕ × Option Changed) → List (ℕ × Option Changed)
unmatched_changes [] listed = listed
unmatched_changes (v ∷ values) listed = unmatched_changes values (tail_after v.0 listed)

-- A change is allowed in a `p` line, even without a value at its place.
abbrev pub suits_form_in_pattern : Form → List ℕ → ℕ × Option Changed → Bool
suits_form_in_pattern form key (place, None) = false
suits_form_in_pattern form key (place, Some change) = suits_form form key place change

-- The first test after Token that a `p` line fails, before its changes are matched with its values.
abbrev pub cause_before_match : Form → ReadPattern → ReadLater → Option Cause
cause_before_match form pattern later = cause_by (suits_form_in_pattern form pattern.key) pattern later

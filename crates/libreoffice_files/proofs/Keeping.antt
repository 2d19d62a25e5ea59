-- One more that is kept, or none.
use Rattle.std.proofs.Common.{◌≡◌, ℕ, Bool, List, [], ◌∷◌, ◌++◌, length, map, Option, Some, None, Result, Ok, Err, refl, sym, ap, ◌∙◌}
use Rattle.std.specs.Option.{option_to_list}
use Rattle.std.specs.List.{cons_option}
use Rattle.std.proofs.lemmas.List.{append_assoc, append-nil}
use Rattle.hyphenation_breaks.specs.declared.entry.Entry.{Entry}
use Rattle.pattern_results.specs.Parts.{SpeltWords}
use Rattle.libreoffice_files.specs.LibreOfficePatterns.{spelt_with}
use Rattle.libreoffice_files.specs.Private.Views.{with_keys}
use Rattle.libreoffice_files.specs.Private.Views.{change_kept, keyed_view}
use Rattle.libreoffice_files.specs.LibreOfficeLines.{DicLine}
use Rattle.libreoffice_files.specs.LibreOffice.{all_patterns}
use Rattle.std.specs.declared.vec.Vec.{Vec}
use Rattle.libreoffice_files.specs.declared.dic_patterns.Pattern as held
use Rattle.std.proofs.lemmas.List.{length-map}
use Rattle.libreoffice_files.specs.declared.change.PlacedChange.{PlacedChange}
use Rattle.pattern_results.specs.declared.notes.NoteKind.{NoteKind}
use Rattle.libreoffice_files.specs.declared.value.Value.{Value}

pub kept_on : {X : Type 0} (xs : List X) (o : Option X) (rest : List X) → (xs ++ option_to_list o) ++ rest ≡ xs ++ cons_option o rest
kept_on {X} xs None rest = ap (λ (l : List X). l ++ rest) (append-nil xs)
kept_on xs (Some x) rest = append_assoc xs (x ∷ []) rest

pub kept_more : {C B : Type 0} (now : SpeltWords C B) (o : Option (List ℕ × List (Entry C))) (rest : List (List ℕ × List (Entry C)))
    → with_keys (with_keys now (option_to_list o)) rest ≡ with_keys now (cons_option o rest)
kept_more now o rest = λ i. record { patterns = kept_on now.patterns o rest i; exceptions = now.exceptions }

-- a change that is kept, and one that can't be
pub kept_some : (values : List Value) (r : Result (PlacedChange × Bool) NoteKind) (p : PlacedChange) → Some p ≡ change_kept r → spelt_with values (Some r) ≡ Some (record { values = values; change = Some p })
kept_some values (Ok found) p e = λ i. Some (record { values = values; change = sym e i })
kept_some values (Err what) p e = absurd cc

pub kept_none : (values : List Value) (r : Result (PlacedChange × Bool) NoteKind) → None ≡ change_kept r → spelt_with values (Some r) ≡ None
kept_none values (Ok found) e = absurd cc
kept_none values (Err what) e = refl

pub as_many : {Z : Type 0} (ps : List (Vec ℕ Z × held.Pattern)) (lines : List DicLine) → map keyed_view ps ≡ all_patterns lines → length ps ≡ length (all_patterns lines)
as_many ps lines e = sym (length-map ps keyed_view) ∙ ap length e

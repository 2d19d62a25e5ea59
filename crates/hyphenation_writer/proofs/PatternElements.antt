-- A key with its values, written byte by byte.
use Rattle.std.proofs.Common.{◌≡◌, ℕ, suc, ◌+◌, ◌<◌, Bool, true, false, cond, eqb, List, [], ◌∷◌, ◌++◌, length, map, drop, get_or, Option, refl, sym, ap, ◌∙◌, append_assoc, arith, drop-cons}
use Rattle.std.specs.Prelude.{flat_map}
use Rattle.hyphenation_breaks.specs.Break.{Change}
use Rattle.hyphenation_writer.specs.Canonical.{byte_spelling, element_spelling, elements_for, entry_as_spelt}
use Rattle.hyphenation_grammar.specs.Tokens.{pattern_escapes}
use Rattle.hyphenation_writer.specs.Private.Writing.{first_value_at, entries_after}
use Rattle.hyphenation_breaks.specs.declared.entry.Entry.{Entry}
use Rattle.hyphenation_grammar.specs.declared.form.Version.{Version}
use Rattle.hyphenation_grammar.specs.declared.tokens.PatternElement.TheVariants.{Letter, Value}

marks_at : {C : Type 0} (version : Version) (change_of : C → Option Change) (at b : ℕ) (key : List ℕ) (es : List (Entry C))
    → first_value_at version at es ++ (byte_spelling (pattern_escapes version) b ++ flat_map (element_spelling version) (elements_for (at + 1) key (map (entry_as_spelt change_of) (entries_after at es))))
    ≡ flat_map (element_spelling version) (elements_for at (b ∷ key) (map (entry_as_spelt change_of) es))
marks_at version change_of at b key [] = refl
marks_at {C} version change_of at b key (e ∷ es) = by (eqb e.place at)
  where
    by : (t : Bool) → cond t (element_spelling version (Value e.value)) [] ++ (byte_spelling (pattern_escapes version) b ++ flat_map (element_spelling version) (elements_for (at + 1) key (map (entry_as_spelt change_of) (cond {A = List (Entry C)} t es (e ∷ es)))))
        ≡ flat_map (element_spelling version) (cond t (Value e.value ∷ Letter b ∷ elements_for (at + 1) key (map (entry_as_spelt change_of) es)) (Letter b ∷ elements_for (at + 1) key (map (entry_as_spelt change_of) (e ∷ es))))
    by true = refl
    by false = refl

more_marks : (old mid new v w rest all : List ℕ) → mid ≡ old ++ v → new ≡ mid ++ w → v ++ (w ++ rest) ≡ all → new ++ rest ≡ old ++ all
more_marks old mid new v w rest all a b c =
    ap (λ (x : List ℕ). x ++ rest) b ∙ append_assoc mid w rest ∙ ap (λ (x : List ℕ). x ++ (w ++ rest)) a ∙ append_assoc old v (w ++ rest) ∙ ap (λ (x : List ℕ). old ++ x) c

pub key_step : {C : Type 0} (version : Version) (change_of : C → Option Change) (at : ℕ) (key : List ℕ) (es later : List (Entry C)) (old mid new all : List ℕ) → at < length key
    → mid ≡ old ++ first_value_at version at es → later ≡ entries_after at es → new ≡ mid ++ byte_spelling (pattern_escapes version) (get_or key at 0)
    → old ++ flat_map (element_spelling version) (elements_for at (drop at key) (map (entry_as_spelt change_of) es)) ≡ all
    → new ++ flat_map (element_spelling version) (elements_for (at + 1) (drop (at + 1) key) (map (entry_as_spelt change_of) later)) ≡ all
key_step {C} version change_of at key es later old mid new all lt a l b h =
    ap (λ (xs : List (Entry C)). new ++ flat_map (element_spelling version) (elements_for (at + 1) (drop (at + 1) key) (map (entry_as_spelt change_of) xs))) l
    ∙ more_marks old mid new (first_value_at version at es) (byte_spelling (pattern_escapes version) (get_or key at 0)) (flat_map (element_spelling version) (elements_for (at + 1) (drop (at + 1) key) (map (entry_as_spelt change_of) (entries_after at es))))
    (flat_map (element_spelling version) (elements_for at (drop at key) (map (entry_as_spelt change_of) es))) a b
    (marks_at version change_of at (get_or key at 0) (drop (at + 1) key) es
    ∙ ap (λ (k : List ℕ). flat_map (element_spelling version) (elements_for at k (map (entry_as_spelt change_of) es))) (ap (λ (n : ℕ). get_or key at 0 ∷ drop n key) (next at) ∙ sym (drop-cons key at 0 lt)))
    ∙ h
  where
    next : (n : ℕ) → n + 1 ≡ suc n
    next n = omega arith

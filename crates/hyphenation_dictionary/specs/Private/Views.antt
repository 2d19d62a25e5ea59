-- The parts of a dictionary as finite maps, and codes that distinguish values.
use Rattle.std.specs.Prelude.{ℕ, List, map, refl}
use Rattle.std.specs.Coded.{Coded, coded_ℕ, coded×, coded_list, code_by}
use Rattle.std.specs.FinMap as finite
use Rattle.std.specs.String.{string_bytes}
use Rattle.std.specs.HashMap.{HashMap}
use Rattle.std.specs.declared.string.String.{String}
use Rattle.std.specs.declared.vec.Vec.{Vec}
use Rattle.hyphenation_breaks.specs.Dictionary.{Contents, TextMap}
use Rattle.hyphenation_breaks.specs.declared.entry.Entry.{Entry}

-- An entry is coded as its place, its value and its payload.
abbrev pub entry_code : {C : Type 0} → Coded C → Coded (Entry C)
entry_code {C} code =
    code_by (ℕ × (ℕ × C)) (coded× coded_ℕ (coded× coded_ℕ code)) (λ e. (e.place, (e.value, e.change)))
    (λ p. record { place = p.0; value = p.1.0; change = p.1.1 }) (λ _. refl)

-- The contents of a dictionary are coded as their parts, one after the other.
abbrev pub contents_code : {C B : Type 0} → Coded C → Coded B → Coded (Contents C B)
contents_code {C} {B} code listed =
    code_by (List ℕ × (ℕ × (ℕ × (TextMap (List (Entry C)) × TextMap (List B)))))
    (coded× (coded_list coded_ℕ)
    (coded× coded_ℕ (coded× coded_ℕ
    (coded× (finite.code (coded_list coded_ℕ) (coded_list (entry_code code))) (finite.code (coded_list coded_ℕ)
    (coded_list listed))))))
    (λ v. (v.language, (v.left, (v.right, (v.patterns, v.exceptions)))))
    (λ p. record { language = p.0; left = p.1.0; right = p.1.1.0; patterns = p.1.1.1.0; exceptions = p.1.1.1.1 })
    (λ _. refl)

-- The finite map of the words of a hash map, each with its list.
abbrev pub exceptions_of : {B Y Z S : Type 0} → HashMap (String Y) (Vec B Z) S → TextMap (List B)
exceptions_of m = finite.from_entries (map (λ x. (string_bytes x.0, x.1.items)) m.entries)

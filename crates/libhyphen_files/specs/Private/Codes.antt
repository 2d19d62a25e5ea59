-- Codes that distinguish the values of levels and of rules.
use Rattle.std.specs.Prelude.{ℕ, ℤ, Bool, List, Option, refl}
use Rattle.std.specs.Coded.{Coded, coded_ℕ, coded_ℤ, coded_bool, coded×, coded_list, coded_option, code_by}
use Rattle.std.specs.FinMap as finite
use Rattle.hyphenation_breaks.specs.Dictionary.{TextMap}
use Rattle.libhyphen_files.specs.Files.{Rules}
use Rattle.libhyphen_files.specs.Levels.{Level}
use Rattle.libhyphen_files.specs.Patterns.{Change, Pattern}
use Rattle.libhyphen_files.specs.declared.minima.Minima.{Minima}

-- A change is coded as its parts, one after the other.
abbrev pub change_code : Coded Change
change_code =
    code_by (List ℕ × (ℤ × ℤ)) (coded× (coded_list coded_ℕ) (coded× coded_ℤ coded_ℤ))
    (λ c. (c.text, (c.start, c.cut))) (λ p. record { text = p.0; start = p.1.0; cut = p.1.1 }) (λ _. refl)

abbrev pub pattern_code : Coded Pattern
pattern_code =
    code_by (List ℕ × Option Change) (coded× (coded_list coded_ℕ) (coded_option change_code))
    (λ p. (p.digits, p.change)) (λ p. record { digits = p.0; change = p.1 }) (λ _. refl)

abbrev pub minima_code : Coded Minima
minima_code =
    code_by (ℤ × (ℤ × (ℤ × ℤ))) (coded× coded_ℤ (coded× coded_ℤ (coded× coded_ℤ coded_ℤ)))
    (λ m. (m.left, (m.right, (m.compound_left, m.compound_right))))
    (λ p. record { left = p.0; right = p.1.0; compound_left = p.1.1.0; compound_right = p.1.1.1 }) (λ _. refl)

-- A level is coded as its parts.
abbrev pub level_code : Coded Level
level_code =
    code_by (Minima × (List (List ℕ) × TextMap (List Pattern)))
    (coded× minima_code (coded× (coded_list (coded_list coded_ℕ))
    (finite.code (coded_list coded_ℕ) (coded_list pattern_code))))
    (λ l. (l.minima, (l.no_hyphen, l.patterns)))
    (λ p. record { minima = p.0; no_hyphen = p.1.0; patterns = p.1.1 }) (λ _. refl)

-- Rules are coded as their parts.
abbrev pub rules_code : Coded Rules
rules_code =
    code_by (List ℕ × (Bool × (Level × Level)))
    (coded× (coded_list coded_ℕ) (coded× coded_bool (coded× level_code level_code)))
    (λ r. (r.charset, (r.utf8, (r.first_level, r.next_level))))
    (λ p. record { charset = p.0; utf8 = p.1.0; first_level = p.1.1.0; next_level = p.1.1.1 }) (λ _. refl)

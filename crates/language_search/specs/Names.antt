-- The names that the dictionary of a language may have. Source: the names of the dictionaries that languages/make writes.
use Rattle.std.specs.Prelude.{ℕ, if◌then◌else◌, List, [], ◌∷◌, codes, Option, Some, None}
use Rattle.std.specs.Str.{bytes_eq}

-- The usual variant of a language whose patterns come only in variants.
unfoldable pub usual_variant : List ℕ → Option (List ℕ)
usual_variant code =
    if bytes_eq code (codes "de") then Some (codes "de-1996")
    else (if bytes_eq code (codes "el") then Some (codes "el-monoton")
    else (if bytes_eq code (codes "en") then Some (codes "en-us")
    else (if bytes_eq code (codes "mn") then Some (codes "mn-cyrl")
    else (if bytes_eq code (codes "sh") then Some (codes "sh-latn")
    else (if bytes_eq code (codes "sr") then Some (codes "sr-cyrl")
    else None)))))

-- A name, if there is one.
abbrev pub name_if_any : Option (List ℕ) → List (List ℕ)
name_if_any (Some name) = name ∷ []
name_if_any None = []

-- The names of a code: the code itself, and then its usual variant, if it has one.
abbrev pub names_of : List ℕ → List (List ℕ)
names_of code = code ∷ name_if_any (usual_variant code)

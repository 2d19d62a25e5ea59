-- The language that the name of a file says, as hyph-utf8 names its files.
use Rattle.std.specs.Prelude.{ℕ, ◌+◌, ◌==◌, Bool, true, false, not, if◌then◌else◌, List, [], ◌∷◌, codes, take, Option, None, Some, option_map, option_and_then, unwrap_or, position}
use Rattle.hyphenation_grammar.specs.Lines.{is_same, strip_prefix}

-- A path has a slash.
abbrev pub has_slash : List ℕ → Bool
has_slash [] = false
has_slash (b ∷ path) = if b == 47 then true else has_slash path

-- The name of a file: the part of its path after the last slash, or all of it if there is none.
abbrev pub name_in : List ℕ → List ℕ
name_in [] = []
name_in (b ∷ path) = if has_slash (b ∷ path) then name_in path else b ∷ path

-- The part of a text before its first dot, if it has one.
abbrev pub before_dot : List ℕ → Option (List ℕ)
before_dot text = option_map (λ at. take at text) (position (λ b. b == 46) text)

-- A text without `quote-` at its beginning: patterns for quoted words are of the same language.
abbrev pub without_quote : List ℕ → List ℕ
without_quote text = unwrap_or (strip_prefix (codes "quote-") text) text

-- The tag of a language in the name of a file: the part between `hyph-` or `hyph-quote-` and the next dot.
abbrev pub tag_in : List ℕ → Option (List ℕ)
tag_in path = option_and_then (λ text. before_dot (without_quote text)) (strip_prefix (codes "hyph-") (name_in path))

-- A file, by its tag if it has one, is of another language than that of the first tag.
abbrev pub is_other : List ℕ → Option (List ℕ) → Bool
is_other first None = false
is_other first (Some tag) = not (is_same first tag)

-- The number of the first file of another language than those before it. The files before have that tag, or none, and
-- the next file has that number.
abbrev pub other_language_from : Option (List ℕ) → ℕ → List (List ℕ) → Option ℕ
other_language_from known index [] = None
other_language_from None index (path ∷ paths) = other_language_from (tag_in path) (index + 1) paths
other_language_from (Some first) index (path ∷ paths) =
    if is_other first (tag_in path) then Some index else other_language_from (Some first) (index + 1) paths

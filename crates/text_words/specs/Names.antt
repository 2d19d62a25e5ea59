-- Names in texts: addresses of the web and of mail, paths, identifiers, and names of files and hosts.
use Rattle.std.specs.Prelude.{◌≡◌, ℕ, ◌==◌, ◌||◌, ◌&&◌, Bool, true, false, not, List, [], ◌∷◌, codes, nat_eq, nat_le, map, drop, length}
use Rattle.std.specs.Char.{is_ascii_alphabetic, is_ascii_alphanumeric}
use Rattle.std.specs.List.{list_all, list_any, starts_with}
use Rattle.text_words.specs.declared.names.TheConstants.{ENDINGS}

-- A byte is an ASCII letter or digit, or belongs to a character beyond ASCII.
abbrev pub is_of_word : ℕ → Bool
is_of_word b = is_ascii_alphanumeric b || nat_le 128 b

-- The first byte of a text is of a word.
abbrev pub begins_with_word : List ℕ → Bool
begins_with_word [] = false
begins_with_word (b ∷ bs) = is_of_word b

-- The first byte of a text is an '@' between this byte and the next one, which are of words.
abbrev pub begins_with_at : ℕ → List ℕ → Bool
begins_with_at before (at ∷ after ∷ text) = at == 64 && is_of_word before && is_of_word after
begins_with_at before _ = false

-- The first byte of a text is a backslash or a low line.
abbrev pub begins_with_mark : List ℕ → Bool
begins_with_mark [] = false
begins_with_mark (b ∷ bs) = b == 92 || b == 95

-- A text after this byte, which is of no word, begins with a slash and a byte of a word, or with "./" or "~/".
abbrev pub begins_with_path : ℕ → List ℕ → Bool
begins_with_path before (a ∷ b ∷ text) = not (is_of_word before) && (a == 47 && is_of_word b || (a == 46 || a == 126) && b == 47)
begins_with_path before _ = false

-- A text begins with an ending, and no byte of a word follows.
abbrev pub ends_with : List ℕ → List ℕ → Bool
ends_with text ending = starts_with nat_eq text ending && not (begins_with_word (drop (length ending) text))

-- A text begins so with one of some endings.
abbrev pub has_end_of : List ℕ → List (List ℕ) → Bool
has_end_of text endings = list_any (ends_with text) endings

-- The texts of a table of the code.
abbrev pub names_in : List (record { now : List ℕ }) → List (List ℕ)
names_in table = map (λ name. name.now) table

-- A text after this byte, which is of a word, begins with a dot and the ending of a name.
abbrev pub ends_name : ℕ → List ℕ → Bool
ends_name before [] = false
ends_name before (dot ∷ text) = dot == 46 && is_of_word before && has_end_of text (names_in ENDINGS)

-- A text after this byte begins with a sign of a name.
unfoldable pub begins_with_sign : ℕ → List ℕ → Bool
begins_with_sign before text =
    starts_with nat_eq text (codes ":/") || starts_with nat_eq text (codes "www.") || begins_with_at before text
    || begins_with_mark text || begins_with_path before text || ends_name before text

-- A sign of a name is in a text, which this byte is before.
abbrev pub has_sign : ℕ → List ℕ → Bool
has_sign before [] = false
has_sign before (b ∷ bs) = begins_with_sign before (b ∷ bs) || has_sign b bs

-- A text between white space is a name, with what is written around it: it has one of these signs.
unfoldable pub is_name : List ℕ → Bool
is_name text = has_sign 0 text

-- A text that has only ASCII letters is no name.
abbrev pub LettersAreNoName : Type 0
LettersAreNoName = (text : List ℕ) → list_all is_ascii_alphabetic text ≡ true → is_name text ≡ false

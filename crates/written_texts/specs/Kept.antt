-- Lines that stay as they are.
use Rattle.std.specs.Prelude.{ℕ, ◌-◌, ◌==◌, ◌&&◌, ◌||◌, nat_eq, nat_lt, Bool, true, false, not, if◌then◌else◌, List, []}
use Rattle.std.specs.Prelude.{◌∷◌, length, map, drop, codes, chars, Option, Some, None}
use Rattle.std.specs.Char.{is_ascii_digit, is_ascii_graphic, is_ascii_uppercase, to_ascii_lowercase}
use Rattle.std.specs.Char.Unicode.Alphabetic.{is_alphabetic}
use Rattle.std.specs.Char.Unicode.Numeric.{is_numeric}
use Rattle.std.specs.Cmp.Lexicographic.{pointwise}
use Rattle.std.specs.Int.{is_in_range}
use Rattle.std.specs.List.{list_all, list_any, prefix_len, take_while}
use Rattle.hyphenation_breaks.specs.Ascii.{hash, hyphen, space}
use Rattle.written_texts.specs.Prefixes.{begins, is_deep, unquoted, bare, rest_of}
use Rattle.written_texts.specs.declared.place.LinePlace.{LinePlace}
use Rattle.written_texts.specs.declared.place.LinePlace.TheVariants.{Beginning, Head, Body, Fence, Tildes, Signature}

-- ---- the head of a mail

-- A byte may be in the name of a field: it is a printable character of ASCII, but no colon.
abbrev pub is_name_byte : ℕ → Bool
is_name_byte b = is_ascii_graphic b && not (b == 58)

-- The name that a line begins with, up to a colon.
abbrev pub name_of : List ℕ → List ℕ
name_of line = take_while is_name_byte line

-- A line is a field: it begins with a name and a colon.
abbrev pub is_field : List ℕ → Bool
is_field line = nat_lt 0 (length (name_of line)) && begins (drop (length (name_of line)) line) (codes ":")

-- Two names are one. Small letters and capitals are alike.
abbrev pub is_same_name : List ℕ → List ℕ → Bool
is_same_name a b = pointwise nat_eq (map to_ascii_lowercase a) (map to_ascii_lowercase b)

-- The names of the fields with one of which the head of a mail begins.
abbrev pub usual_names : List (List ℕ)
usual_names =
    codes "From" ∷ codes "To" ∷ codes "Cc" ∷ codes "Subject" ∷ codes "Date" ∷ codes "Reply-To" ∷ codes "Sender"
    ∷ codes "Message-ID" ∷ codes "Received" ∷ codes "Return-Path" ∷ codes "Delivered-To" ∷ codes "Newsgroups" ∷ []

-- A line is a field with a usual name.
abbrev pub is_usual_field : List ℕ → Bool
is_usual_field line = is_field line && list_any (is_same_name (name_of line)) usual_names

-- A text begins with a capital letter of ASCII.
abbrev pub is_capitalized : List ℕ → Bool
is_capitalized [] = false
is_capitalized (b ∷ bs) = is_ascii_uppercase b

-- A byte is a hyphen.
abbrev pub is_hyphen : ℕ → Bool
is_hyphen b = b == hyphen

-- A name has two words, as MIME-Version has: it begins with a capital letter, and has a hyphen.
abbrev pub has_two_words : List ℕ → Bool
has_two_words name = is_capitalized name && list_any is_hyphen name

-- A line that a text begins with is a field of a head: its name is a usual one, or has two words.
abbrev pub is_first_field : List ℕ → Bool
is_first_field line = is_usual_field line || is_field line && has_two_words (name_of line)

-- A line goes on with the field before it.
abbrev pub goes_on : List ℕ → Bool
goes_on line = begins line (codes " ") || begins line (9 ∷ [])

-- A line parts the mails of a mailbox: it begins with `From ` and ends in a year.
abbrev pub is_from_line : List ℕ → Bool
is_from_line line = begins line (codes "From ") && list_all is_ascii_digit (drop (length line - 4) line)

-- ---- other lines

-- A line begins or ends lines of code: it has three backquotes.
abbrev pub is_fence : List ℕ → Bool
is_fence line = begins (bare line) (codes "```")

-- The same with three tildes.
abbrev pub is_tildes : List ℕ → Bool
is_tildes line = begins (bare line) (codes "~~~")

-- A line is the mark of a signature.
abbrev pub is_signature_mark : List ℕ → Bool
is_signature_mark line = pointwise nat_eq (bare line) (codes "-- ") || pointwise nat_eq (bare line) (codes "--")

-- The number of hashes that a text begins with.
abbrev pub hashes : List ℕ → ℕ
hashes text = prefix_len (λ b. b == hash) text

-- A text begins with one to six hashes and a space.
abbrev pub begins_heading : List ℕ → Bool
begins_heading text = nat_lt 0 (hashes text) && nat_lt (hashes text) 7 && begins (drop (hashes text) text) (codes " ")

-- A line is a heading.
abbrev pub is_heading : List ℕ → Bool
is_heading line = begins_heading (bare line)

-- A character is a letter or a digit.
abbrev pub is_letter : ℕ → Bool
is_letter c = is_alphabetic c || is_numeric c

-- A line has a letter or a digit after its prefix.
abbrev pub has_letters : List ℕ → Bool
has_letters line = list_any is_letter (chars (rest_of line))

-- A line is no prose: it is a heading, a row of a table, or has no letter or digit.
abbrev pub is_no_prose : List ℕ → Bool
is_no_prose line = is_heading line || begins (bare line) (codes "|") || not (has_letters line)

-- A line or its text after the quote is indented as code is.
abbrev pub is_code : List ℕ → Bool
is_code line = is_deep line || is_deep (unquoted line)

-- ---- where a line is

-- A line begins the head of a mail: it parts the mails of a mailbox, or is a usual field.
abbrev pub begins_head : List ℕ → Bool
begins_head line = is_from_line line || is_usual_field line

-- The place after a line that stays as it is; none if it does not stay. No head, and no code, begins in the middle of a
-- paragraph, which goes on where `joins` is true.
abbrev pub place_in_body : Bool → List ℕ → Option LinePlace
place_in_body joins line =
    if not joins && begins_head line then Some Head
    else if not joins && is_code line then Some Body
    else if is_fence line then Some Fence
    else if is_tildes line then Some Tildes
    else if is_signature_mark line then Some Signature
    else if is_no_prose line then Some Body else None

-- The same for a line with a word, at any place outside of fences.
abbrev pub place_of_words : LinePlace → Bool → List ℕ → Option LinePlace
place_of_words Beginning joins line = if is_first_field line then Some Head else place_in_body joins line
place_of_words Head joins line = if is_field line || goes_on line then Some Head else place_in_body joins line
place_of_words Body joins line = place_in_body joins line
place_of_words Fence joins line = if is_fence line then Some Body else Some Fence
place_of_words Tildes joins line = if is_tildes line then Some Body else Some Tildes
place_of_words Signature joins line = Some Signature

-- A place is within fences.
abbrev pub is_fenced : LinePlace → Bool
is_fenced Beginning = false
is_fenced Head = false
is_fenced Body = false
is_fenced Fence = true
is_fenced Tildes = true
is_fenced Signature = false

-- A byte is white space.
abbrev pub is_white : ℕ → Bool
is_white b = b == space || is_in_range 9 13 b

-- A line has nothing beside quote signs and white space, and is not within fences.
abbrev pub is_empty_line : LinePlace → List ℕ → Bool
is_empty_line place line = not (is_fenced place) && list_all is_white (unquoted line)

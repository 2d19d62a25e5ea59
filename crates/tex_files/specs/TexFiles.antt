-- Laws on TeX files and plain ones, in the format's own words. They say the words of every text without comments, and
-- they say that comments mean nothing.
use Rattle.std.specs.Prelude.{◌≡◌, ◌≢◌, ℕ, ◌+◌, ◌==◌, ◌||◌, Bool, true, false, not, if◌then◌else◌, All, List, [], ◌∷◌, ◌++◌, map, length, filter, codes, Option, Some, None, option_map}
use Rattle.std.specs.List.{slice_split}
use Rattle.hyphenation_breaks.specs.Ascii.{line_feed, space, backslash, open_brace}
use Rattle.hyphenation_grammar.specs.Tokens.{is_brace}
use Rattle.pattern_results.specs.Texts.{line_feeds}
use Rattle.tex_files.specs.Converting.{words_of, group_fault}
use Rattle.tex_files.specs.Groups.{GroupWord, is_space}
use Rattle.pattern_results.specs.declared.errors.FileCause.{FileCause}
use Rattle.pattern_results.specs.declared.errors.FileCause.TheVariants.{Input, Unclosed}
use Rattle.tex_files.specs.declared.group.FileForm.TheVariants.{Tex, Plain}
use Rattle.tex_files.specs.declared.group.Group.{Group}
use Rattle.tex_files.specs.declared.group.Group.TheVariants.{Patterns, Exceptions}

-- ---- Words and lines.

-- A text with white space around each brace, and before each backslash.
abbrev pub spaced : List ℕ → List ℕ
spaced [] = []
spaced (b ∷ bs) =
    if is_brace b then space ∷ b ∷ space ∷ spaced bs
    else (if b == backslash then space ∷ b ∷ spaced bs else b ∷ spaced bs)

-- The words of a line: the texts between its white space that are not empty.
abbrev pub line_words : Group → ℕ → List ℕ → List GroupWord
line_words group number line =
    map (λ word. record { line = number; group = group; text = word })
    (filter (λ word. not (length word == 0)) (slice_split is_space line))

-- The words of lines, the first of which has that number.
abbrev pub words_from : Group → ℕ → List (List ℕ) → List GroupWord
words_from group number [] = []
words_from group number (line ∷ lines) = line_words group number line ++ words_from group (number + 1) lines

-- The words of a text, line by line. Its first line has that number.
abbrev pub words_between : Group → ℕ → List ℕ → List GroupWord
words_between group number text = words_from group number (slice_split (λ b. b == line_feed) text)

-- The words of a text of TeX: a brace is a word, and a backslash begins one.
abbrev pub tex_words : Group → ℕ → List ℕ → List GroupWord
tex_words group number text = words_between group number (spaced text)

-- Words that many lines later.
abbrev pub words_later : ℕ → List GroupWord → List GroupWord
words_later lines words = map {A = GroupWord} (λ word. record word { line = lines + word.line }) words

-- A fault that many lines later.
abbrev pub fault_later : ℕ → Option (ℕ × FileCause) → Option (ℕ × FileCause)
fault_later lines fault = option_map (λ f. (lines + f.0, f.1)) fault

-- ---- Texts.

-- A text is nowhere in another.
abbrev pub HasNo : List ℕ → List ℕ → Type 0
HasNo part text = (before after : List ℕ) → text ≡ before ++ part ++ after → ⊥

-- A text is no word of another.
abbrev pub HasNoWord : List ℕ → List ℕ → Type 0
HasNoWord word text = All (λ w. w.text ≢ word) (tex_words Patterns 1 text)

-- A text outside of groups: it has no comment, and no command that means something there.
pub record IsOutside (text : List ℕ) : Type 0 where
  pub comments : HasNo (codes "%") text
  pub patterns : HasNoWord (codes "\\patterns") text
  pub exceptions : HasNoWord (codes "\\hyphenation") text
  pub inputs : HasNoWord (codes "\\input") text
  pub ends : HasNoWord (codes "\\endinput") text

-- A text inside of a group: it has no comment, and no closing brace.
pub record IsInside (text : List ℕ) : Type 0 where
  pub comments : HasNo (codes "%") text
  pub closes : HasNo (codes "}") text

-- The command that opens a group.
abbrev pub command : Group → List ℕ
command Patterns = codes "\\patterns"
command Exceptions = codes "\\hyphenation"

-- White space, and the end of a line.
abbrev pub is_blank : ℕ → Bool
is_blank b = b == line_feed || is_space b

-- A text has nothing but white space and line feeds.
abbrev pub IsBlank : List ℕ → Type 0
IsBlank [] = Unit {0}
IsBlank (b ∷ bs) = (is_blank b ≡ true) × IsBlank bs

-- A command ends where this text begins: the file ends there, or white space, a brace or another command follows.
abbrev pub EndsCommand : List ℕ → Type 0
EndsCommand [] = Unit {0}
EndsCommand (b ∷ bs) = (is_blank b || (is_brace b || b == backslash)) ≡ true

-- The first byte of a text that is neither white space nor a line feed is an opening brace.
abbrev pub begins_group : List ℕ → Bool
begins_group [] = false
begins_group (b ∷ bs) = if is_blank b then begins_group bs else b == open_brace

-- ---- Laws.

-- A reading is the same without a comment, from its percent sign to the line's end.
abbrev pub IgnoresComments : {A : Type 0} → (List ℕ → A) → Type 0
IgnoresComments read = (before comment after : List ℕ) → HasNo (codes "\n") comment
    → read (before ++ codes "%" ++ comment ++ codes "\n" ++ after) ≡ read (before ++ codes "\n" ++ after)

-- A reading is the same without a comment at the file's end, which no line feed ends.
abbrev pub IgnoresLastComment : {A : Type 0} → (List ℕ → A) → Type 0
IgnoresLastComment read = (before comment : List ℕ) → HasNo (codes "\n") comment
    → read (before ++ codes "%" ++ comment) ≡ read before

-- A file's words are those of its first group, and then those of the text after it.
abbrev pub HasWordsOfFirstGroupAndRest : Type 0
HasWordsOfFirstGroupAndRest = (group : Group) (before gap inside after : List ℕ) → IsOutside before → IsBlank gap
    → IsInside inside
    → words_of Tex (before ++ command group ++ gap ++ codes "{" ++ inside ++ codes "}" ++ after)
    ≡ tex_words group (1 + (line_feeds before + line_feeds gap)) inside
    ++ words_later (line_feeds before + line_feeds gap + line_feeds inside) (words_of Tex after)

-- The fault of a file's groups is that of the text after the first group.
abbrev pub HasFaultOfRest : Type 0
HasFaultOfRest = (group : Group) (before gap inside after : List ℕ) → IsOutside before → IsBlank gap → IsInside inside
    → group_fault Tex (before ++ command group ++ gap ++ codes "{" ++ inside ++ codes "}" ++ after)
    ≡ fault_later (line_feeds before + line_feeds gap + line_feeds inside) (group_fault Tex after)

-- A file that ends within a group has the words up to its end.
abbrev pub HasWordsOfOpenGroup : Type 0
HasWordsOfOpenGroup = (group : Group) (before gap inside : List ℕ) → IsOutside before → IsBlank gap → IsInside inside
    → words_of Tex (before ++ command group ++ gap ++ codes "{" ++ inside)
    ≡ tex_words group (1 + (line_feeds before + line_feeds gap)) inside

-- A file that ends within a group is faulty on the line of the brace that opens the group.
abbrev pub HasFaultOfOpenGroup : Type 0
HasFaultOfOpenGroup = (group : Group) (before gap inside : List ℕ) → IsOutside before → IsBlank gap → IsInside inside
    → group_fault Tex (before ++ command group ++ gap ++ codes "{" ++ inside)
    ≡ Some (1 + (line_feeds before + line_feeds gap), Unclosed)

-- Without a brace, a command that opens groups means nothing: the file is read from the text after it.
abbrev pub SkipsCommandWithoutBrace : Type 0
SkipsCommandWithoutBrace = (group : Group) (before rest : List ℕ) → IsOutside before → HasNo (codes "%") rest
    → EndsCommand rest → begins_group rest ≡ false
    → (words_of Tex (before ++ command group ++ rest) ≡ words_later (line_feeds before) (words_of Tex rest))
    × (group_fault Tex (before ++ command group ++ rest) ≡ fault_later (line_feeds before) (group_fault Tex rest))

-- Nothing is read after `\endinput`.
abbrev pub HasNothingAfterItsEnd : Type 0
HasNothingAfterItsEnd = (before after : List ℕ) → IsOutside before → EndsCommand after
    → (words_of Tex (before ++ codes "\\endinput" ++ after) ≡ [])
    × (group_fault Tex (before ++ codes "\\endinput" ++ after) ≡ None)

-- A file that asks for another one has no words after that, and is faulty on that line.
abbrev pub HasFaultOfInput : Type 0
HasFaultOfInput = (before after : List ℕ) → IsOutside before → EndsCommand after
    → (words_of Tex (before ++ codes "\\input" ++ after) ≡ [])
    × (group_fault Tex (before ++ codes "\\input" ++ after) ≡ Some (1 + line_feeds before, Input))

-- A plain file has the words of its text.
abbrev pub HasWordsBetween : Type 0
HasWordsBetween = (group : Group) (text : List ℕ) → HasNo (codes "%") text
    → words_of (Plain group) text ≡ tex_words group 1 text

-- Lists of exceptions: the words that a text lists, or its first line that is refused.
-- A list has one word a line, with hyphens where it may break. A group `\hyphenation{..}` has words between white space,
-- as in TeX files. A comment begins with `#` or `%`, and ends with its line.
use Rattle.std.specs.Prelude.{◌≡◌, ℕ, ◌==◌, ◌||◌, if◌then◌else◌, List, [], ◌∷◌, ◌++◌, fold, length, map, codes, Option, Some, None, is_some, option_map}
use Rattle.std.specs.FinMap as finite
use Rattle.std.specs.Option.{option_or}
use Rattle.std.specs.List.{list_any}
use Rattle.hyphenation_breaks.specs.Ascii.{hash, percent}
use Rattle.hyphenation_breaks.specs.Break.{Break}
use Rattle.hyphenation_breaks.specs.Dictionary.{Contents}
use Rattle.hyphenation_grammar.specs.Lines.{is_same}
use Rattle.hyphenation_grammar.specs.Reading.{break_as_listing, place_as_listing}
use Rattle.any_dictionary.specs.declared.AnyDictionary.{AnyDictionary}
use Rattle.any_dictionary.specs.declared.AnyDictionary.TheVariants as of
use Rattle.pattern_results.specs.declared.errors.FileCause.{FileCause}
use Rattle.pattern_results.specs.declared.errors.FileCause.TheVariants.{Command, Symbol, Unclosed}
use Rattle.tex_files.specs.Groups.{FilePiece, pieces_of}
use Rattle.tex_files.specs.Spelling.{breaks_of_hyphens, folded_text, is_command, unhyphenated, word_cause}
use Rattle.tex_files.specs.declared.exception_list.ListPlace.{ListPlace}
use Rattle.tex_files.specs.declared.exception_list.ListPlace.TheVariants.{Outside, AfterCommand, InGroup}
use Rattle.tex_files.specs.declared.group.Group.TheVariants.{Exceptions}

-- `#` begins a comment, as `%` does.
abbrev pub as_comment : ℕ → ℕ
as_comment b = if b == hash then percent else b

-- The pieces of a list, as those of a TeX file.
abbrev pub list_pieces : List ℕ → List FilePiece
list_pieces text = pieces_of (map as_comment text)

-- The state of a scan: the words that are listed, the place of the next piece, and the fault that ended it.
pub record ListScan : Type 0 where
  pub words : List FilePiece
  pub place : ListPlace
  pub fault : Option (ℕ × FileCause)

-- A scan at the start of a list. No line has the number 0.
abbrev pub nothing_listed : ListScan
nothing_listed = record { words = []; place = Outside 0; fault = None }

-- One word more, and the place after it.
abbrev pub with_listed : ListScan → FilePiece → ListPlace → ListScan
with_listed found piece next = record found { words = found.words ++ piece ∷ []; place = next }

-- A line that is refused.
abbrev pub with_refused : ListScan → ℕ → FileCause → ListScan
with_refused found line cause = record found { fault = Some (line, cause) }

-- The cause for which a second piece on a line is refused: the white space before it, or a command, which is a piece.
abbrev pub second_cause : List ℕ → FileCause
second_cause text = if list_any is_command text then Command else Symbol

-- A piece at that place. Outside of groups a line has one word, or `\hyphenation` with the brace that opens a group.
abbrev pub with_piece_at : ListPlace → ListScan → FilePiece → ListScan
with_piece_at (Outside last) found piece =
    if piece.line == last then with_refused found piece.line (second_cause piece.text)
    else (if is_same piece.text (codes "\\hyphenation") then record found { place = AfterCommand piece.line }
    else with_listed found piece (Outside piece.line))
with_piece_at (AfterCommand line) found piece =
    if is_same piece.text (codes "{") then record found { place = InGroup piece.line }
    else with_refused found line Command
with_piece_at (InGroup opened) found piece =
    if is_same piece.text (codes "}") then record found { place = Outside 0 }
    else with_listed found piece (InGroup opened)

-- One piece more. An empty piece is none, and a fault ends the scan.
abbrev pub with_list_piece : ListScan → FilePiece → ListScan
with_list_piece found piece =
    if is_some found.fault || length piece.text == 0 then found else with_piece_at found.place found piece

-- The scan of a list.
abbrev pub list_scan : List ℕ → ListScan
list_scan text = fold with_list_piece nothing_listed (list_pieces text)

-- A command without its brace, or a group that is not closed, is a fault where a list ends.
abbrev pub fault_at_end : ListPlace → Option (ℕ × FileCause)
fault_at_end (Outside last) = None
fault_at_end (AfterCommand line) = Some (line, Command)
fault_at_end (InGroup opened) = Some (opened, Unclosed)

-- The words of a list, up to the fault that ends its scan.
abbrev pub list_words : List ℕ → List FilePiece
list_words text = (list_scan text).words

-- The first word that can't be an exception: its line, and the first test that it fails.
abbrev pub first_unfit : List FilePiece → Option (ℕ × FileCause)
first_unfit [] = None
first_unfit (word ∷ words) =
    option_or (option_map (λ cause. (word.line, cause)) (word_cause Exceptions word.text)) (first_unfit words)

-- The first line that is refused, and the cause. None if the text is a list.
abbrev pub list_fault : List ℕ → Option (ℕ × FileCause)
list_fault text =
    option_or (first_unfit (list_words text))
    (option_or (list_scan text).fault (fault_at_end (list_scan text).place))

-- A word in small letters, with the breaks at its hyphens.
abbrev pub listing_in : {B : Type 0} → (Break → B) → List ℕ → List ℕ × List B
listing_in listing_of text = (unhyphenated (folded_text text), breaks_of_hyphens listing_of (folded_text text))

-- The words in small letters, each with the breaks at its hyphens.
abbrev pub listings_of : {B : Type 0} → (Break → B) → List FilePiece → List (List ℕ × List B)
listings_of listing_of words = map (λ word. listing_in listing_of word.text) words

-- The exceptions of a list.
abbrev pub exceptions_listed : {B : Type 0} → (Break → B) → List ℕ → List (List ℕ × List B)
exceptions_listed listing_of text = listings_of listing_of (list_words text)

-- A dictionary in which a word is listed with its breaks, in place of the breaks that it had.
abbrev pub with_listing : {C B : Type 0} → Contents C B → List ℕ × List B → Contents C B
with_listing contents listing =
    record contents { exceptions = finite.insert contents.exceptions listing.0 listing.1 }

-- A dictionary in which words are listed with their breaks, one after the other.
abbrev pub with_listings : {C B : Type 0} → Contents C B → List (List ℕ × List B) → Contents C B
with_listings contents listings = fold with_listing contents listings

-- A dictionary of either kind with the exceptions of a list.
abbrev pub with_exceptions : AnyDictionary → List ℕ → AnyDictionary
with_exceptions (of.Standard standard) text =
    of.Standard (with_listings standard (exceptions_listed place_as_listing text))
with_exceptions (of.Extended extended) text =
    of.Extended (with_listings extended (exceptions_listed break_as_listing text))

-- The breaks of the last listing of a word; none if it is not listed.
abbrev pub last_listing : {B : Type 0} → List ℕ → List (List ℕ × List B) → Option (List B)
last_listing word [] = None
last_listing word (listing ∷ listings) =
    option_or (last_listing word listings) (if is_same listing.0 word then Some listing.1 else None)

-- The last listing of a word decides on its breaks. Other words keep what the dictionary has for them.
abbrev pub LastLineCounts : Type 0 → Type 0 → Type 0
LastLineCounts C B = (dictionary : Contents C B) (listings : List (List ℕ × List B)) (word : List ℕ) →
    finite.get (with_listings dictionary listings).exceptions word
    ≡ option_or (last_listing word listings) (finite.get dictionary.exceptions word)

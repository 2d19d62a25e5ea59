-- Compounds: a word is parted at the breaks of the first level, and each part is broken anew.
-- Source: libhyphen 2.8.8, hyphen.c and README.compound.
use Rattle.std.specs.Prelude.{ℕ, ℤ, ◌+◌, ◌-◌, ◌==◌, ◌&&◌, ◌||◌, nat_le, nat_lt, zero, suc, Bool, true, if◌then◌else◌, List, [], ◌++◌, length, map, drop, take, filter, fold, replicate, Option, None, Some, is_some, position, slice_index, slice_index_or, slice_range, slice_set}
use Rattle.std.specs.List.{list_any, range_with_len}
use Rattle.std.specs.Option.{option_or}
use Rattle.hyphenation_breaks.specs.Ascii.{digit_zero}
use Rattle.libhyphen_files.specs.Bytes.{before_nul}
use Rattle.libhyphen_files.specs.Files.{Rules}
use Rattle.libhyphen_rule.specs.Counting.{shown}
use Rattle.libhyphen_rule.specs.Minima.{changes_but, digits_but, is_equals, left_goes, right_goes}
use Rattle.libhyphen_rule.specs.OneLevel.{ChangeAt, is_odd, level_changes, level_digits}

-- The finds in a text: for each byte the digit and the change of the place behind it. They also say whether a change was made,
-- also one that a minimum took away. `parts` is how many more parts of the word may be asked.
pub record Found : Type 0 where
  pub digits : List ℕ
  pub changes : List (Option ChangeAt)
  pub made : Bool
  pub parts : ℕ

-- A word, or a part of one, that is asked. `behind` is what follows it.
pub record Asked : Type 0 where
  pub text : List ℕ
  pub behind : List ℕ
  pub at_left : Bool
  pub at_right : Bool

-- The least numbers of letters in a part, where it does not begin or end the word.
pub record PartMinima : Type 0 where
  pub left : ℤ
  pub right : ℤ

abbrev pub some_change : List (Option ChangeAt) → Bool
some_change changes = list_any is_some changes

-- ---- Minima, of a text with what follows it.

abbrev pub without_left : Bool → ℤ → List ℕ → Found → Found
without_left utf8 least text found = record found {
  digits = digits_but (left_goes utf8 least text found.changes) found.digits;
  changes = changes_but (left_goes utf8 least text found.changes) found.changes;
}

abbrev pub without_right : Bool → ℤ → List ℕ → List ℕ → Found → Found
without_right utf8 least word text found = record found {
  digits = digits_but (right_goes utf8 least word text found.changes) found.digits;
  changes = changes_but (right_goes utf8 least word text found.changes) found.changes;
}

-- A text with what follows it, up to the first byte 0.
unfoldable pub with_behind : Asked → List ℕ
with_behind asked = before_nul (asked.text ++ asked.behind)

unfoldable pub without_left_of_part : Bool → PartMinima → Asked → Found → Found
without_left_of_part utf8 minima asked found =
    if asked.at_left then found else without_left utf8 minima.left (with_behind asked) found

unfoldable pub without_right_of_part : Bool → PartMinima → Asked → Found → Found
without_right_of_part utf8 minima asked found =
    if asked.at_right then found else without_right utf8 minima.right asked.text (with_behind asked) found

-- ---- Places of another list.

-- A byte is one of `count` bytes from `begin` on.
abbrev pub is_within : ℕ → ℕ → ℕ → Bool
is_within begin count byte = nat_le begin byte && nat_lt byte (begin + count)

-- The digit of a byte, with those of a part at `count` bytes from `begin` on. Where the part has none, it is 0.
abbrev pub digit_with : List ℕ → ℕ → ℕ → List ℕ → ℕ → ℕ
digit_with digits begin count part byte =
    if is_within begin count byte then slice_index_or part (byte - begin) digit_zero else slice_index digits byte

unfoldable pub digits_with : List ℕ → ℕ → ℕ → List ℕ → List ℕ
digits_with digits begin count part = map (digit_with digits begin count part) (range_with_len 0 (length digits))

-- The change of a byte, with those of a part at `count` bytes from `begin` on. Where the part has none, it stays as it
-- is.
abbrev pub change_with : {X : Type 0} → List (Option X) → ℕ → ℕ → List (Option X) → ℕ → Option X
change_with changes begin count part byte =
    if is_within begin count byte
    then option_or (slice_index_or part (byte - begin) None) (slice_index_or changes byte None)
    else slice_index_or changes byte None

unfoldable pub changes_with : {X : Type 0} → List (Option X) → ℕ → ℕ → List (Option X) → List (Option X)
changes_with changes begin count part =
    map (change_with changes begin count part) (range_with_len 0 (length changes))

-- ---- A text without breaks of the first level.

-- The digits of the next level, and the changes of both levels. At one byte that of the next level counts.
unfoldable pub next_level_found : Rules → ℕ → List ℕ → List (Option ChangeAt) → Found
next_level_found rules parts text first_level_changes = record {
  digits = level_digits rules.next_level text;
  changes = changes_with first_level_changes 0 (length text) (level_changes rules.next_level text);
  made = some_change first_level_changes || some_change (level_changes rules.next_level text);
  parts = parts;
}

unfoldable pub found_by_next_level : Rules → PartMinima → ℕ → Asked → List (Option ChangeAt) → Found
found_by_next_level rules minima parts asked first_level_changes =
    without_right_of_part rules.utf8 minima asked
    (without_left_of_part rules.utf8 minima asked (next_level_found rules parts asked.text first_level_changes))

-- ---- The parts of a text.

-- While parts are asked: where the next part begins, and the text as the parts see it. It has dots for digits at first.
pub record Parting : Type 0 where
  pub found : Found
  pub begin : ℕ
  pub seen : List ℕ

-- A part ends behind a byte: one with an odd digit, or the last one.
abbrev pub ends_part : List ℕ → ℕ → Bool
ends_part digits byte = is_odd (slice_index digits byte) || byte + 1 == length digits

-- The bytes of a part's text, and of what follows it.
pub record Texts : Type 0 where
  pub text : List ℕ
  pub behind : List ℕ

-- The text and what follows it, where a part ends at a change. The part of the change's text before the equals sign takes the
-- place of the part's last bytes. A text without an equals sign takes their place and goes on behind the part.
abbrev pub changed_part : List ℕ → ℕ → ℕ → ChangeAt → Option ℕ → Texts
changed_part seen begin end change (Some equals) = record {
  text = drop begin (take (end - change.pos) seen ++ take equals change.text);
  behind = [];
}
changed_part seen begin end change None = record {
  text = slice_range (take (end - change.pos) seen ++ change.text ++ replicate end 0) begin end;
  behind = drop end (take (end - change.pos) seen ++ change.text ++ replicate end 0);
}

-- A part's text from its begin to its end, and what follows it.
unfoldable pub part_text : List ℕ → ℕ → ℕ → Option ChangeAt → Texts
part_text seen begin end None = record { text = slice_range seen begin end; behind = [] }
part_text seen begin end (Some change) = changed_part seen begin end change (position is_equals change.text)

abbrev pub asked_of : Asked → ℕ → ℕ → Texts → Asked
asked_of whole begin end texts = record {
  text = texts.text;
  behind = texts.behind;
  at_left = whole.at_left && begin == 0;
  at_right = whole.at_right && end == length whole.text;
}

-- A part, with how many more parts may be asked, gives what is found in it, or nothing if it is not asked.
abbrev pub Asking : Type 0
Asking = ℕ → Asked → Option Found

-- The finds in the whole, with those in a part that begins at `begin`. All places of the part count except its last two.
unfoldable pub with_part : Found → ℕ → ℕ → Option Found → Found
with_part whole begin count None = whole
with_part whole begin count (Some part) = record {
  digits = digits_with whole.digits begin count part.digits;
  changes = changes_with whole.changes begin count part.changes;
  made = whole.made || some_change (take count part.changes);
  parts = part.parts;
}

-- The text as later parts see it. Behind a part the next byte is seen as it is; once a change was there, all bytes are.
unfoldable pub seen_after : Asked → List ℕ → ℕ → Option ChangeAt → List ℕ
seen_after whole seen end None = slice_set seen end (slice_index whole.text end)
seen_after whole seen end (Some change) =
    take (length whole.text) (with_behind whole ++ replicate (length whole.text) 0)

-- One part is asked, if it has 3 bytes or more.
abbrev pub part_asked : Asking → Asked → Parting → ℕ → Option ChangeAt → Parting
part_asked ask whole parting byte change = record {
  found = with_part parting.found parting.begin (byte - parting.begin - 1)
      (ask parting.found.parts
      (asked_of whole parting.begin (byte + 1) (part_text parting.seen parting.begin (byte + 1) change)));
  begin = byte + 1;
  seen = seen_after whole parting.seen (byte + 1) change;
}

unfoldable pub with_part_to : Asking → Asked → Parting → ℕ → Parting
with_part_to ask whole parting byte =
    if nat_lt (parting.begin + 1) byte
    then part_asked ask whole parting byte (slice_index_or parting.found.changes byte None)
    else record parting { begin = byte + 1 }

-- The parts that end behind the first bytes are asked one after the other.
unfoldable pub parted_up_to : Asking → Asked → Found → ℕ → Parting
parted_up_to ask whole found bytes =
    fold (with_part_to ask whole) (record { found = found; begin = 0; seen = map shown whole.text })
    (filter (ends_part found.digits) (range_with_len 0 bytes))

-- ---- The whole.

unfoldable pub first_level_found : Rules → ℕ → List ℕ → Found
first_level_found rules parts text = record {
  digits = level_digits rules.first_level text;
  changes = level_changes rules.first_level text;
  made = some_change (level_changes rules.first_level text);
  parts = parts;
}

abbrev pub found_by_first_level : Rules → PartMinima → Asking → ℕ → Asked → Found → Found
found_by_first_level rules minima ask parts asked found =
    if list_any is_odd found.digits then (parted_up_to ask asked found (length asked.text)).found
    else found_by_next_level rules minima parts asked found.changes

-- No part is asked.
abbrev pub ask_none : Asking
ask_none parts asked = None

-- Parts are asked while there are some to be asked.
abbrev pub ask_by : (ℕ → Asked → Found) → Asking
ask_by find zero asked = None
ask_by find (suc parts) asked = Some (find parts asked)

-- The finds in a text by both levels. Parts are parted again, up to a depth.
unfoldable pub found_in : Rules → PartMinima → ℕ → ℕ → Asked → Found
found_in rules minima zero parts asked =
    found_by_first_level rules minima ask_none parts asked (first_level_found rules parts asked.text)
found_in rules minima (suc depth) parts asked =
    found_by_first_level rules minima (ask_by (found_in rules minima depth)) parts asked (first_level_found rules parts asked.text)

-- A word is parted again and again 1,000 times at most, and no more parts are asked than it has bytes. Only changes of
-- the first level that make parts longer, or words longer than that, need more.
abbrev pub most_depth : ℕ
most_depth = 1000

abbrev pub word_found : Rules → PartMinima → List ℕ → List ℕ → Found
word_found rules minima word behind =
    found_in rules minima most_depth (length word)
    (record { text = word; behind = behind; at_left = true; at_right = true })

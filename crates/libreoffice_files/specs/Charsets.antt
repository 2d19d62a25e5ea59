-- The charsets of a `.dic`: their names, and the characters that their bytes mean. The characters of the bytes from 128 on are
-- in the tables of src/charset/tables.rt.
use Rattle.std.specs.Prelude.{ℕ, ◌+◌, ◌-◌, ◌==◌, if◌then◌else◌, not, List, take, codes, Option, Some, None, option_map, is_some, position, slice_index}
use Rattle.std.specs.List.{filter_map}
use Rattle.std.specs.Char.{is_ascii}
use Rattle.std.specs.Str.{is_utf8, encode_utf8_all}
use Rattle.std.specs.Str.Lossy.{utf8_valid_len}
use Rattle.hyphenation_grammar.specs.Lines.{is_same, strip_prefix}
use Rattle.pattern_results.specs.Texts.{line_feeds}
use Rattle.pattern_results.specs.declared.errors.FileCause.{FileCause}
use Rattle.pattern_results.specs.declared.errors.FileCause.TheVariants.{NotUtf8, NotInCharset}
use Rattle.libreoffice_files.specs.declared.charset.Charset.{Charset}
use Rattle.libreoffice_files.specs.declared.charset.Charset.TheVariants.{Utf8, Latin1, Latin2, Cyrillic, Greek, Latin5, Latin6, Latin7}
use Rattle.libreoffice_files.specs.declared.charset.Charset.TheVariants.{Latin8, Latin9, Koi8R, Koi8U, Cp1251}
use Rattle.libreoffice_files.specs.declared.charset.tables.TheConstants.{ISO8859_2, ISO8859_5, ISO8859_7, ISO8859_9, ISO8859_10, ISO8859_13}
use Rattle.libreoffice_files.specs.declared.charset.tables.TheConstants.{ISO8859_14, ISO8859_15, KOI8_R, KOI8_U, CP1251}

-- The charset of ISO 8859 whose part has that number.
abbrev pub part_of_iso_8859 : List ℕ → Option Charset
part_of_iso_8859 part =
    if is_same part (codes "1") then Some Latin1
    else (if is_same part (codes "2") then Some Latin2
    else (if is_same part (codes "5") then Some Cyrillic
    else (if is_same part (codes "7") then Some Greek
    else (if is_same part (codes "9") then Some Latin5
    else (if is_same part (codes "10") then Some Latin6
    else (if is_same part (codes "13") then Some Latin7
    else (if is_same part (codes "14") then Some Latin8
    else (if is_same part (codes "15") then Some Latin9 else None))))))))

-- A charset that is none of ISO 8859.
abbrev pub other_charset : List ℕ → Option Charset
other_charset name =
    if is_same name (codes "UTF-8") then Some Utf8
    else (if is_same name (codes "KOI8-R") then Some Koi8R
    else (if is_same name (codes "KOI8-U") then Some Koi8U
    else (if is_same name (codes "microsoft-cp1251") then Some Cp1251 else None)))

-- The charset of that name. None if it is not known here.
abbrev pub charset_with : List ℕ → Option (List ℕ) → Option Charset
charset_with name None = other_charset name
charset_with name (Some part) = part_of_iso_8859 part

abbrev pub charset_named : List ℕ → Option Charset
charset_named name = charset_with name (strip_prefix (codes "ISO8859-") name)

-- The characters of the bytes from 128 on, 0 for a byte that means none. No table if each byte is its own character.
abbrev pub upper_half : Charset → Option (List ℕ)
upper_half Utf8 = None
upper_half Latin1 = None
upper_half Latin2 = Some ISO8859_2
upper_half Cyrillic = Some ISO8859_5
upper_half Greek = Some ISO8859_7
upper_half Latin5 = Some ISO8859_9
upper_half Latin6 = Some ISO8859_10
upper_half Latin7 = Some ISO8859_13
upper_half Latin8 = Some ISO8859_14
upper_half Latin9 = Some ISO8859_15
upper_half Koi8R = Some KOI8_R
upper_half Koi8U = Some KOI8_U
upper_half Cp1251 = Some CP1251

-- A character of a table; 0 means none.
abbrev pub char_unless_nul : ℕ → Option ℕ
char_unless_nul char = if char == 0 then None else Some char

-- The character that a byte means. None if it means none.
abbrev pub char_in : Option (List ℕ) → ℕ → Option ℕ
char_in None byte = Some byte
char_in (Some upper) byte = if is_ascii byte then Some byte else char_unless_nul (slice_index upper (byte - 128))

-- The place of the first byte that means no character.
abbrev pub first_bad : Option (List ℕ) → List ℕ → Option ℕ
first_bad upper bytes = position (λ byte. not (is_some (char_in upper byte))) bytes

-- The line of the first byte that means no character, and the cause; the first line has that number. One definition is
-- for a charset with a byte for each character, the next for UTF-8.
abbrev pub table_fault : Option (List ℕ) → ℕ → List ℕ → Option (ℕ × FileCause)
table_fault upper first bytes =
    option_map (λ at. (first + line_feeds (take at bytes), NotInCharset)) (first_bad upper bytes)

abbrev pub utf8_fault : ℕ → List ℕ → Option (ℕ × FileCause)
utf8_fault first bytes =
    if is_utf8 bytes then None else Some (first + line_feeds (take (utf8_valid_len bytes) bytes), NotUtf8)

abbrev pub coding_fault : Charset → ℕ → List ℕ → Option (ℕ × FileCause)
coding_fault Utf8 first bytes = utf8_fault first bytes
coding_fault charset first bytes = table_fault (upper_half charset) first bytes

-- The text that bytes mean, in UTF-8.
abbrev pub text_by : Option (List ℕ) → List ℕ → List ℕ
text_by upper bytes = encode_utf8_all (filter_map (char_in upper) bytes)

abbrev pub text_in : Charset → List ℕ → List ℕ
text_in Utf8 bytes = bytes
text_in charset bytes = text_by (upper_half charset) bytes

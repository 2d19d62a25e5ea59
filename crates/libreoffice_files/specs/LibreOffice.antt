-- A `.dic` of LibreOffice: the dictionary that it makes, or its first fault.
-- Source: libhyphen 2.8.8, hyphen.c and README.hyphen.
use Rattle.std.specs.Prelude.{ℕ, ◌-◌, ◌==◌, ◌&&◌, ◌||◌, Bool, true, false, if◌then◌else◌, List, [], ◌∷◌, length, drop, take, map, codes}
use Rattle.std.specs.Prelude.{Option, Some, None, unwrap_or}
use Rattle.std.specs.Option.{option_or}
use Rattle.std.specs.List.{filter_map, prefix_len, suffix_len}
use Rattle.std.specs.Char.{is_ascii_uppercase, is_ascii_whitespace}
use Rattle.std.specs.Str.{is_utf8, trim_end}
use Rattle.hyphenation_breaks.specs.Ascii.{line_feed}
use Rattle.hyphenation_breaks.specs.Break.{Change}
use Rattle.hyphenation_breaks.specs.Dictionary.{Contents}
use Rattle.hyphenation_breaks.specs.declared.entry.Entry.{Entry}
use Rattle.hyphenation_dictionary.specs.Maker.{fits_key}
use Rattle.hyphenation_grammar.specs.Lines.{starts_with}
use Rattle.libreoffice_files.specs.Changes.{carried_entry}
use Rattle.libreoffice_files.specs.Charsets.{charset_named, coding_fault, text_in}
use Rattle.pattern_results.specs.Parts.{contents_made}
use Rattle.libreoffice_files.specs.LibreOfficeLines.{DicLine, split_at_byte, read_line, lines_in, settings_of, minimum_set, minimum_of, line_fault}
use Rattle.libreoffice_files.specs.LibreOfficePatterns.{Spelt, patterns_of, with_all_forbidden}
use Rattle.libreoffice_files.specs.declared.charset.Charset.{Charset}
use Rattle.libreoffice_files.specs.declared.charset.Charset.TheVariants.{Latin1}
use Rattle.libreoffice_files.specs.declared.change.PlacedChange.{PlacedChange}
use Rattle.pattern_results.specs.declared.errors.FileCause.{FileCause}
use Rattle.pattern_results.specs.declared.errors.FileCause.TheVariants as causes
use Rattle.libreoffice_files.specs.declared.lines.LineKind.{LineKind}
use Rattle.libreoffice_files.specs.declared.lines.LineKind.TheVariants.{Pattern}

-- ---- Line 1.

-- Line 1, and the bytes after it.
abbrev pub first_and_rest : List ℕ → List ℕ × List ℕ
first_and_rest bytes = unwrap_or (split_at_byte line_feed bytes) (bytes, [])

-- A line without ASCII white space at its start, and without any at its end.
abbrev pub trimmed_start : List ℕ → List ℕ
trimmed_start line = drop (prefix_len is_ascii_whitespace line) line

abbrev pub trimmed_end : List ℕ → List ℕ
trimmed_end line = take (length line - suffix_len is_ascii_whitespace line) line

abbrev pub trimmed : List ℕ → List ℕ
trimmed line = trimmed_end (trimmed_start line)

-- A text begins with a capital letter of ASCII.
abbrev pub starts_with_capital : List ℕ → Bool
starts_with_capital [] = false
starts_with_capital (b ∷ bs) = is_ascii_uppercase b

-- A line is a pattern.
abbrev pub is_pattern : LineKind → Bool
is_pattern Pattern = true
is_pattern kind = false

-- Line 1 names a charset, known or not: it begins with a capital letter, or as a charset of Windows does, and is no
-- setting.
abbrev pub is_name : List ℕ → Bool
is_name line =
    is_pattern (read_line 1 (trim_end line)).kind && (starts_with_capital line || starts_with (codes "microsoft-") line)

abbrev pub names_charset : List ℕ → Bool
names_charset line = is_utf8 line && is_name line

-- Bytes and the charset to read them by. Their first line has that number.
pub record Encoded : Type 0 where
  pub charset : Charset
  pub first : ℕ
  pub bytes : List ℕ

-- If line 1 names a known charset, the bytes after it are read by that. If it names none, the file is read by
-- ISO8859-1, and line 1 as any other.
abbrev pub encoded_by : List ℕ → List ℕ × List ℕ → Option Charset → Option Encoded
encoded_by bytes parts (Some charset) = Some (record { charset = charset; first = 2; bytes = parts.1 })
encoded_by bytes parts None =
    if names_charset parts.0 then None else Some (record { charset = Latin1; first = 1; bytes = bytes })

abbrev pub encoded_if : List ℕ → List ℕ × List ℕ → Option Encoded
encoded_if bytes parts = encoded_by bytes parts (charset_named (trimmed parts.0))

-- The bytes of a file that have lines to read, with their charset. None if line 1 names one that is not known.
abbrev pub encoded_in : List ℕ → Option Encoded
encoded_in bytes = encoded_if bytes (first_and_rest bytes)

-- ---- All lines.

-- The lines of the text that a charset gives.
abbrev pub encoded_lines : Encoded → List DicLine
encoded_lines coded = lines_in coded.first (text_in coded.charset coded.bytes)

-- The lines of a file.
abbrev pub lines_if_encoded : Option Encoded → List DicLine
lines_if_encoded None = []
lines_if_encoded (Some coded) = encoded_lines coded

abbrev pub lines_of_dic : List ℕ → List DicLine
lines_of_dic bytes = lines_if_encoded (encoded_in bytes)

-- The patterns of lines, in their order, and then those of NOHYPHEN.
abbrev pub all_patterns : List DicLine → List (List ℕ × Spelt)
all_patterns lines = with_all_forbidden (patterns_of lines) (unwrap_or (settings_of lines).no_hyphen [])

-- ---- Faults.

-- The first fault of lines, or else that none is a pattern.
abbrev pub fault_of_lines : List DicLine → Option (ℕ × FileCause)
fault_of_lines lines =
    option_or (line_fault lines) (if length (all_patterns lines) == 0 then Some (1, causes.Nothing) else None)

-- The first byte that means no character, or else the first fault of the lines.
abbrev pub encoded_fault : Encoded → Option (ℕ × FileCause)
encoded_fault coded = option_or (coding_fault coded.charset coded.first coded.bytes) (fault_of_lines (encoded_lines coded))

-- A file's first fault: its line and the cause.
abbrev pub fault_if_encoded : Option Encoded → Option (ℕ × FileCause)
fault_if_encoded None = Some (1, causes.Charset)
fault_if_encoded (Some coded) = encoded_fault coded

abbrev pub dic_fault : List ℕ → Option (ℕ × FileCause)
dic_fault bytes = fault_if_encoded (encoded_in bytes)

-- ---- The dictionary.

-- The change of the value at a place, if it has one.
abbrev pub change_there : Option PlacedChange → ℕ → Option Change
change_there None place = None
change_there (Some placed) place = if placed.place == place then Some placed.change else None

-- The entries of a key, as a kind of dictionary keeps them.
abbrev pub entries_kept : {C : Type 0} → (C → Option Change) → (Option Change → C) → Spelt → List (Entry C)
entries_kept change_of payload_of spelt =
    map (λ v. carried_entry change_of payload_of (record {
      place = v.place;
      value = v.value;
      change = change_there spelt.change v.place;
    })) spelt.values

-- A dictionary may have the key with these entries.
abbrev pub fits_dictionary : {C : Type 0} → (C → Option Change) → List ℕ → List (Entry C) → Bool
fits_dictionary change_of key entries = is_utf8 key && fits_key change_of key entries

-- A key with its entries. None if they fit no dictionary.
abbrev pub kept_if_fit : {C : Type 0} → (C → Option Change) → List ℕ → List (Entry C)
    → Option (List ℕ × List (Entry C))
kept_if_fit change_of key entries = if fits_dictionary change_of key entries then Some (key, entries) else None

abbrev pub kept_in : {C : Type 0} → (C → Option Change) → (Option Change → C) → List ℕ × Spelt
    → Option (List ℕ × List (Entry C))
kept_in change_of payload_of p = kept_if_fit change_of p.0 (entries_kept change_of payload_of p.1)

-- The dictionary of patterns, with these minima. If a key comes several times, the last one counts.
abbrev pub contents_of_patterns : {C B : Type 0} → (C → Option Change) → (Option Change → C) → List ℕ → ℕ → ℕ
    → List (List ℕ × Spelt) → Contents C B
contents_of_patterns change_of payload_of language left right patterns =
    contents_made language left right (record {
      patterns = filter_map (kept_in change_of payload_of) patterns;
      exceptions = [];
    })

-- The dictionary of lines. A minimum that is not given is the one that the lines set, or else 2.
abbrev pub contents_of_lines : {C B : Type 0} → (C → Option Change) → (Option Change → C) → List ℕ → Option ℕ
    → Option ℕ → List DicLine → Contents C B
contents_of_lines change_of payload_of language left right lines =
    contents_of_patterns change_of payload_of language (minimum_of left (minimum_set (settings_of lines).left))
    (minimum_of right (minimum_set (settings_of lines).right)) (all_patterns lines)

-- The dictionary of a file.
abbrev pub contents_of_dic : {C B : Type 0} → (C → Option Change) → (Option Change → C) → List ℕ → Option ℕ
    → Option ℕ → List ℕ → Contents C B
contents_of_dic change_of payload_of language left right bytes =
    contents_of_lines change_of payload_of language left right (lines_of_dic bytes)

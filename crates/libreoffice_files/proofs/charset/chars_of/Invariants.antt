use Rattle.std.proofs.Common.{◌≡◌, ◌++◌, drop}
use Rattle.std.specs.Prelude.{option_map}
use Rattle.std.specs.List.{filter_map}
use Rattle.std.specs.Str.{encode_utf8_all}
use Rattle.std.specs.String.{string_bytes}
use Rattle.libreoffice_files.specs.Charsets.{char_in}
use Rattle.libreoffice_files.proofs.charset.chars_of.Given as goal

abbrev pub invariant-loop-byte : goal.invariant-loop-byte
invariant-loop-byte l =
    string_bytes l.text ++ encode_utf8_all (filter_map (char_in (option_map (λ table. table.now) l.upper)) (drop l.byte-index l.bytes))
    ≡ encode_utf8_all (filter_map (char_in (option_map (λ table. table.now) l.upper)) l.bytes)

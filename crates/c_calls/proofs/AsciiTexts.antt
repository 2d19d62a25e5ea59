-- A text of ASCII is UTF-8.
use Rattle.std.proofs.Common.{◌≡◌, ℕ, true, List, [], ◌∷◌}
use Rattle.std.specs.Char.{is_ascii}
use Rattle.std.specs.List.{list_all}
use Rattle.std.specs.Str.{IsAscii, IsUtf8}
use Rattle.std.proofs.lemmas.Bool.{and_parts}
use Rattle.std.proofs.lemmas.Str.{IsUtf8-from_ascii}
use Rattle.std.proofs.lemmas.Str.Ascii.{IsAscii-cons, IsAscii-nil}
use borrow.Author.Tests.{ltb-true}

all_ascii : (bytes : List ℕ) → list_all is_ascii bytes ≡ true → IsAscii bytes
all_ascii [] all = IsAscii-nil
all_ascii (b ∷ bs) all =
    let parts = and_parts (is_ascii b) (list_all is_ascii bs) all in
    IsAscii-cons b bs (ltb-true b 128 parts.0) (all_ascii bs parts.1)

pub utf8_of_ascii : (bytes : List ℕ) → list_all is_ascii bytes ≡ true → IsUtf8 bytes
utf8_of_ascii bytes all = IsUtf8-from_ascii bytes (all_ascii bytes all)

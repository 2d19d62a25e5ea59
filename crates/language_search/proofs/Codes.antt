-- Codes of languages are short.
use Rattle.std.proofs.Common.{ℕ, ◌≡◌, ◌≤◌, ◌&&◌, true, List, length, nat_le, leb-true}
use Rattle.std.specs.List.{list_all}
use Rattle.std.proofs.lemmas.Bool.{and_parts}
use Rattle.hyphenation_breaks.specs.Language.{is_code_byte, IsCode}

pub bytes_of_code : (text : List ℕ) → IsCode text → list_all is_code_byte text ≡ true
bytes_of_code text h = (and_parts (nat_le 1 (length text) && nat_le (length text) 32) (list_all is_code_byte text) h).1

pub code_is_short : (text : List ℕ) → IsCode text → length text ≤ 32
code_is_short text h =
    leb-true (length text) 32
    (and_parts (nat_le 1 (length text)) (nat_le (length text) 32) (and_parts (nat_le 1 (length text) && nat_le (length text) 32) (list_all is_code_byte text) h).0).1

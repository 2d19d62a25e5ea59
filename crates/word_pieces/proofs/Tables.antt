-- The values of the table.

use Rattle.std.proofs.Common.{◌≡◌, ℕ, ◌<◌, ◌==◌, nat_lt, cond, slice_index_or, refl, eqb-true}
use Rattle.ucd_table.proofs.Facts.{Stepped-below}
use Rattle.ucd_breaks.specs.WordBreak.{word_break}
use Rattle.ucd_breaks.proofs.Computing.{ucd_breaks}
use Rattle.ucd_breaks.proofs.WordBreakLemmas.{word_break_stepped}
use Rattle.word_pieces.specs.declared.kinds.ByteKind.TheVariants.{Letter, Beyond}
use Rattle.word_pieces.specs.declared.kinds.TheConstants.{KINDS}
use Rattle.word_pieces.specs.Private.Kinds.{kind_of_value, kind_of_byte}
use Rattle.word_pieces.proofs.EveryValue.{kind_number, kind_number_injective}

pub kind_of_byte-KINDS : (b : ℕ) → b < 256 → slice_index_or KINDS b Letter ≡ kind_of_byte b
unfolding ucd_breaks
kind_of_byte-KINDS b below =
    kind_number_injective _ _ (eqb-true _ _
    (Stepped-below word_break word_break_stepped
    (λ x v. kind_number (slice_index_or KINDS x Letter) == kind_number (cond (nat_lt x 128) (kind_of_value v) Beyond)) 256 refl b below))

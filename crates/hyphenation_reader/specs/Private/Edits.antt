-- How the exception of an edit is read.
use Rattle.std.specs.Prelude.{◌≡◌, ℕ, true, false, List, Option, Some, None}
use Rattle.std.specs.String.{string_bytes}
use Rattle.std.specs.declared.string.String.{String}
use Rattle.std.specs.declared.vec.Vec.{Vec}
use Rattle.hyphenation_breaks.specs.Break.{Break}
use Rattle.hyphenation_grammar.specs.Items.{exception_of_line}
use Rattle.hyphenation_grammar.specs.Reading.{spelling_as}
use Rattle.hyphenation_grammar.specs.declared.form.Kind.{Kind}
use Rattle.hyphenation_reader.specs.Edits.{is_sound_line}

-- The word and its listed breaks, exactly if the line is sound.
abbrev pub ReadsException : {B Y Z : Type 0} → Kind → (Break → B) → Option (String Y × Vec B Z) → List ℕ → Type 0
ReadsException kind listing_of None line = is_sound_line kind line ≡ false
ReadsException kind listing_of (Some x) line =
    (is_sound_line kind line ≡ true) × (spelling_as listing_of exception_of_line line
    ≡ Some (string_bytes x.0, x.1.items))

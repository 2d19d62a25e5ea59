-- A word with marks at its breaks.
use Rattle.std.proofs.Common.{◌≡◌, ℕ, List, map, ap, ◌∙◌}
use Rattle.hyphenation_breaks.specs.Break.{plain_break}
use Rattle.hyphenation_segments.specs.Fits.{Fits}
use Rattle.hyphenation_segments.specs.Segments as segments
use Rattle.hyphenation_segments.specs.Laws.{with_marks, JoinsToMarkedText}
use Rattle.hyphenation_text.specs.Dictionaries.{Breaks}
use Rattle.hyphenation_text.specs.Private.Marked.{marked_word}

-- With plain breaks that fit a word, its marked segments join to the word with marks at its places.
pub plainly_marked : (breaks : Breaks) (mark word text places : List ℕ) → JoinsToMarkedText → text ≡ word → Fits text (map plain_break places) → places ≡ breaks word
    → segments.marked_word mark text (map plain_break places) ≡ marked_word breaks mark word
plainly_marked breaks mark word text places joins same fit are =
    joins mark text places fit ∙ ap (λ t. with_marks mark t places) same ∙ ap (with_marks mark word) are

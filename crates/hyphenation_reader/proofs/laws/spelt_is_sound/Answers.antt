use Rattle.hyphenation_reader.proofs.LineInvariant.{TextLaws, pattern-kept, exception-kept}
use Rattle.hyphenation_reader.proofs.laws.spelt_is_sound.Goals as goal

pub returns : goal.returns
returns c =
    let laws : TextLaws = record {
      pieces = c.parts_are_text.ensures.pieces;
      parts = c.parts_are_text.ensures.token_parts;
      spelt = c.spelt_is_text.ensures.text;
      keys = c.spelt_is_text.ensures.key;
      boundary = c.boundary_is_of_chars.ensures;
      order = c.entries_in_order.ensures;
    } in
    λ form number line own. (λ sort. pattern-kept laws form number line own sort, λ sort. exception-kept laws form number line own sort)

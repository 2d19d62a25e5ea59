use Rattle.std.proofs.Common.{◌≡◌, ◌++◌, ◌∙◌, encode_utf8, ap, sym}
use Rattle.std.proofs.lemmas.Str.{chars_past_char}
use Rattle.paragraphs.proofs.words.split_char.Goals as goal

pub returns-clause-chars : goal.returns-clause-chars
returns-clause-chars c =
    let first = c.in_ok-first.first in
    let read : c.args.text.now ≡ encode_utf8 first ++ c.as_str.result.now =
    sym c.chars-chars.ensures.rest ∙ c.in_ok-first.ensures.steps.0 ∙ ap (λ r. encode_utf8 first ++ r) (sym c.as_str.ensures) in
    chars_past_char c.args.text.now c.as_str.result.now first c.utf8.text read

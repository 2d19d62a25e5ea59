use Rattle.std.proofs.Common.{◌≡◌, ◌++◌, length, reverse, sym, ap, ◌∙◌, arith, length-append}
use Rattle.std.proofs.lemmas.List.{nil_from_length}
use Rattle.std.proofs.lemmas.Str.{chars-nil}
use Rattle.std.specs.Prelude.{encode_utf8}
use Rattle.std.specs.Str.{chars}
use Rattle.unicode_segmentation.proofs.TextLemmas.{encode_utf8_nonempty, reverse-chars_past_char, IsUtf8-after}
use Rattle.word_pieces.proofs.characters.split_last_char.Goals as goal

pub returns-in-Some : goal.returns-in-Some
returns-in-Some c =
    let last = c.in-Some.c in
    let front = c.as_str.result.now in
    let e : c.args.text.now ≡ front ++ encode_utf8 last =
    sym c.chars-chars.ensures.rest ∙ c.in-Some.ensures.steps ∙ ap (λ t. t ++ encode_utf8 last) (sym c.as_str.ensures) in (
      reverse-chars_past_char _ front last c.as_str.utf8 (IsUtf8-after _ front _ c.utf8.text c.as_str.utf8 e) e,
      omega (arith, ap length e, length-append front (encode_utf8 last), encode_utf8_nonempty last),
      e,
    )

pub returns-in-None : goal.returns-in-None
returns-in-None c =
    let none = sym c.chars-chars.ensures.rest ∙ nil_from_length _ c.in-None.ensures.steps.0 in
    (ap (λ t. reverse (chars t)) none ∙ ap reverse chars-nil, none)

use Rattle.std.proofs.Common.{ℕ, List, false, ◌++◌, ◌∷◌, [], ap, ◌∙◌, append-nil}
use Rattle.std.specs.String.{string_bytes}
use Rattle.std.proofs.lemmas.List.{map-append}
use Rattle.std.proofs.lemmas.Str.{IsUtf8-had, IsCharBoundary-start}
use Rattle.hyphenation_breaks.specs.Break.{Break}
use Rattle.paragraphs.specs.Settings.{Setting}
use Rattle.paragraphs.specs.Styles.{style_of}
use Rattle.paragraphs.specs.Parts.{word_breaks, parts_from}
use Rattle.paragraphs.specs.Private.Changes.{joint_bytes, before_bytes}
use Rattle.paragraphs.specs.Private.PartSettings.{setting_of, settings_of}
use Rattle.paragraphs.specs.Private.PartStyles.{indent_of}
use Rattle.paragraphs.proofs.word.push_word.Goals as goal

pub invariant_of-current : goal.invariant_of-current
invariant_of-current g c = record { boundary = IsCharBoundary-start c.args.word.now.text.now (IsUtf8-had _ c.args.word.now.utf8) }

pub returns : goal.returns
returns g c =
    let word = c.args.word.now in
    let style = word.style.now in
    let old = settings_of c.args.parts.now.items in
    let breaks = word_breaks (g.H.Hyphenator.breaks_of c.args.dictionary.now) word.text.now in
    let from : List ℕ → List Break → List Setting = λ opening all. old ++ parts_from (style_of style) word.text.now opening 0 all in
    let indent = indent_of style word.indent in
    let current = c.pass_pieces.new.current in
    let made = settings_of c.pass_pieces.new.parts.items in
    let begun = indent_of current.word.now.style.now current.indent in
    let changes = c.in_ok-at_end.field-0 in
    let after = string_bytes current.after in
    let last : Setting = record { opening = begun ++ after; text = c.range_from.result.now; joint = 32 ∷ []; closing = []; price = 0 } in
    ap settings_of c.in_ok-push.ensures.items ∙ map-append setting_of c.pass_pieces.new.parts.items _
    ∙ ap (λ a. made ++ record last { opening = begun ++ a; joint = joint_bytes changes false; closing = before_bytes changes ++ [] } ∷ []) c.in_ok-at_end.ensures.after
    ∙ ap (λ j. made ++ record last { joint = j; closing = before_bytes changes ++ [] } ∷ []) c.in_ok-at_end.ensures.space
    ∙ ap (λ b. made ++ record last { closing = b ++ [] } ∷ []) c.in_ok-at_end.ensures.before
    ∙ ap (λ t. made ++ record last { text = t } ∷ []) c.range_from.ensures.value
    ∙ c.in_ok-pass_pieces.ensures.goes []
    ∙ ap (from (indent ++ string_bytes c.new.result)) (append-nil breaks)
    ∙ ap (λ a. from (indent ++ a) breaks) c.new.ensures.bytes
    ∙ ap (λ o. from o breaks) (append-nil indent)

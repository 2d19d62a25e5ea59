use Rattle.std.proofs.Common.{◌∙◌, ap, if◌then◌else◌, slice_range}
use Rattle.std.specs.String.{string_bytes}
use Rattle.hyphenation_text.specs.Words.{breaks_under}
use Rattle.hyphenation_text.specs.Private.Marked.{marked_token}
use Rattle.hyphenation_text.proofs.LetterTokens.{nothing_marked}
use Rattle.hyphenation_text.proofs.PassedWords.{leaves_all}
use Rattle.hyphenation_text.proofs.Slices.{slice_none}
use Rattle.hyphenation_text.proofs.text.push_token.Goals as goal

pub returns-then-token : goal.returns-then-token
returns-then-token c =
    let token = slice_range c.args.token.text.now c.args.token.start c.args.token.end in
    leaves_all c.args.token.text.now (string_bytes c.args.output.now.text) _ c.args.kept c.args.token.start c.args.token.end c.requires.kept c.args.token.order c.requires.begins c.args.token.begins
    (ap (λ t. if t then token else marked_token (breaks_under c.args.settings.now c.args.dictionary.now) c.args.settings.now.mark.now token) c.if-token.true)

pub returns-then-token-2 : goal.returns-then-token-2
returns-then-token-2 c =
    let text = c.args.token.text.now in
    let token = slice_range text c.args.token.start c.args.token.end in
    let breaks = breaks_under c.args.settings.now c.args.dictionary.now in
    let mark = c.args.settings.now.mark.now in
    leaves_all text (string_bytes c.args.output.now.text) _ c.args.kept c.args.token.start c.args.token.end c.requires.kept c.args.token.order c.requires.begins c.args.token.begins
    (ap (λ t. if t then token else marked_token breaks mark token) c.if-token.false
    ∙ nothing_marked breaks mark token (ap (λ n. slice_range text n c.args.token.end) c.if-token-2.true ∙ slice_none text c.args.token.end))

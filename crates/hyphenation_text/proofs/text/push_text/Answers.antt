use Rattle.std.proofs.Common.{◌++◌, ◌∙◌, ap, []}
use Rattle.std.specs.String.{string_bytes}
use Rattle.std.proofs.lemmas.Result.{on_ok_weaker}
use Rattle.hyphenation_text.specs.Words.{breaks_under}
use Rattle.hyphenation_text.proofs.MarkedTexts.{Laws, tokens_marked}
use Rattle.hyphenation_text.proofs.text.push_text.Goals as goal

pub returns : goal.returns
returns c =
    let laws : Laws = record { words = c.words_are_slices.ensures.slices; words_join = c.words_are_slices.ensures.join; join = c.segments_join.ensures; joins = c.marked_segments_join.ensures; fit = c.plain_breaks_fit_where_ascending.ensures } in
    let marked = tokens_marked laws (breaks_under c.args.settings.now c.args.dictionary.now) c.args.settings.now.mark.now c.args.touched_before c.args.touched_after [] c.args.text.now c.limited_breaks_fit.ensures c.utf8.text in
    on_ok_weaker c.push_tokens.result (λ e. e ∙ ap (λ xs. string_bytes c.args.output.now.text ++ xs) marked.is) c.push_tokens.ensures

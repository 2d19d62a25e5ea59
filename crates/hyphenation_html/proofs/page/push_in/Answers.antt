use Rattle.std.proofs.Common.{◌++◌, ◌∙◌, ap, sym}
use Rattle.std.specs.String.{string_bytes}
use Rattle.std.specs.Option.{option_map}
use Rattle.std.proofs.lemmas.Result.{on_ok_weaker}
use Rattle.html_pieces.specs.Elements.{as_element}
use Rattle.hyphenation_html.specs.Languages.{coded}
use Rattle.hyphenation_html.proofs.BestLanguages.{marked_by_found}
use Rattle.hyphenation_html.proofs.page.push_in.Goals as goal

pub returns-in-Some : goal.returns-in-Some
returns-in-Some c =
    let is = marked_by_found c.args.settings.now c.args.settings.now.mark.now c.args.text.now (option_map as_element c.args.parent) c.args.before c.args.after c.args.languages.now _
    (sym (ap (option_map (λ l. coded l.now)) c.in-Some.is) ∙ c.in_ok-found.ensures) in
    on_ok_weaker c.push_text.result (λ e. e ∙ ap (λ xs. string_bytes c.args.output.now.text ++ xs) is) c.push_text.ensures

pub returns-in_ok-push_str-in-None : goal.returns-in_ok-push_str-in-None
returns-in_ok-push_str-in-None c =
    let is = marked_by_found c.args.settings.now c.args.settings.now.mark.now c.args.text.now (option_map as_element c.args.parent) c.args.before c.args.after c.args.languages.now _
    (sym (ap (option_map (λ l. coded l.now)) c.in-None.is) ∙ c.in_ok-found.ensures) in
    c.in_ok-push_str-in-None.ensures.bytes ∙ ap (λ xs. string_bytes c.args.output.now.text ++ xs) is

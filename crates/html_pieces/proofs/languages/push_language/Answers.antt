use Rattle.std.proofs.Common.{◌∙◌, ◌++◌, ◌∷◌, [], ap, map, subst, sym}
use Rattle.std.proofs.lemmas.List.{map_push}
use Rattle.std.specs.Str.{IsUtf8}
use Rattle.std.specs.String.{string_bytes}
use Rattle.html_pieces.proofs.LanguageSteps.{has_one_more, not_there, passed_by}
use Rattle.html_pieces.specs.Languages.{with_language}
use Rattle.html_pieces.proofs.languages.push_language.Goals as goal

pub returns-in_ok-insert-in-Ok-clause-pushed : goal.returns-in_ok-insert-in-Ok-clause-pushed
returns-in_ok-insert-in-Ok-clause-pushed c =
    let before = map string_bytes c.args.all.now.items in
    let text = subst IsUtf8 (sym c.in-Ok.ensures.cases.0) c.in-Ok.ensures.cases.1 in
    let there = sym (c.requires c.in-Ok.language.now) ∙ sym c.contains.ensures ∙ c.if-contains.false in
    ap (map string_bytes) c.in_ok-push-in-Ok.ensures.items ∙ map_push string_bytes c.args.all.now.items c.in_ok-from_str-in-Ok.field-0
    ∙ ap (λ bytes. before ++ bytes ∷ []) c.in_ok-from_str-in-Ok.ensures.ok
    ∙ not_there before c.in-Ok.language.now text there ∙ ap (with_language before) c.in-Ok.ensures.cases.0

pub returns-in_ok-insert-in-Ok-clause-these : goal.returns-in_ok-insert-in-Ok-clause-these
returns-in_ok-insert-in-Ok-clause-these c =
    has_one_more c.args.all.now.items c.push.new.self.items c.args.set.now c.insert.new.self c.in_ok-from_str-in-Ok-2.field-0 c.in-Ok.language.now
    c.requires c.in_ok-insert-in-Ok.ensures.updates c.in_ok-from_str-in-Ok-2.ensures.ok
    (ap (map string_bytes) c.in_ok-push-in-Ok.ensures.items ∙ map_push string_bytes c.args.all.now.items c.in_ok-from_str-in-Ok.field-0
    ∙ ap (λ bytes. map string_bytes c.args.all.now.items ++ bytes ∷ []) c.in_ok-from_str-in-Ok.ensures.ok)

pub returns-in-Err-clause-pushed : goal.returns-in-Err-clause-pushed
returns-in-Err-clause-pushed c =
    passed_by (map string_bytes c.args.all.now.items) c.args.language.now c.in-Err.ensures.cases.0

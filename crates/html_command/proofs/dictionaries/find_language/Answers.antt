use Rattle.std.proofs.Common.{◌≡◌, ◌∷◌, ◌++◌, [], ℕ, List, map, subst}
use Rattle.std.specs.Prelude.{Contains, IfSome, None, Option}
use Rattle.std.specs.Option.{option_map}
use Rattle.std.proofs.lemmas.List.Elements.{Contains-push}
use Rattle.command_line.specs.Dictionaries.{IsOfFirst}
use Rattle.command_line.specs.Adjustments.{as_adjustments}
use Rattle.hyphenation_breaks.specs.Borrowed.{texts_now}
use Rattle.hyphenation_html.specs.declared.languages.LanguageDictionary.{LanguageDictionary}
use Rattle.language_search.specs.Paths.{paths_of_code}
use Rattle.html_command.specs.Dictionaries.{IsFirstOf, code_of}
use Rattle.html_command.proofs.Codes.{found_so}
use Rattle.html_command.proofs.Served.{has_code_there, served_after, served_at, served_end}
use Rattle.html_command.proofs.dictionaries.find_language.Goals as goal

pub returns-then-has_code-clause-served : goal.returns-then-has_code-clause-served
returns-then-has_code-clause-served g c =
    let there : List (List ℕ) = map code_of c.args.all.now in
    let has : Contains there c.language-item.result =
    has_code_there c.args.all.now c.language-item.result c.code.result.now c.has_code.result c.code.ensures c.has_code.ensures c.if-has_code.true in
    c.loop-language.invariant.0 there
    (served_at (g.F.NamedFiles.bytes c.args.files.now) (texts_now c.args.folders.now) there c.deref-language-items.result.now c.loop-language.language-index c.language-item.result
    c.loop-language-test.true c.language-item.is has)

pub returns-in-Some-clause-served : goal.returns-in-Some-clause-served
returns-in-Some-clause-served g c =
    let there : List (List ℕ) = map code_of c.args.all.now ++ code_of c.in-Some.found ∷ [] in
    let same : code_of c.in-Some.found ≡ c.language-item.result =
    subst (λ (found : Option LanguageDictionary). IfSome found (λ one. code_of one ≡ c.language-item.result)) c.in-Some.is c.in_ok-found.ensures.code in
    let has : Contains there c.language-item.result =
    subst (λ (code : List ℕ). Contains there code) same (Contains-push (map code_of c.args.all.now) (code_of c.in-Some.found)) in
    c.loop-language.invariant.0 there
    (served_at (g.F.NamedFiles.bytes c.args.files.now) (texts_now c.args.folders.now) there c.deref-language-items.result.now c.loop-language.language-index c.language-item.result
    c.loop-language-test.true c.language-item.is has)

pub loop-language-preserved : goal.loop-language-preserved
loop-language-preserved g c =
    let bytes_of = g.F.NamedFiles.bytes c.args.files.now in
    let folders = texts_now c.args.folders.now in
    let none : IsOfFirst bytes_of (paths_of_code folders c.language-item.result) None =
    subst (λ (found : Option LanguageDictionary). IsFirstOf bytes_of folders (as_adjustments c.args.adjustments.now) c.language-item.result (option_map (λ one. one.dictionary) found)) c.in_default.is c.in_ok-found.ensures.first in (
      λ there served. c.loop-language.invariant.0 there
          (served_after bytes_of folders there c.deref-language-items.result.now c.loop-language.language-index c.language-item.result
          c.loop-language-test.true c.language-item.is none served),
      c.in_ok-found.ensures.others,
    )

pub returns-clause-served : goal.returns-clause-served
returns-clause-served g c =
    let there : List (List ℕ) = map code_of c.args.all.now in
    c.loop-language.invariant.0 there
    (served_end (g.F.NamedFiles.bytes c.args.files.now) (texts_now c.args.folders.now) there c.deref-language-items.result.now c.loop-language.language-index c.loop-language-test.false)

pub returns-in-Some-clause-found : goal.returns-in-Some-clause-found
returns-in-Some-clause-found g c =
    found_so (g.F.NamedFiles.bytes c.args.files.now) (as_adjustments c.args.adjustments.now) (texts_now c.args.folders.now) c.args.tag.now c.deref-language-items.result.now c.in_ok-languages.languages.items c.loop-language.language-index c.language-item.result
    c.in_ok-found.field-0 c.in-Some.found c.loop-language-test.true c.language-item.is c.deref-language-items.ensures.value c.in_ok-languages.ensures c.in-Some.is
    c.in_ok-found.ensures.code c.in_ok-found.ensures.first

use Rattle.std.proofs.Common.{◌≡◌, ◌∙◌, subst}
use Rattle.std.specs.Prelude.{IfSome, Option}
use Rattle.command_line.specs.Adjustments.{as_adjustments}
use Rattle.hyphenation_breaks.specs.Borrowed.{texts_now}
use Rattle.hyphenation_html.specs.declared.languages.LanguageDictionary.{LanguageDictionary}
use Rattle.html_command.specs.Dictionaries.{code_of}
use Rattle.html_command.specs.Private.Found.{Takes}
use Rattle.html_command.proofs.Loaded.{first_left, first_taken, on_ok}
use Rattle.html_command.proofs.dictionaries.find_code.Goals as goal

pub returns-in-Some-clause-first : goal.returns-in-Some-clause-first
returns-in-Some-clause-first g c =
    first_taken (g.F.NamedFiles.bytes c.args.files.now) (as_adjustments c.args.adjustments.now) (texts_now c.args.folders.now) c.args.others.now.items c.take_code.new.others.items c.in-Some.found c.args.language.now
    (subst (λ (taken : Option LanguageDictionary). Takes c.args.others.now.items c.take_code.new.others.items taken) c.in-Some.is c.take_code.ensures.taken)
    c.requires
    (subst (λ (taken : Option LanguageDictionary). IfSome taken (λ one. code_of one ≡ c.code.result.now)) c.in-Some.is c.take_code.ensures.code ∙ c.code.ensures)

pub returns-in-Some-clause-others : goal.returns-in-Some-clause-others
returns-in-Some-clause-others g c =
    first_left (g.F.NamedFiles.bytes c.args.files.now) (as_adjustments c.args.adjustments.now) (texts_now c.args.folders.now) c.args.others.now.items c.take_code.new.others.items c.take_code.result c.take_code.ensures.taken c.requires

pub returns-clause-others : goal.returns-clause-others
returns-clause-others g c =
    on_ok c.load_code.result
    (first_left (g.F.NamedFiles.bytes c.args.files.now) (as_adjustments c.args.adjustments.now) (texts_now c.args.folders.now) c.args.others.now.items c.take_code.new.others.items c.take_code.result c.take_code.ensures.taken c.requires)

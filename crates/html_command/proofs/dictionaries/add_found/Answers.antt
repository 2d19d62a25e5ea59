use Rattle.std.proofs.Common.{subst}
use Rattle.std.specs.Prelude.{IfSome, Option}
use Rattle.command_line.specs.Adjustments.{as_adjustments}
use Rattle.hyphenation_breaks.specs.Borrowed.{texts_now}
use Rattle.hyphenation_html.specs.declared.languages.LanguageDictionary.{LanguageDictionary}
use Rattle.html_command.specs.Dictionaries.{IsFoundFor}
use Rattle.html_command.proofs.Codes.{adds_one}
use Rattle.html_command.proofs.dictionaries.add_found.Goals as goal

pub returns-clause-found : goal.returns-clause-found
returns-clause-found g c =
    let bytes_of = g.F.NamedFiles.bytes c.args.files.now in
    let folders = texts_now c.args.folders.now in
    adds_one bytes_of (as_adjustments c.args.adjustments.now) folders c.args.tag.now c.args.all.now.items c.push.new.all.items c.in-Some.language c.in_ok-push.ensures.pushed
    (subst (λ (found : Option LanguageDictionary). IfSome found (IsFoundFor bytes_of folders (as_adjustments c.args.adjustments.now) c.args.tag.now)) c.in-Some.is c.in_ok-language.ensures.found)

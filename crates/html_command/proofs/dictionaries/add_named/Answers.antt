use Rattle.std.proofs.Common.{◌∷◌, map}
use Rattle.std.specs.String.{string_bytes}
use Rattle.command_line.specs.Adjustments.{as_adjustments}
use Rattle.hyphenation_breaks.specs.Borrowed.{texts_now}
use Rattle.html_pieces.specs.Languages.{languages_of}
use Rattle.html_command.specs.Dictionaries.{code_of}
use Rattle.html_command.proofs.Codes.{begins_added, found_for_all, named_first, named_more, served_all, served_first}
use Rattle.html_command.proofs.dictionaries.add_named.Goals as goal

pub loop-named-init : goal.loop-named-init
loop-named-init g c =
    let bytes_of = g.F.NamedFiles.bytes c.args.files.now in
    let folders = texts_now c.args.folders.now in (
      named_first bytes_of (as_adjustments c.args.adjustments.now) folders c.args.language.now (map string_bytes c.deref-named-items.result.now) c.args.all.now.items c.add_found.new.all.items c.in_ok-add_found.ensures.found,
      served_first bytes_of folders (map code_of c.add_found.new.all.items) c.args.language.now c.in_ok-add_found.ensures.served,
      c.in_ok-add_found.ensures.others,
    )

pub loop-named-preserved : goal.loop-named-preserved
loop-named-preserved g c =
    let more = named_more (g.F.NamedFiles.bytes c.args.files.now) (as_adjustments c.args.adjustments.now) (texts_now c.args.folders.now) c.args.language.now c.deref.result.now c.deref-named-items.result.now c.loop-named.named-index c.named-item.result
    c.args.all.now.items c.loop-named.all.items c.add_found-in-loop-named.new.all.items c.loop-named-test.true c.named-item.is c.deref.ensures
    c.loop-named.invariant.0 c.loop-named.invariant.1 c.in_ok-add_found-2.ensures.found c.in_ok-add_found-2.ensures.served in
    (more.0, more.1, c.in_ok-add_found-2.ensures.others)

pub returns-clause-added : goal.returns-clause-added
returns-clause-added g c =
    begins_added (g.F.NamedFiles.bytes c.args.files.now) (as_adjustments c.args.adjustments.now) (texts_now c.args.folders.now) (c.args.language.now ∷ map string_bytes c.deref-named-items.result.now)
    c.args.all.now.items c.loop-named.all.items c.loop-named.invariant.0

pub returns-clause-found : goal.returns-clause-found
returns-clause-found g c =
    found_for_all (g.F.NamedFiles.bytes c.args.files.now) (as_adjustments c.args.adjustments.now) (texts_now c.args.folders.now) c.args.language.now c.deref-named-items.result.now c.in_ok-languages.languages.items
    (languages_of c.args.page.now) c.args.all.now.items c.loop-named.all.items c.deref-named-items.ensures.value c.in_ok-languages.ensures c.loop-named.invariant.0

pub returns-clause-served : goal.returns-clause-served
returns-clause-served g c =
    served_all (g.F.NamedFiles.bytes c.args.files.now) (texts_now c.args.folders.now) (map code_of c.loop-named.all.items) c.args.language.now c.deref-named-items.result.now c.in_ok-languages.languages.items
    (languages_of c.args.page.now) c.loop-named.named-index c.loop-named-test.false c.deref-named-items.ensures.value c.in_ok-languages.ensures c.loop-named.invariant.1

use Rattle.std.proofs.Common.{arith}
use Rattle.hyphenation_breaks.specs.Borrowed.{texts_now}
use Rattle.html_command.specs.Dictionaries.{tags_for}
use Rattle.html_command.specs.Private.Requests.{parsed_options}
use Rattle.html_command.proofs.Loaded.{as_many_parsed, first_aside, given_left, given_there, loaded_after}
use Rattle.html_command.proofs.dictionaries.load_for_page.Goals as goal

pub set_aside-requires : goal.set_aside-requires
set_aside-requires g c =
    given_there (g.F.NamedFiles.bytes c.args.files.now) (parsed_options c.args.options.now) (texts_now c.args.folders.now) c.args.all.now.items c.args.others.now.items c.len.result
    (as_many_parsed c.args.options.now.given.items c.len.result (omega (arith, c.len.ensures, c.args.options.now.given.ok.0))) c.requires

pub add_searched-requires-clause-given : goal.add_searched-requires-clause-given
add_searched-requires-clause-given g c =
    given_left (g.F.NamedFiles.bytes c.args.files.now) (parsed_options c.args.options.now) (texts_now c.args.folders.now) c.args.all.now.items c.args.others.now.items c.set_aside.new.all.items c.len.result
    (as_many_parsed c.args.options.now.given.items c.len.result (omega (arith, c.len.ensures, c.args.options.now.given.ok.0))) c.in_ok-set_aside.ensures.left c.requires

pub add_searched-requires-clause-others : goal.add_searched-requires-clause-others
add_searched-requires-clause-others g c =
    first_aside (g.F.NamedFiles.bytes c.args.files.now) (parsed_options c.args.options.now) (texts_now c.args.folders.now) c.args.all.now.items c.args.others.now.items c.set_aside.new.others.items c.len.result
    (as_many_parsed c.args.options.now.given.items c.len.result (omega (arith, c.len.ensures, c.args.options.now.given.ok.0))) c.in_ok-set_aside.ensures.set_aside c.requires

pub returns-clause-loaded : goal.returns-clause-loaded
returns-clause-loaded g c =
    loaded_after (g.F.NamedFiles.bytes c.args.files.now) (parsed_options c.args.options.now) (texts_now c.args.folders.now) (tags_for (parsed_options c.args.options.now) c.args.page.now)
    c.add_searched.new.all.items c.add_searched.new.others.items c.in_ok-add_searched.ensures.dictionaries c.in_ok-add_searched.ensures.others

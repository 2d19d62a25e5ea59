use Rattle.std.proofs.Common.{ℕ, List, map, refl, ap, arith}
use Rattle.std.specs.Prelude.{Option, option_map}
use Rattle.std.specs.Borrow.{Bor}
use Rattle.html_command.specs.Dictionaries.{code_of, tags_for}
use Rattle.html_command.specs.Private.Requests.{parsed_options}
use Rattle.hyphenation_breaks.specs.Borrowed.{texts_now}
use Rattle.html_command.proofs.Beginnings.{given_alone, with_folder}
use Rattle.html_command.proofs.Codes.{found_in_folder_of, found_in_usual, given_only, given_some}
use Rattle.html_command.proofs.Given.{codes_of_given}
use Rattle.html_command.proofs.Loaded.{first_for_folder, first_for_usual, first_in_folder, first_in_usual}
use Rattle.html_command.proofs.dictionaries.add_searched.Goals as goal

pub returns-in-Some-clause-codes : goal.returns-in-Some-clause-codes
returns-in-Some-clause-codes g c =
    with_folder (parsed_options c.args.options.now) c.args.options.now.given.items
    (map code_of c.add_named.new.all.items) (map code_of c.args.all.now.items) c.in-Some.folder.now refl
    (ap (λ (folder : Option (Bor (List ℕ))). option_map (λ path. path.now) folder) c.in-Some.is)
    (codes_of_given (g.F.NamedFiles.bytes c.args.files.now) (parsed_options c.args.options.now).adjustments c.args.options.now.given.items c.args.all.now.items c.requires.given)
    c.in_ok-add_named.ensures.added

pub returns-clause-codes : goal.returns-clause-codes
returns-clause-codes g c =
    given_alone (parsed_options c.args.options.now) c.args.options.now.given.items (map code_of c.args.all.now.items) refl
    (codes_of_given (g.F.NamedFiles.bytes c.args.files.now) (parsed_options c.args.options.now).adjustments c.args.options.now.given.items c.args.all.now.items c.requires.given)

pub returns-in-Some-clause-dictionaries : goal.returns-in-Some-clause-dictionaries
returns-in-Some-clause-dictionaries g c =
    found_in_folder_of (g.F.NamedFiles.bytes c.args.files.now) (parsed_options c.args.options.now) (texts_now c.args.folders.now)
    (tags_for (parsed_options c.args.options.now) c.args.page.now) c.in-Some.folder.now
    c.args.options.now.given.items c.args.all.now.items c.add_named.new.all.items refl
    (ap (λ (folder : Option (Bor (List ℕ))). option_map (λ path. path.now) folder) c.in-Some.is)
    c.requires.given c.in_ok-add_named.ensures.found c.in_ok-add_named.ensures.served

pub returns-then-is_empty-clause-dictionaries : goal.returns-then-is_empty-clause-dictionaries
returns-then-is_empty-clause-dictionaries g c =
    found_in_usual (g.F.NamedFiles.bytes c.args.files.now) (parsed_options c.args.options.now) (texts_now c.args.folders.now)
    (tags_for (parsed_options c.args.options.now) c.args.page.now)
    c.args.options.now.given.items c.args.all.now.items c.add_named-then-is_empty.new.all.items refl
    (ap (λ (folder : Option (Bor (List ℕ))). option_map (λ path. path.now) folder) c.in_default.is)
    c.requires.given c.in_ok-add_named-2.ensures.found c.in_ok-add_named-2.ensures.served

pub returns-clause-dictionaries : goal.returns-clause-dictionaries
returns-clause-dictionaries g c =
    given_only (g.F.NamedFiles.bytes c.args.files.now) (parsed_options c.args.options.now) (texts_now c.args.folders.now)
    (tags_for (parsed_options c.args.options.now) c.args.page.now) c.args.options.now.given.items c.args.all.now.items refl
    (given_some c.args.options.now.given.items c.args.options.now.given.len c.is_empty.result (omega (arith, c.args.options.now.given.ok.0)) c.is_empty.ensures c.if-is_empty.false)
    (ap (λ (folder : Option (Bor (List ℕ))). option_map (λ path. path.now) folder) c.in_default.is)
    c.requires.given

pub add_named-requires : goal.add_named-requires
add_named-requires g c =
    first_in_folder (g.F.NamedFiles.bytes c.args.files.now) (parsed_options c.args.options.now) (texts_now c.args.folders.now) c.in-Some.folder.now c.args.others.now.items
    (ap (λ (folder : Option (Bor (List ℕ))). option_map (λ path. path.now) folder) c.in-Some.is) c.requires.others

pub add_named-requires-then-is_empty : goal.add_named-requires-then-is_empty
add_named-requires-then-is_empty g c =
    first_in_usual (g.F.NamedFiles.bytes c.args.files.now) (parsed_options c.args.options.now) (texts_now c.args.folders.now) c.args.others.now.items
    (ap (λ (folder : Option (Bor (List ℕ))). option_map (λ path. path.now) folder) c.in_default.is) c.requires.others

pub returns-in-Some-clause-others : goal.returns-in-Some-clause-others
returns-in-Some-clause-others g c =
    first_for_folder (g.F.NamedFiles.bytes c.args.files.now) (parsed_options c.args.options.now) (texts_now c.args.folders.now) c.in-Some.folder.now c.add_named.new.others.items
    (ap (λ (folder : Option (Bor (List ℕ))). option_map (λ path. path.now) folder) c.in-Some.is) c.in_ok-add_named.ensures.others

pub returns-then-is_empty-clause-others : goal.returns-then-is_empty-clause-others
returns-then-is_empty-clause-others g c =
    first_for_usual (g.F.NamedFiles.bytes c.args.files.now) (parsed_options c.args.options.now) (texts_now c.args.folders.now) c.add_named-then-is_empty.new.others.items
    (ap (λ (folder : Option (Bor (List ℕ))). option_map (λ path. path.now) folder) c.in_default.is) c.in_ok-add_named-2.ensures.others

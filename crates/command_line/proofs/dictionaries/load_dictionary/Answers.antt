use Rattle.std.proofs.Common.{rules, ◌≡◌, map, true, false}
use Rattle.std.proofs.lemmas.Result.{IfOk-weaker}
use Rattle.std.specs.String.{string_bytes}
use Rattle.hyphenation_breaks.specs.Borrowed.{texts_now}
use Rattle.command_line.specs.Dictionaries.{is_path, paths_for, IsFailureOf, IsFirstFailureOf}
use Rattle.command_line.proofs.Files.{first_of_argument, is_error, of_path, paths_of_tag, refused_among}
use Rattle.command_line.proofs.dictionaries.load_dictionary.Goals as goal

pub returns-then-is_path-clause-loaded : goal.returns-then-is_path-clause-loaded
returns-then-is_path-clause-loaded g c =
    let named : is_path c.args.argument.now ≡ true = search rules in
    IfOk-weaker c.load_file.result _ _ (λ d h. of_path _ _ c.args.argument.now named d h) c.load_file.ensures.loaded

pub returns-in_err-dictionary-clause-failure : goal.returns-in_err-dictionary-clause-failure
returns-in_err-dictionary-clause-failure g c =
    let tag : is_path c.args.argument.now ≡ false = search rules in
    let paths : map string_bytes c.deref.result.now ≡ paths_for (texts_now c.args.folders.now) c.args.argument.now = search (rules, paths_of_tag, tag) in
    is_error (IsFailureOf (g.F.NamedFiles.bytes c.args.files.now) (texts_now c.args.folders.now) c.args.argument.now) _ c.in_err-dictionary.field-0.0 (search rules)
    (refused_among (g.F.NamedFiles.bytes c.args.files.now) (texts_now c.args.folders.now) c.args.argument.now (map string_bytes c.deref.result.now) c.in_err-dictionary.field-0.0 paths c.in_err-dictionary.ensures.failure)

pub returns-in_err-dictionary-clause-first : goal.returns-in_err-dictionary-clause-first
returns-in_err-dictionary-clause-first g c tag =
    let paths : map string_bytes c.deref.result.now ≡ paths_for (texts_now c.args.folders.now) c.args.argument.now = search (rules, paths_of_tag, tag) in
    is_error (IsFirstFailureOf (g.F.NamedFiles.bytes c.args.files.now) (texts_now c.args.folders.now) c.args.argument.now) _ c.in_err-dictionary.field-0.0 (search rules)
    (first_of_argument (g.F.NamedFiles.bytes c.args.files.now) (texts_now c.args.folders.now) c.args.argument.now (map string_bytes c.deref.result.now) c.in_err-dictionary.field-0.0 paths c.in_err-dictionary.ensures.first)

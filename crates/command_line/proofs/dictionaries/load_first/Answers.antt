use Rattle.std.proofs.Common.{◌≡◌, ℕ, List, map, take, ◌+◌, rules, subst}
use Rattle.std.specs.Prelude.{Option, None}
use Rattle.std.specs.String.{string_bytes}
use Rattle.command_line.specs.Dictionaries.{IsOfFileIfThere, IsOfFirst, IsRefusedFirst}
use Rattle.command_line.proofs.Files.{found_before_others, is_error, not_absent, one_more_path, refused_before_others}
use Rattle.command_line.proofs.dictionaries.load_first.Goals as goal

pub returns-in-Some-clause-found : goal.returns-in-Some-clause-found
returns-in-Some-clause-found g c =
    let bytes_of : List ℕ → Option (Option (List ℕ)) = g.F.NamedFiles.bytes c.args.files.now in
    found_before_others bytes_of c.args.paths.now c.loop-path.path-index c.in-Some.dictionary
    (subst (λ found. IsOfFirst bytes_of (map string_bytes (take (c.loop-path.path-index + 1) c.args.paths.now)) found) c.in-Some.is
    (one_more_path bytes_of c.args.paths.now c.loop-path.path-index c.path-item.result c.in_ok-dictionary.field-0 c.loop-path-test.true c.path-item.is
    c.loop-path.invariant
    (subst (λ path. IsOfFileIfThere (bytes_of path) c.in_ok-dictionary.field-0) c.deref.ensures c.in_ok-dictionary.ensures.found)))

pub loop-path-preserved : goal.loop-path-preserved
loop-path-preserved g c =
    let bytes_of : List ℕ → Option (Option (List ℕ)) = g.F.NamedFiles.bytes c.args.files.now in
    let none : c.in_ok-dictionary.field-0 ≡ None = search rules in
    subst (λ found. IsOfFirst bytes_of (map string_bytes (take (c.loop-path.path-index + 1) c.args.paths.now)) found) none
    (one_more_path bytes_of c.args.paths.now c.loop-path.path-index c.path-item.result c.in_ok-dictionary.field-0 c.loop-path-test.true c.path-item.is
    c.loop-path.invariant
    (subst (λ path. IsOfFileIfThere (bytes_of path) c.in_ok-dictionary.field-0) c.deref.ensures c.in_ok-dictionary.ensures.found))

pub returns-in_err-dictionary-clause-first : goal.returns-in_err-dictionary-clause-first
returns-in_err-dictionary-clause-first g c =
    let bytes_of : List ℕ → Option (Option (List ℕ)) = g.F.NamedFiles.bytes c.args.files.now in
    let failed = c.in_err-dictionary.field-0.0 in
    is_error (IsRefusedFirst bytes_of (map string_bytes c.args.paths.now)) _ failed (search rules)
    (refused_before_others bytes_of c.args.paths.now c.loop-path.path-index c.path-item.result failed c.loop-path-test.true c.path-item.is
    c.loop-path.invariant (search (rules, not_absent)) (search rules))

-- The page begins as before, so it can be cut back.
use Rattle.std.proofs.Common.{◌≤◌, ◌∙◌, subst}
use Rattle.std.specs.String.{string_bytes}
use Rattle.std.proofs.lemmas.Str.{IsUtf8-string_bytes}
use Rattle.linefill.proofs.CutBack.{cut_back}
use Rattle.linefill.proofs.run.push_lines.Goals as goal

pub truncate-requires : goal.truncate-requires
truncate-requires c = λ within.
    let now = c.push_each.new.page in
    let before = c.args.page.now in
    cut_back (string_bytes now) (string_bytes before) c.len-before.result (IsUtf8-string_bytes now) (IsUtf8-string_bytes before) c.in-Err.ensures.begins_as_before (c.len-before.ensures ∙ before.bytes.ok.0) (subst (λ k. c.len-before.result ≤ k) now.bytes.ok.0 within)

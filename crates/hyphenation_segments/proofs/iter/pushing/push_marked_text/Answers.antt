use Rattle.std.proofs.Common.{◌≤◌, ◌∙◌, subst}
use Rattle.std.specs.String.{string_bytes}
use Rattle.std.proofs.lemmas.Str.{IsUtf8-string_bytes}
use Rattle.hyphenation_segments.proofs.Pushing.{cut_back}
use Rattle.hyphenation_segments.proofs.iter.pushing.push_marked_text.Goals as goal

pub truncate-requires : goal.truncate-requires
truncate-requires g c = λ within.
    let now = c.push_segments.new.output in
    let before = c.args.output.now in
    cut_back (string_bytes now) (string_bytes before) c.len-before.result (IsUtf8-string_bytes now) (IsUtf8-string_bytes before) c.in-Err.ensures.begins_as_before (c.len-before.ensures ∙ before.bytes.ok.0) (subst (λ k. c.len-before.result ≤ k) now.bytes.ok.0 within)

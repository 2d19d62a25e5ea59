use Rattle.std.proofs.Common.{◌++◌, ap, sym, ◌∙◌}
use Rattle.std.specs.String.{string_bytes}
use Rattle.paragraphs.specs.Words.{if_any}
use Rattle.paragraphs.specs.Private.Gathered.{texts_of}
use Rattle.paragraphs.proofs.WordLists.{feed}
use Rattle.paragraphs.proofs.GatheredWords.{blank_passed, line_passed, line_added}
use Rattle.paragraphs.proofs.gathering.pass_line.Goals as goal

pub returns : goal.returns
returns c =
    let gathered = string_bytes c.args.gathered.now in
    let line = c.args.line.now in
    let new = string_bytes c.push.new.self in
    line_passed (texts_of c.args.all.now.items) gathered line new c.utf8.line (sym c.if-is_blank.ensures)
    (line_added gathered line (string_bytes c.push_str.new.self) new _ (c.in_ok-push_str.ensures.bytes ∙ ap (λ g. g ++ line) c.in_ok-make_room.ensures) c.in_ok-push.ensures.bytes feed)

pub returns-then-is_blank : goal.returns-then-is_blank
returns-then-is_blank c =
    let all = texts_of c.args.all.now.items in
    blank_passed all (string_bytes c.args.gathered.now) c.args.line.now (texts_of c.push_if_any.new.all.items) (string_bytes c.replace.new.dest) (sym c.if-is_blank.ensures)
    (c.in_ok-push_if_any.ensures ∙ ap (λ g. all ++ if_any (string_bytes g)) c.replace.ensures.value)
    (ap string_bytes c.replace.ensures.after ∙ c.new.ensures.bytes)

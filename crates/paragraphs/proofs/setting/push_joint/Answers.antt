use Rattle.std.proofs.Common.{◌≡◌, ◌++◌, length, get_or, ap, sym, ◌∙◌, append-nil, arith, rules}
use Rattle.std.proofs.lemmas.Str.{encode_ascii}
use Rattle.std.specs.String.{string_bytes}
use Rattle.paragraphs.proofs.Printable.{one_space, no_bytes}
use Rattle.paragraphs.proofs.setting.push_joint.Goals as goal

pub returns-then-bytes-eq0 : goal.returns-then-bytes-eq0
returns-then-bytes-eq0 c =
    let line = string_bytes c.args.line.now in
    let none : length c.args.joint.now ≡ 0 = search (rules, arith) in
    sym (ap (λ j. line ++ j) (no_bytes c.args.joint.now none) ∙ append-nil line)

pub returns-then-bytes-eq32 : goal.returns-then-bytes-eq32
returns-then-bytes-eq32 c =
    let line = string_bytes c.args.line.now in
    let joint = c.args.joint.now in
    let one : length joint ≡ 1 = search (rules, arith) in
    let is : get_or joint 0 0 ≡ 32 = search rules in
    c.in_ok-push.ensures.bytes ∙ ap (λ j. line ++ j) (encode_ascii 32 (omega arith) ∙ sym (one_space joint one is))

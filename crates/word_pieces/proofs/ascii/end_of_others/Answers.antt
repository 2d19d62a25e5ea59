use Rattle.std.proofs.Common.{◌≡◌, true, false, ◌+◌, ◌<◌, Some, length, slice_index, sym, ap, subst, ◌∙◌, rules, arith}
use Rattle.std.proofs.lemmas.Option.{same_Some}
use Rattle.word_pieces.specs.Private.Kinds.{is_near, kind_of_byte, verdict}
use Rattle.word_pieces.specs.Private.Walks.{IsPlainEnd}
use Rattle.word_pieces.proofs.PlainWalks.{IsPlainWalk, IsPlainWalk-start, IsPlainWalk-step, IsPlainEnd-verdict, IsPlainEnd-end}
use Rattle.word_pieces.proofs.ascii.end_of_others.Goals as goal

pub bytes-init : goal.bytes-init
bytes-init c =
    let s = c.args.text.now in
    let start = c.args.start in (
      search (rules, arith),
      subst (IsPlainWalk s start (start + 1)) c.requires.first
          (IsPlainWalk-start s c.utf8.text start c.requires.some c.requires.start (ap is_near c.requires.first ∙ c.requires.near)),
    )

pub returns-in-Some-true : goal.returns-in-Some-true
returns-in-Some-true c x same =
    let s = c.args.text.now in
    let inside : c.bytes.at < length s = search rules in
    let broken : verdict c.bytes.last (kind_of_byte (slice_index s c.bytes.at)) ≡ Some true = search rules in
    subst (IsPlainEnd s c.args.start) (same_Some _ _ same)
    (IsPlainEnd-verdict s c.utf8.text c.args.start c.bytes.at c.bytes.last c.bytes.invariant.1 inside broken)

pub bytes-preserved : goal.bytes-preserved
bytes-preserved c =
    let s = c.args.text.now in
    let inside : c.bytes.at < length s = search rules in
    let kind : c.kind_of-next.result ≡ kind_of_byte (slice_index s c.bytes.at) = search rules in
    let joined : verdict c.bytes.last (kind_of_byte (slice_index s c.bytes.at)) ≡ Some false = search rules in (
      search (rules, arith),
      subst (IsPlainWalk s c.args.start (c.bytes.at + 1)) (sym kind)
          (IsPlainWalk-step s c.utf8.text c.args.start c.bytes.at c.bytes.last c.bytes.invariant.1 inside joined),
    )

pub returns : goal.returns
returns c x same =
    let s = c.args.text.now in
    subst (IsPlainEnd s c.args.start) (same_Some _ _ same)
    (IsPlainEnd-end s c.utf8.text c.args.start c.bytes.at c.bytes.last c.bytes.invariant.1 (search (rules, arith)))

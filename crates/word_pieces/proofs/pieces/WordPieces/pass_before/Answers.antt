use Rattle.std.proofs.Common.{refl, sym, rules, arith, []}
use Rattle.std.proofs.lemmas.List.Elements.{All-nil}
use Rattle.std.proofs.lemmas.Str.{IsUtf8-had}
use Rattle.word_pieces.specs.Pieces.{pieces_left, pieces_offset, EndsBy}
use Rattle.word_pieces.proofs.Bounds.{PassesBefore-bound}
use Rattle.word_pieces.proofs.pieces.WordPieces.pass_before.Goals as goal

pub returns-in-Some : goal.returns-in-Some
unfolding pieces_left pieces_offset
returns-in-Some c =
    let s = c.args.self.now in
    let bound = c.bound_before_letter.ensures c.in-Some.bound (search rules) in
    PassesBefore-bound s.text.now (IsUtf8-had _ s.utf8) s.front c.in-Some.bound c.args.place (omega (arith, bound.1)) bound.2 s.boundary bound.0

pub returns-in_default : goal.returns-in_default
unfolding pieces_left pieces_offset
returns-in_default c = ([], refl, All-nil (EndsBy c.args.place))

pub invariant_of-self : goal.invariant_of-self
invariant_of-self c =
    let s = c.args.self.now in
    let bound = c.bound_before_letter.ensures c.in-Some.bound (search rules) in
    record { utf8 = s.utf8; boundary = bound.0.0; flag = sym bound.0.2 }

use Rattle.std.proofs.Common.{sym, subst}
use Rattle.hyphenation_reader.specs.Private.Builder.{items_held}
use Rattle.hyphenation_breaks.specs.Invariant.{IsDictionary}
use Rattle.hyphenation_grammar.specs.Lines.{lines_of}
use Rattle.hyphenation_reader.proofs.ReadingInvariant.{parts-make, contents-kept}
use Rattle.hyphenation_reader.proofs.reader.unfrozen_of.Goals as goal

pub returns-clause-contents : goal.returns-clause-contents
returns-clause-contents g c =
    rw (c.into_parts-patterns.ensures.patterns, c.into_parts-patterns.ensures.exceptions)
    (parts-make c.args.form.version g.C.Payload.payload_of g.B.Listing.listing_of (lines_of c.args.bytes.now) c.args.head.language (c.args.head.left, c.args.head.right) (items_held c.args.builder) c.requires.head.second c.requires.head.third c.requires.spelt)

pub returns-clause-sound : goal.returns-clause-sound
returns-clause-sound g c =
    rw (c.into_parts-patterns.ensures.patterns, c.into_parts-patterns.ensures.exceptions) (subst (IsDictionary g.C.Payload.change_of g.B.Break.meaning)
    (sym (parts-make c.args.form.version g.C.Payload.payload_of g.B.Listing.listing_of (lines_of c.args.bytes.now) c.args.head.language (c.args.head.left, c.args.head.right) (items_held c.args.builder) c.requires.head.second c.requires.head.third c.requires.spelt))
    (contents-kept c.spelt_is_sound.ensures g.C.Payload.payload_of g.B.Listing.listing_of g.C.Payload.change_of g.B.Break.meaning g.met.C.Payload.carried_or_none g.met.B.Listing.listed_or_plain c.args.form (lines_of c.args.bytes.now) c.requires.accepted))

pub returns-clause-begins : goal.returns-clause-begins
returns-clause-begins g c = rw c.into_parts-patterns.ensures.patterns c.requires.begins

use Rattle.std.specs.String.{string_bytes}
use Rattle.std.proofs.lemmas.Str.{IsUtf8-string_bytes}
use Rattle.hyphenation_dictionary.proofs.InvariantLemmas.{IsKept-insert}
use Rattle.hyphenation_dictionary.proofs.dictionary.Dictionary.insert_exception.Goals as goal

pub invariant_of-self-2 : goal.invariant_of-self-2
invariant_of-self-2 g c =
    (c.self.invariant.0, c.self.invariant.1, rw c.in_ok-old.ensures.listed (IsKept-insert g.C.Payload.change_of g.B.Break.meaning _ (string_bytes c.args.word) c.args.listed.items c.self.invariant.2 (record { utf8 = IsUtf8-string_bytes c.args.word; ascend = c.requires })))

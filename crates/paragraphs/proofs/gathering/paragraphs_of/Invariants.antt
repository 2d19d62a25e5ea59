use Rattle.std.proofs.Common.{◌≡◌, ℕ, List, [], ◌++◌, map}
use Rattle.std.specs.String.{string_bytes}
use Rattle.paragraphs.specs.Paragraphs.{gather}
use Rattle.paragraphs.specs.Private.Gathered.{AreGathered}
use Rattle.paragraphs.proofs.gathering.paragraphs_of.Given as goal

-- Whatever lines follow, those so far are gathered, with all their words.
abbrev pub invariant-loop-line : goal.invariant-loop-line
invariant-loop-line l = record {
  paragraphs : (others : List (List ℕ)) → map string_bytes l.all.items ++ gather (string_bytes l.gathered) others
      ≡ gather [] (map (λ x. x.now) l.yielded ++ others);
  words : AreGathered (map string_bytes l.all.items) (string_bytes l.gathered) (map (λ x. x.now) l.yielded);
}

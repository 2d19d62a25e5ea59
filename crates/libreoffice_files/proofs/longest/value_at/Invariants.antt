use Rattle.std.proofs.Common.{◌≡◌, ◌+◌, ◌==◌, filter, take}
use Rattle.hyphenation_score.specs.Scoring.{greatest_value}
use Rattle.libreoffice_files.proofs.longest.value_at.Given as goal

abbrev pub invariant-loop-entry : goal.invariant-loop-entry
invariant-loop-entry g l = l.value ≡ greatest_value (filter (λ entry. entry.place == l.start + l.place) (take l.entry-index l.entries))

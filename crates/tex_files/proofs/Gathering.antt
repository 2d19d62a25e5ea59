-- The keys and words of files, one file more at a time.
use Rattle.std.proofs.Common.{◌≡◌, ap, ◌∙◌}
use Rattle.std.proofs.lemmas.List.{append_assoc}
use Rattle.pattern_results.specs.Parts.{SpeltWords}
use Rattle.tex_files.specs.Converting.{one_after_other}

pub followed_assoc : {C B : Type 0} (a b c : SpeltWords C B) → one_after_other (one_after_other a b) c ≡ one_after_other a (one_after_other b c)
followed_assoc a b c = λ i. record { patterns = append_assoc a.patterns b.patterns c.patterns i; exceptions = append_assoc a.exceptions b.exceptions c.exceptions i }

-- a file that is taken in, and then others
pub file_taken : {C B : Type 0} (now new own rest all : SpeltWords C B) → new ≡ one_after_other now own → one_after_other now (one_after_other own rest) ≡ all → one_after_other new rest ≡ all
file_taken {C} {B} now new own rest all step so_far = ap (λ (s : SpeltWords C B). one_after_other s rest) step ∙ followed_assoc now own rest ∙ so_far

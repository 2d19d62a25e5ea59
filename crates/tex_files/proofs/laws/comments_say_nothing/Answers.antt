use Rattle.tex_files.proofs.Lexing.{of_words, of_fault, pieces-comment, pieces-last_comment}
use Rattle.tex_files.proofs.laws.comments_say_nothing.Goals as goal

pub returns : goal.returns
returns c = record {
  words = λ form before comment after free. of_words form _ _ (pieces-comment before comment after free);
  fault = λ form before comment after free. of_fault form _ _ (pieces-comment before comment after free);
  last_words = λ form before comment free. of_words form _ _ (pieces-last_comment before comment free);
  last_fault = λ form before comment free. of_fault form _ _ (pieces-last_comment before comment free);
}

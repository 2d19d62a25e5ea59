use Rattle.tex_files.proofs.Listings.{last_counts}
use Rattle.tex_files.proofs.exception_list.the_last_line_counts.Goals as goal

pub returns : goal.returns
returns g c = λ dictionary listings word. last_counts dictionary listings word

use Rattle.written_texts.proofs.Prefixes.{may_cut}
use Rattle.written_texts.proofs.prefix.after.Goals as goal

pub split_at-requires : goal.split_at-requires
split_at-requires c = may_cut c.args.text.now c.args.place c.utf8.text c.requires

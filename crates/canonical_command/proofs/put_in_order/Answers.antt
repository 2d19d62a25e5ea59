use Rattle.std.proofs.Common.{refl, inl}
use Rattle.canonical_command.proofs.put_in_order.Goals as goal

pub returns-in-Ok-clause-written : goal.returns-in-Ok-clause-written
returns-in-Ok-clause-written g c = (c.in_ok-dictionary.dictionary, c.in_ok-dictionary.ensures.loaded, c.in-Ok.ensures.written)

pub returns : goal.returns
returns g c = record {
  written = tt;
  failure = (c.in_ok-dictionary.dictionary, c.in_ok-dictionary.ensures.loaded);
  unread = c.load.ensures.unread;
  untouched = inl refl;
}

-- The bytes that were read are those that the reader had left.
use Rattle.hyphenation_load.proofs.Reading.{loaded_as_left, read_to_end, never_mismatched, never_out_of_memory}
use Rattle.hyphenation_load.proofs.StandardLoad.any_from_reader.Goals as goal

pub returns-clause-loaded : goal.returns-clause-loaded
returns-clause-loaded g c =
    loaded_as_left (λ bytes. bytes.items) _ _ (g.R.Read.remaining c.args.reader.now) c.read_all.result _ c.read_all.ensures.read c.from_read.ensures.loaded c.from_read.ensures.memory c.from_read.ensures.io_error

pub returns-clause-read_to_end : goal.returns-clause-read_to_end
returns-clause-read_to_end g c = read_to_end c.read_all.result c.from_read.result _ c.read_all.ensures.read_to_end c.from_read.ensures.memory c.from_read.ensures.io_error

pub returns-clause-no_mismatch : goal.returns-clause-no_mismatch
returns-clause-no_mismatch g c = never_mismatched _ _ c.read_all.result c.from_read.result c.from_read.ensures.loaded c.from_read.ensures.memory c.from_read.ensures.io_error

pub returns-clause-not_out_of_memory : goal.returns-clause-not_out_of_memory
returns-clause-not_out_of_memory g c = never_out_of_memory c.read_all.result c.from_read.result c.from_read.ensures.no_io_error c.from_read.ensures.memory c.from_read.ensures.io_error

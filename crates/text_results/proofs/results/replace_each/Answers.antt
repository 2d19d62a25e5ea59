use Rattle.std.proofs.Common.{drop, map}
use Rattle.std.specs.String.{string_bytes}
use Rattle.hyphenation_breaks.specs.Borrowed.{texts_now}
use Rattle.text_results.proofs.ReplacedFiles.{replaced_all_of, replaced_more_at}
use Rattle.text_results.proofs.results.replace_each.Goals as goal

pub returns-in_default-clause-written : goal.returns-in_default-clause-written
returns-in_default-clause-written g c =
    replaced_all_of string_bytes (g.S.ReplaceFiles.written c.args.store.now) (g.S.ReplaceFiles.written c.loop-name.store) (texts_now c.args.inputs.now) (map string_bytes c.args.results.now)
    (texts_now (drop c.loop-name.name-index c.args.inputs.now)) c.loop-name.others.now c.in_default.ensures.cases c.loop-name.invariant

pub loop-name-preserved : goal.loop-name-preserved
loop-name-preserved g c =
    replaced_more_at string_bytes (g.S.ReplaceFiles.written c.args.store.now) (g.S.ReplaceFiles.written c.loop-name.store) (g.S.ReplaceFiles.written c.replace.new.store)
    (texts_now c.args.inputs.now) (map string_bytes c.args.results.now) c.args.inputs.now c.loop-name.name-index _ c.loop-name.others.now c.in-Some.more.now c.in-Some.one.now c.as_bytes.result.now
    c.loop-name-test.true c.in-Some.ensures.cases.0 c.as_bytes.ensures.value c.loop-name.invariant c.in_ok-replace.ensures.written

use Rattle.std.proofs.Common.{◌∙◌, ap, arith}
use Rattle.std.proofs.lemmas.Grind.{common_steps}
use Rattle.std.specs.FinMap as finite
use Rattle.hyphenation_dictionary.specs.Parts.{patterns_of}
use Rattle.hyphenation_dictionary.proofs.MakerInvariant.{one_more}
use Rattle.hyphenation_dictionary.proofs.PatternsLemmas.{patterns_of-insert}
use Rattle.hyphenation_dictionary.proofs.maker.trie_of.Goals as goal

pub loop-key-preserved : goal.loop-key-preserved
loop-key-preserved g c =
    let inserted = patterns_of-insert _ c.loop-key.trie c.insert.new.self c.as_bytes.result.now c.in-Some.entries.items c.invariant.ensures c.invariant-in-loop-key.ensures c.in_ok-insert.ensures.key_set in
    record {
      keys = one_more (patterns_of c.loop-key.trie) (patterns_of c.insert.new.self) (c.in-Some.key, c.in-Some.entries) _ _ _
          (inserted ∙ ap (λ k. finite.insert (patterns_of c.loop-key.trie) k c.in-Some.entries.items) c.as_bytes.ensures.value) c.in-Some.ensures.steps.0 c.loop-key.invariant.keys;
      begins = c.in_ok-insert.ensures.begins c.loop-key.invariant.begins;
    }

pub returns-in_err-trie-clause-keys : goal.returns-in_err-trie-clause-keys
returns-in_err-trie-clause-keys g c = grind (arith, common_steps)

pub returns-in_err-trie-clause-begins : goal.returns-in_err-trie-clause-begins
returns-in_err-trie-clause-begins g c = grind (arith, common_steps)

pub loop-key-init : goal.loop-key-init
loop-key-init g c = grind (arith, common_steps)

pub returns-in_err-insert-clause-keys : goal.returns-in_err-insert-clause-keys
returns-in_err-insert-clause-keys g c = grind (arith, common_steps)

pub returns-in_err-insert-clause-begins : goal.returns-in_err-insert-clause-begins
returns-in_err-insert-clause-begins g c = grind (arith, common_steps)

pub returns-clause-keys : goal.returns-clause-keys
returns-clause-keys g c = grind (arith, common_steps)

pub returns-clause-begins : goal.returns-clause-begins
returns-clause-begins g c = c.loop-key.invariant.begins

use Rattle.std.proofs.Common.{◌≡◌, ℕ, ◌+◌, List, [], slice_index, Some, None, sym, subst, ◌∙◌, arith}
use Rattle.std.specs.Prelude.{IfSome, slice_index_or}
use Rattle.std.proofs.lemmas.List.{get_or_default}
use Rattle.std.proofs.lemmas.Option.{IfSome_then}
use Rattle.std.proofs.lemmas.Result.{IfOk-weaker}
use Rattle.hyphenation_trie.specs.Private.Known.{IsKnown, IsRaisedBy}
use Rattle.hyphenation_trie.specs.Pairs.{IsPairAt}
use Rattle.hyphenation_trie.specs.Private.Vectors.{IsKnownAt}
use Rattle.hyphenation_trie.specs.Trie.{node_text, entries_of_key}
use Rattle.hyphenation_trie.specs.Vectors.{AreNearEntries}
use Rattle.hyphenation_trie.proofs.KnownNodes.{known_at, known_key, known_none}
use Rattle.hyphenation_trie.proofs.table.vectors.number_of.Goals as goal

pub returns-in_default-clause-known : goal.returns-in_default-clause-known
returns-in_default-clause-known g c =
    let was = c.requires.known in
    let vector : List ℕ = slice_index_or c.args.pairs.now.vectors.items c.args.number [] in
    let count : ℕ = slice_index c.args.pairs.now.counts.items c.args.number in
    record {
      within = was.within;
      known = known_none g.C.Payload.rank_of c.args.automaton.now c.invariant.ensures c.args.node c.args.link vector count c.requires.node.0 c.requires.node.1 c.requires.link was.known
          (subst (λ t. None ≡ entries_of_key t (node_text t c.args.node)) c.automaton.view_is c.in_default.ensures.key);
    }

pub returns-clause-known : goal.returns-clause-known
returns-clause-known g c =
    let rank = g.C.Payload.rank_of in
    let tree = c.args.automaton.now in
    let was = c.requires.known in
    let text : List ℕ = node_text tree c.args.link in
    let vector : List ℕ = c.index-2.result.now in
    let count : ℕ = c.index.result.now in
    let vector_is : vector ≡ slice_index_or c.args.pairs.now.vectors.items c.args.number [] = c.index-2.ensures ∙ get_or_default c.args.pairs.now.vectors.items c.args.number vector [] was.within in
    let count_is : count ≡ slice_index c.args.pairs.now.counts.items c.args.number = c.index.ensures ∙ get_or_default c.args.pairs.now.counts.items c.args.number count 0 (omega (arith, was.within, c.requires.pairs.are_pairs.counts_of)) in
    let known : IsKnown rank (entries_of_key tree) text vector count = subst (λ (v : List ℕ). IsKnown rank (entries_of_key tree) text v count) (sym vector_is)
    (subst (λ (n : ℕ). IsKnown rank (entries_of_key tree) text (slice_index_or c.args.pairs.now.vectors.items c.args.number []) n) (sym count_is) was.known) in
    let made = c.in-Some-raised_by in
    let more : count + 1 ≡ c.in-Some-checked_add.count = sym c.in-Some-checked_add.ensures.1 in
    let new = known_key rank tree c.invariant.ensures c.args.node c.args.link vector made.raised count c.in-Some.entries.now c.requires.node.0 c.requires.node.1 c.requires.link known
    (subst (λ t. Some c.in-Some.entries.now ≡ entries_of_key t (node_text t c.args.node)) c.automaton.view_is c.in-Some.ensures.key)
    (subst (λ (n : ℕ). IsRaisedBy rank vector made.raised c.in-Some.entries.now n) c.depth.ensures made.ensures.raised)
    (subst (λ (n : ℕ). AreNearEntries c.in-Some.entries.now n) c.depth.ensures made.ensures.near) in
    let vectors : List (List ℕ) = c.find_or_add.new.self.vectors.items in
    let counts : List ℕ = c.find_or_add.new.self.counts.items in
    IfOk-weaker c.find_or_add.result (λ o. IfSome o (λ number. IsPairAt vectors counts number made.raised c.in-Some-checked_add.count)) (λ o. IfSome o (λ number. IsKnownAt rank tree vectors counts number c.args.node))
    (λ o some. IfSome_then o some (λ number pair. known_at rank tree vectors counts number c.args.node made.raised c.in-Some-checked_add.count pair
    (subst (λ (n : ℕ). IsKnown rank (entries_of_key tree) (node_text tree c.args.node) made.raised n) more new)))
    c.find_or_add.ensures.number

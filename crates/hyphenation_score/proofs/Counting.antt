-- Bounds on the counts of a search.
use Rattle.std.proofs.Common.{◌≡◌, ℕ, ◌+◌, List, length, subst, arith, inl, inr}
use Rattle.std.specs.Prelude.{Result, Ok, Err, IsOk, IsErr}
use Rattle.std.proofs.Math.Nat.{mul-le-mul_right}
use Rattle.std.proofs.lemmas.Bool.{cases_eq}
use Rattle.hyphenation_breaks.specs.declared.entry.Entry.{Entry}
use Rattle.hyphenation_trie.specs.Counts.{Counts}
use Rattle.hyphenation_trie.specs.Trie.{Tree, entries_of_key, IsTrie}
use Rattle.hyphenation_score.specs.Counting.{CountsWithin, IsZeroWithoutKeys}
use Rattle.hyphenation_score.specs.OnePass.{occurrences}
use Rattle.hyphenation_score.specs.Scoring.{frame}
use Rattle.hyphenation_score.proofs.OnePassInvariant.{Passed, passed_reported}

-- An error is not a success.
pub err_not_ok : {X E : Type 0} (r : Result X E) → IsErr r → IsOk r → ⊥
err_not_ok (Ok x) is ok = cc
err_not_ok (Err e) is ok = cc

-- A search that was not begun keeps the counts, and has not ended.
pub counts_kept : (bytes longest occurring : ℕ) (counts : Counts) (ended : Type 0) → (ended → ⊥) → CountsWithin bytes longest occurring counts counts ended
counts_kept bytes longest occurring counts ended not = record {
  most = omega arith;
  linear = omega arith;
  made_grows = omega arith;
  reported_grows = omega arith;
  reported_at_most = omega arith;
  each_byte = λ is. absurd (not is);
  each_occurrence = λ is. absurd (not is);
}

-- After a search all is counted, whatever its caller returns then.
pub counts_ended : (bytes longest occurring : ℕ) (old new : Counts) (ended : Type 0) → CountsWithin bytes longest occurring old new (Unit {0}) → CountsWithin bytes longest occurring old new ended
counts_ended bytes longest occurring old new ended counts = record {
  most = counts.most;
  linear = counts.linear;
  made_grows = counts.made_grows;
  reported_grows = counts.reported_grows;
  reported_at_most = counts.reported_at_most;
  each_byte = λ is. counts.each_byte tt;
  each_occurrence = λ is. counts.each_occurrence tt;
}

pub counts_same : (bytes bytes' longest occurring occurring' : ℕ) (old new : Counts) (ended : Type 0) → bytes ≡ bytes' → occurring ≡ occurring'
    → CountsWithin bytes longest occurring old new ended → CountsWithin bytes' longest occurring' old new ended
counts_same bytes bytes' longest occurring occurring' old new ended same alike counts =
    subst (λ (n : ℕ). CountsWithin n longest occurring' old new ended) same (subst (λ (n : ℕ). CountsWithin bytes longest n old new ended) alike counts)

-- The counts after the last byte of the frame.
pub counts_passed : {C S State : Type 0} {meaning : S → State} {after : State → Entry C → State} (tree : Tree (Entry C)) (word : List ℕ) → IsTrie tree → {first slots : List S} {at node : ℕ} (old new : Counts) (longest : ℕ)
    → Passed meaning after tree word first at node slots old.made old.reported new.made new.reported → at ≡ length word + 2 → IsZeroWithoutKeys (entries_of_key tree) longest
    → CountsWithin (length word) longest (occurrences (entries_of_key tree) (frame word)) old new (Unit {0})
counts_passed tree word trie {at = at} old new longest p is none =
    let reported = passed_reported tree word trie p is in
    record {
      most = elim (cases_eq longest 0) [
        | inl zero_is ↦
            let alone = p.alone (none zero_is) in
            let times = mul-le-mul_right {m = 1} {n = longest + 1} (length word + 2) (omega arith) in
            omega arith
        | inr apart ↦
            let linear = p.most in
            let times = mul-le-mul_right {m = 2} {n = longest + 1} (length word + 2) (omega arith) in
            omega arith
      ];
      linear = omega (arith, p.most);
      made_grows = omega (arith, p.least);
      reported_grows = omega (arith, reported);
      reported_at_most = omega (arith, reported);
      each_byte = λ ended. omega (arith, p.least);
      each_occurrence = λ ended. reported;
    }

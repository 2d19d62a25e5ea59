use Rattle.std.proofs.Common.{◌≡◌, ℕ, ◌+◌, ◌<◌, Bool, true, false, List, nat_lt, refl, subst, arith, inl, inr}
use Rattle.std.specs.Prelude.{◌||◌, IsFalse, slice_index}
use Rattle.std.proofs.lemmas.Bool.{and_parts, cases_lt}
use Rattle.std.proofs.lemmas.Bool.Decides.{nat_tests}
use Rattle.libhyphen_files.specs.Levels.{Level}
use Rattle.libhyphen_files.specs.Ordinary.{IsOrdinary}
use Rattle.libhyphen_files.specs.Vectors.{BeginsNoKey}
use Rattle.libhyphen_rule.proofs.calls.look_at.Goals as goal

-- A fact of the bytes before an index, and of the one there, is one of all up to it.
one_more : (P : ℕ → Type 0) (text : List ℕ) (index : ℕ) → ((k : ℕ) → k < index → P (slice_index text k)) → P (slice_index text index)
    → (k : ℕ) → k < index + 1 → P (slice_index text k)
one_more P text index before here k next_level = elim (cases_lt k index) [
  | inl lt ↦ before k lt
  | inr le ↦ let same : index ≡ k = omega (arith, next_level, le) in subst (λ (at : ℕ). P (slice_index text at)) same here
]

neither : (a b : Bool) → IsFalse (a || b) → IsFalse a × IsFalse b
neither true b h = absurd (cc)
neither false b h = (refl, h)

pub loop-byte-preserved : goal.loop-byte-preserved
loop-byte-preserved c =
    let text = c.args.text.now in
    let index = c.loop-byte.byte-index in
    let was = c.loop-byte.invariant in
    let first_level : c.first_level-first_level.result.now ≡ c.args.dictionary.now.first_level = c.first_level-first_level.ensures in
    let begins_at : IsFalse c.may_begin-counts-in-loop-byte.result → BeginsNoKey c.args.dictionary.now.first_level.patterns (slice_index text index) =
    λ none. subst (λ (level : Level). BeginsNoKey level.patterns (slice_index text index)) first_level (c.may_begin-counts-in-loop-byte.ensures.none none) in
    record {
      ordinary = λ both.
          let parts = and_parts c.loop-byte.ordinary c.is_ordinary-ordinary.result both in
          one_more (IsOrdinary c.args.dictionary.now) text index (was.ordinary parts.0) (c.is_ordinary-ordinary.ensures parts.1);
      dotted = λ none. was.dotted (neither c.loop-byte.counts c.may_begin-counts-in-loop-byte.result none).0;
      each = λ none.
          let parts = neither c.loop-byte.counts c.may_begin-counts-in-loop-byte.result none in
          one_more (BeginsNoKey c.args.dictionary.now.first_level.patterns) text index (was.each parts.0) (begins_at parts.1);
      ascii = λ both.
          let parts = and_parts c.loop-byte.ascii (nat_lt (slice_index text index) 128) both in
          let small : nat_lt (slice_index text index) 128 ≡ true = parts.1 in
          one_more (λ b. b < 128) text index (was.ascii parts.0) (grind (arith, nat_tests, small));
    }

use Rattle.std.proofs.Common.{◌≡◌, ◌⊎◌, ℕ, map, inl, inr}
use Rattle.std.specs.String.{string_bytes}
use Rattle.text_command.specs.Private.Requests.{parsed_options}
use Rattle.text_command.proofs.Runs.{results_end}
use Rattle.text_command.proofs.run.results_of_texts.Goals as goal

one_ends : {S T : Type 0} {P : S → Type 0} {Q : T → Type 0} {m n : ℕ}
    → ((s : S) × ((m ≡ 0) × P s)) ⊎ ((t : T) × ((n ≡ 0) × Q t)) → (m ≡ 0) ⊎ (n ≡ 0)
one_ends (inl ended) = inl ended.1.0
one_ends (inr ended) = inr ended.1.0

pub returns : goal.returns
returns c =
    let iterator = c.loop-name.name-iterator in
    results_end (λ name. name.now) string_bytes (parsed_options c.args.options.now) c.args.dictionary.now (map string_bytes c.loop-name.results.items) _
    iterator.a.rest.now iterator.b.rest.now c.loop-name.invariant (one_ends c.in-None.ensures.steps)

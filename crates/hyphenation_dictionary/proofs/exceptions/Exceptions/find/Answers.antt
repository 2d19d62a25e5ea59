use Rattle.std.proofs.Common.{◌≡◌, ◌∙◌, sym, ap, List, Option, None, Some, Vec, Global}
use Rattle.std.specs.Prelude.{MatchOption, option_copied}
use Rattle.std.specs.Option.{option_map, IsSomeAnd}
use Rattle.std.specs.Borrow.{Bor}
use Rattle.hyphenation_dictionary.proofs.ExceptionsLemmas.{get-exceptions_of}
use Rattle.hyphenation_dictionary.proofs.exceptions.Exceptions.find.Goals as goal

as_slices : {B : Type 0} (P : Bor (Vec B Global) → Bor (List B) → Type 0) → ((v : Bor (Vec B Global)) (s : Bor (List B)) → P v s → s.now ≡ v.now.items)
    → (found : Option (Bor (Vec B Global))) (result : Option (Bor (List B))) → MatchOption found (result ≡ None) (λ v. IsSomeAnd result (P v)) → option_copied result ≡ option_map (λ v. v.items) (option_copied found)
as_slices P same None result h = ap option_copied h
as_slices P same (Some v) None h = absurd h
as_slices P same (Some v) (Some s) h = ap Some (same v s h)

pub returns : goal.returns
returns g c =
    rw (← c.self.view_is) (
    as_slices _ (λ v s h. h.0) c.get.result c.map.result c.map.ensures.cases
    ∙ ap (option_map (λ v. v.items)) c.get.ensures.value ∙ sym (get-exceptions_of c.self.inside.words c.args.word.now))
